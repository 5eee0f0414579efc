-- A wait that needs nothing of what changed, nor of the blocks of the ask that ends by time, does not end.
use Rattle.std.proofs.Common.{◌≡◌, ℕ, zero, suc, ◌+◌, ◌*◌, ◌^◌, ◌<◌, ◌≤◌, Bool, true, false, ◌&&◌, ◌||◌, cond, Option, Some, None, List, [], ◌∷◌, ◌++◌, length, max, min, refl, sym, ap, ◌∙◌, arith, eqb}
use Rattle.std.specs.Prelude.{nat_lt}
use Rattle.std.specs.List.{AllByRecursion}
use Rattle.std.proofs.lemmas.Bool.Decides.{nat_tests}
use Rattle.cf_ask_rule.proofs.Wanting.{flag, flag_below, some_between}
use Rattle.cf_ask_rule.specs.Narrowing.{AreAlike, IsAround, reaches_into, why_near}
use Rattle.cf_ask_rule.specs.Places.{places}
use Rattle.cf_base.specs.declared.ids.ItemId.{ItemId}
use Rattle.cf_base.specs.declared.ids.Key.{Key}
use Rattle.cf_base.specs.declared.spans.Span.{Span}
use Rattle.cf_base.specs.declared.waits.Ask.{Ask}
use Rattle.cf_base.specs.declared.waits.AskKind.{AskKind}
use Rattle.cf_base.specs.declared.waits.AskKind.TheVariants as ask_kind
use Rattle.cf_base.specs.declared.waits.Cause.TheVariants as cause
use Rattle.cf_model.specs.Asks.{cause_if, misses_in, or_met, waits_by, waits_for}
use Rattle.cf_model.specs.Missing.{View, Wait, is_met, misses_block, needed}
use Rattle.cf_model.specs.Numbers.{same_key}
use Rattle.cf_model.specs.Requests.{Expires, Leaves, Live, is_data, live_of}
use Rattle.cf_model.specs.Words.{counting}

untrue : (b : Bool) → (b ≡ true → ⊥) → b ≡ false
untrue true f = absurd (f refl)
untrue false f = refl

not_both : (b : Bool) → b ≡ true → b ≡ false → ⊥
not_both true h k = let z : true ≡ false = k in cc
not_both false h k = let z : false ≡ true = h in cc

pub none_leaves : (item : ItemId) (v : View) (key : Key) (blocks : List ℕ) (start end : ℕ) (w : Wait) → ((eqb w.item.0 item.0) && reaches_into (needed v w) start end) ≡ false → why_near item v (Leaves key blocks) None start end w ≡ None
none_leaves item v key blocks start end w h = one (eqb w.item.0 item.0) (reaches_into (needed v w) start end) (is_met v w) h where
  one : (b r m : Bool) → (b && r) ≡ false → cond b (or_met None (r && m)) None ≡ None
  one true true m e = let z : true ≡ false = e in cc
  one true false m e = refl
  one false r m e = refl

-- the blocks of the ask lie around

reached : (s n from to p : ℕ) → from ≤ p → p < to → s ≤ p → p < s + n → nat_lt (max s from) (min (s + n) to) ≡ true
reached s n from to p a b c d = grind (arith, nat_tests)

pub misses_none : (v : View) (w : Wait) (from to : ℕ) (owned : List ℕ) → length v.lacks ≤ 2 ^ 24 → AllByRecursion (λ b. (from ≤ 4096 * b) × (min (4096 * b + 4096) (2 ^ 32) ≤ to)) owned → reaches_into (needed v w) from to ≡ false → misses_in v owned w ≡ false
misses_none v w from to [] small h away = refl
misses_none v w from to (b ∷ bs) small h away = ap (λ c. c || misses_in v bs w) first ∙ misses_none v w from to bs small h.1 away where
  first : misses_block v w b ≡ false
  first = untrue (misses_block v w b) (λ t.
      let n : Span = needed v w in
      let r : (p : ℕ) × (max n.start (4096 * b) ≤ p) × (p < min (n.start + n.len) (4096 * b + 4096)) × (flag v.lacks p ≡ true) = some_between v.lacks (max n.start (4096 * b)) (min (n.start + n.len) (4096 * b + 4096)) t in
      let low : max n.start (4096 * b) ≤ r.0 = r.1 in
      let high : r.0 < min (n.start + n.len) (4096 * b + 4096) = r.2 in
      let below : r.0 < length v.lacks = flag_below v.lacks r.0 r.3 in
      let a : from ≤ 4096 * b = h.0.0 in
      let c : min (4096 * b + 4096) (2 ^ 32) ≤ to = h.0.1 in
      not_both (reaches_into n from to) (reached n.start n.len from to r.0 (omega arith) (omega arith) (omega arith) (omega arith)) away)

waits_data : (kind : AskKind) (v : View) (a : Live) (w : Wait) → is_data kind ≡ true → misses_in v a.owned w ≡ false → waits_by kind v a w ≡ false
waits_data ask_kind.Fetch v a w d h = h
waits_data ask_kind.Validate v a w d h = h
waits_data ask_kind.List v a w d h = let z : false ≡ true = d in cc
waits_data ask_kind.Dehydrate v a w d h = let z : false ≡ true = d in cc

waits_none : (v : View) (ask : Option Live) (from to : ℕ) (w : Wait) → length v.lacks ≤ 2 ^ 24 → ((a : Live) → ask ≡ Some a → is_data a.ask.kind ≡ true) → IsAround from to ask → reaches_into (needed v w) from to ≡ false → waits_for v ask w ≡ false
waits_none v None from to w small bytes around away = refl
waits_none v (Some a) from to w small bytes around away = waits_data a.ask.kind v a w (bytes a refl) (misses_none v w from to a.owned small around away)

less_reach : (s n start end from to : ℕ) → from ≤ start → end ≤ to → nat_lt (max s from) (min (s + n) to) ≡ false → nat_lt (max s start) (min (s + n) end) ≡ false
less_reach s n start end from to a b h = grind (arith, nat_tests)

pub none_expires : (item : ItemId) (v : View) (key : Key) (ask : Option Live) (start end from to : ℕ) (w : Wait) → length v.lacks ≤ 2 ^ 24 → from ≤ start → end ≤ to → ((a : Live) → ask ≡ Some a → is_data a.ask.kind ≡ true) → IsAround from to ask
    → ((eqb w.item.0 item.0) && reaches_into (needed v w) from to) ≡ false → why_near item v (Expires key) ask start end w ≡ None
none_expires item v key ask start end from to w small low high bytes around h = one (eqb w.item.0 item.0) h where
  one : (b : Bool) → (b && reaches_into (needed v w) from to) ≡ false → cond b (or_met (cause_if (waits_for v ask w) cause.TimedOut) (reaches_into (needed v w) start end && is_met v w)) None ≡ None
  one true away =
      ap (λ c. or_met (cause_if c cause.TimedOut) (reaches_into (needed v w) start end && is_met v w)) (waits_none v ask from to w small bytes around away)
      ∙ ap (λ c. or_met None (c && is_met v w)) (less_reach (needed v w).start (needed v w).len start end from to low high away)
  one false away = refl

-- where all of some asks are for bytes, the live one is

data_alike : (xs ys : List Live) → AreAlike xs ys → AllByRecursion (λ a. is_data a.ask.kind ≡ true) ys → AllByRecursion (λ a. is_data a.ask.kind ≡ true) xs
data_alike [] [] h d = tt
data_alike [] (y ∷ ys) h d = absurd h
data_alike (x ∷ xs) [] h d = absurd h
data_alike (x ∷ xs) (y ∷ ys) h d = (ap (λ (k : Ask). is_data k.kind) (sym h.0) ∙ d.0, data_alike xs ys h.3 d.1)

live_data : (key : Key) (xs : List Live) (a : Live) → AllByRecursion (λ a. is_data a.ask.kind ≡ true) xs → live_of xs key ≡ Some a → is_data a.ask.kind ≡ true
live_data key [] a d l = let z : ◌≡◌ {A = Option Live} None (Some a) = l in cc
live_data key (x ∷ xs) a d l = one (same_key x.ask.key key) l (live_data key xs a d.1) where
  one : (c : Bool) → cond c (Some x) (live_of xs key) ≡ Some a → (live_of xs key ≡ Some a → is_data a.ask.kind ≡ true) → is_data a.ask.kind ≡ true
  one true k f = let q : x ≡ a = cc in ap (λ (y : Live). is_data y.ask.kind) (sym q) ∙ d.0
  one false k f = f k

pub own_data : (key : Key) (xs ys : List Live) (ask : Option Live) (a : Live) → AreAlike xs ys → AllByRecursion (λ a. is_data a.ask.kind ≡ true) ys → ask ≡ live_of xs key → ask ≡ Some a → is_data a.ask.kind ≡ true
own_data key xs ys ask a alike d own is = live_data key xs a (data_alike xs ys alike d) (sym own ∙ is)

-- of the runs of an ask

block_around : (lo hi s n b : ℕ) → lo ≤ s → min (s + n) (2 ^ 32) ≤ hi → s ≤ b → b < s + n → (4096 * min lo (2 ^ 32) ≤ 4096 * b) × (min (4096 * b + 4096) (2 ^ 32) ≤ 4096 * min hi (2 ^ 32))
block_around lo hi s n b l h a c = (omega arith, omega arith)

pub all_counting : (P : ℕ → Type 0) (s n : ℕ) → ((b : ℕ) → s ≤ b → b < s + n → P b) → AllByRecursion P (counting s n)
all_counting P s zero f = tt
all_counting P s (suc n) f = (f s (omega arith) (omega arith), all_counting P (s + 1) n (λ b l h. f b (omega arith) (omega arith)))

pub all_append : (P : ℕ → Type 0) (xs ys : List ℕ) → AllByRecursion P xs → AllByRecursion P ys → AllByRecursion P (xs ++ ys)
all_append P [] ys h k = k
all_append P (x ∷ xs) ys h k = (h.0, all_append P xs ys h.1 k)

pub around_runs : (lo hi : ℕ) (runs : List Span) → AllByRecursion (λ r. lo ≤ r.start) runs → AllByRecursion (λ r. min (r.start + r.len) (2 ^ 32) ≤ hi) runs
    → AllByRecursion (λ b. (4096 * min lo (2 ^ 32) ≤ 4096 * b) × (min (4096 * b + 4096) (2 ^ 32) ≤ 4096 * min hi (2 ^ 32))) (places runs)
around_runs lo hi [] l h = tt
around_runs lo hi (r ∷ rs) l h = all_append (λ b. (4096 * min lo (2 ^ 32) ≤ 4096 * b) × (min (4096 * b + 4096) (2 ^ 32) ≤ 4096 * min hi (2 ^ 32))) (counting r.start r.len) (places rs)
    (all_counting (λ b. (4096 * min lo (2 ^ 32) ≤ 4096 * b) × (min (4096 * b + 4096) (2 ^ 32) ≤ 4096 * min hi (2 ^ 32))) r.start r.len (λ b a c. block_around lo hi r.start r.len b l.0 h.0 a c)) (around_runs lo hi rs l.1 h.1)

-- the start and the end may be given otherwise
pub around_wider : (from to start end : ℕ) (owned : List ℕ) → start ≤ from → to ≤ end → AllByRecursion (λ b. (from ≤ 4096 * b) × (min (4096 * b + 4096) (2 ^ 32) ≤ to)) owned → AllByRecursion (λ b. (start ≤ 4096 * b) × (min (4096 * b + 4096) (2 ^ 32) ≤ end)) owned
around_wider from to start end [] l h g = tt
around_wider from to start end (b ∷ bs) l h g =
    let a : from ≤ 4096 * b = g.0.0 in
    let c : min (4096 * b + 4096) (2 ^ 32) ≤ to = g.0.1 in
    ((omega arith, omega arith), around_wider from to start end bs l h g.1)
