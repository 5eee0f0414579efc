-- What a step changes on a settled item, where only what changed was looked at.
use Rattle.std.proofs.Common.{◌≡◌, ℕ, zero, suc, ◌+◌, ◌/◌, ◌^◌, ◌<◌, ◌≤◌, ◌⊎◌, inl, inr, Bool, true, false, ◌&&◌, ◌||◌, not, cond, Option, Some, None, List, [], ◌∷◌, ◌++◌, length, refl, sym, ap, subst, ◌∙◌, arith, eqb}
use Rattle.std.specs.Prelude.{filter, is_some, map}
use Rattle.std.specs.List.{AllByRecursion, list_any}
use Rattle.std.proofs.lemmas.Bool.{cases_lt}
use Rattle.std.proofs.lemmas.Bool.Decides.{nat_tests}
use Rattle.cf_ask_rule.proofs.Beginning.{filter_all, hit, none_of}
use Rattle.cf_ask_rule.proofs.Filters.{all_filter, all_then, filter_same, not_both, or_left}
use Rattle.cf_ask_rule.proofs.Narrow.{in_blocks, untouched_wanted, wanted_before}
use Rattle.cf_ask_rule.proofs.Settling.{filter_none, no_list, none_open}
use Rattle.cf_ask_rule.specs.Deeds.{after}
use Rattle.cf_ask_rule.specs.Narrowing.{IsWithin, Narrows, is_touched}
use Rattle.cf_ask_rule.specs.Near.{IsFull}
use Rattle.cf_ask_rule.specs.Plans.{plan_of}
use Rattle.cf_ask_rule.specs.Settled.{IsSettled}
use Rattle.cf_base.specs.declared.ids.ItemId.{ItemId}
use Rattle.cf_base.specs.declared.ids.Key.{Key}
use Rattle.cf_base.specs.declared.waits.Ask.{Ask}
use Rattle.cf_base.specs.declared.waits.AskKind.{AskKind}
use Rattle.cf_base.specs.declared.waits.AskKind.TheVariants as ask_kind
use Rattle.cf_base.specs.declared.waits.Cause.{Cause}
use Rattle.cf_base.specs.declared.waits.Cause.TheVariants as cause
use Rattle.cf_model.specs.Asks.{after_deed, ask_of_run, cause_if, dehydrate_ask, dehydrate_asks, is_cancelled, is_idle, is_idle_by, is_over, is_owned, is_wanted, left_of, list_ask, list_asks, misses_in, new_asks, or_met, released, runs_of, waits_by, waits_for, why}
use Rattle.cf_model.specs.Missing.{View, Wait, is_met, misses_block}
use Rattle.cf_model.specs.Numbers.{same_key}
use Rattle.cf_model.specs.Requests.{Deed, Expires, Leaves, Live, has_block, is_data, is_dehydrate_wait, is_list, is_list_wait, live_of}
use Rattle.cf_model.specs.Words.{counting, is_empty, when}

-- truth values and lists

both : (a b : Bool) → (a && b) ≡ true → (a ≡ true) × (b ≡ true)
both true b h = (refl, h)
both false b h = let z : false ≡ true = h in cc

either : (a b : Bool) → (a || b) ≡ true → (a ≡ true) ⊎ (b ≡ true)
either true b h = inl refl
either false b h = inr h

or_right : (a b : Bool) → b ≡ true → (a || b) ≡ true
or_right true b e = refl
or_right false b e = e

third : (a b c : Bool) → (a && not b && c) ≡ false → a ≡ true → b ≡ false → c ≡ false
third true false c h e f = h
third true true c h e f = let z : true ≡ false = f in cc
third false b c h e f = let z : false ≡ true = e in cc

pub none_any : {A : Type 0} (p : A → Bool) (xs : List A) → list_any p xs ≡ false → AllByRecursion (λ x. p x ≡ false) xs
none_any p [] h = tt
none_any p (x ∷ xs) h = (first (p x) (list_any p xs) h, none_any p xs (second (p x) (list_any p xs) h)) where
  first : (a b : Bool) → (a || b) ≡ false → a ≡ false
  first true b z = let y : true ≡ false = z in cc
  first false b z = refl

  second : (a b : Bool) → (a || b) ≡ false → b ≡ false
  second true b z = let y : true ≡ false = z in cc
  second false b z = z

pub all_both : {A : Type 0} (P Q : A → Type 0) (xs : List A) → AllByRecursion P xs → AllByRecursion Q xs → AllByRecursion (λ x. P x × Q x) xs
all_both P Q [] h g = tt
all_both P Q (x ∷ xs) h g = ((h.0, g.0), all_both P Q xs h.1 g.1)

any_where : {A : Type 0} (f g : A → Bool) (xs : List A) → AllByRecursion (λ x. f x ≡ true → g x ≡ true) xs → list_any f xs ≡ true → list_any g xs ≡ true
any_where f g [] h t = t
any_where f g (x ∷ xs) h t = elim (either (f x) (list_any f xs) t) [
  | inl e ↦ or_left (g x) (list_any g xs) (h.0 e)
  | inr e ↦ or_right (g x) (list_any g xs) (any_where f g xs h.1 e)
]

none_kept : {A : Type 0} (p q : A → Bool) (xs : List A) → list_any p xs ≡ false → list_any p (filter q xs) ≡ false
none_kept p q [] h = h
none_kept {A} p q (x ∷ xs) h = one (p x) (q x) refl (none_kept p q xs) h where
  one : (a b : Bool) → p x ≡ a → (list_any p xs ≡ false → list_any p (filter q xs) ≡ false) → (a || list_any p xs) ≡ false → list_any p (cond b (x ∷ filter q xs) (filter q xs)) ≡ false
  one true b e more k = let z : true ≡ false = k in cc
  one false true e more k = ap (λ c. c || list_any p (filter q xs)) e ∙ more k
  one false false e more k = more k

-- of the asks after a deed

any_after : (d : Deed) (q f g : Live → Bool) (xs : List Live) → AllByRecursion (λ a. f a ≡ true → ((is_over d (after_deed d a) ≡ false) × (q (after_deed d a) ≡ true)) × (g (after_deed d a) ≡ true)) xs
    → list_any f xs ≡ true → list_any g (filter q (after d xs)) ≡ true
any_after d q f g [] h t = t
any_after d q f g (a ∷ xs) h t = elim (either (f a) (list_any f xs) t) [
  | inl e ↦ here (is_over d (after_deed d a)) (h.0 e).0.0 (q (after_deed d a)) refl (h.0 e)
  | inr e ↦ more (is_over d (after_deed d a)) (any_after d q f g xs h.1 e)
] where
  rest : List Live
  rest = after d xs

  here : (o : Bool) → o ≡ false → (b : Bool) → q (after_deed d a) ≡ b → ((is_over d (after_deed d a) ≡ false) × (q (after_deed d a) ≡ true)) × (g (after_deed d a) ≡ true) → list_any g (filter q (cond (not o) (after_deed d a ∷ rest) rest)) ≡ true
  here true z b e k = let y : true ≡ false = z in cc
  here false z true e k = ap (λ c. list_any g (cond c (after_deed d a ∷ filter q rest) (filter q rest))) e ∙ or_left (g (after_deed d a)) (list_any g (filter q rest)) k.1
  here false z false e k = absurd (not_both (q (after_deed d a)) k.0.1 e)

  more : (o : Bool) → list_any g (filter q rest) ≡ true → list_any g (filter q (cond (not o) (after_deed d a ∷ rest) rest)) ≡ true
  more true k = k
  more false k = one (q (after_deed d a)) where
    one : (b : Bool) → list_any g (cond b (after_deed d a ∷ filter q rest) (filter q rest)) ≡ true
    one true = or_right (g (after_deed d a)) (list_any g (filter q rest)) k
    one false = k

all_after : (d : Deed) (P : Live → Type 0) (xs : List Live) → AllByRecursion (λ a. is_over d (after_deed d a) ≡ false → P (after_deed d a)) xs → AllByRecursion P (after d xs)
all_after d P [] h = tt
all_after d P (a ∷ xs) h = one (is_over d (after_deed d a)) refl (all_after d P xs h.1) where
  one : (o : Bool) → is_over d (after_deed d a) ≡ o → AllByRecursion P (after d xs) → AllByRecursion P (cond (not o) (after_deed d a ∷ after d xs) (after d xs))
  one true e more = more
  one false e more = (h.0 e, more)

-- data asks are idle where no block is wanted

was_wanted : (kind : AskKind) (item : ItemId) (v : View) (ws : List Wait) (a : Live) (x : Bool) → is_data kind ≡ true → x ≡ true → (x && is_idle_by kind item v ws a) ≡ false → list_any (is_wanted item v ws) a.owned ≡ true
was_wanted ask_kind.Fetch item v ws a true d e h = hit (list_any (is_wanted item v ws) a.owned) h
was_wanted ask_kind.Validate item v ws a true d e h = hit (list_any (is_wanted item v ws) a.owned) h
was_wanted ask_kind.List item v ws a true d e h = let z : false ≡ true = d in cc
was_wanted ask_kind.Dehydrate item v ws a true d e h = let z : false ≡ true = d in cc
was_wanted kind item v ws a false d e h = let z : false ≡ true = e in cc

pub not_idle : (kind : AskKind) (item : ItemId) (v : View) (ws : List Wait) (a : Live) (x : Bool) → is_data kind ≡ true → (x ≡ true → list_any (is_wanted item v ws) a.owned ≡ true) → (x && is_idle_by kind item v ws a) ≡ false
not_idle ask_kind.Fetch item v ws a true d h = ap not (h refl)
not_idle ask_kind.Validate item v ws a true d h = ap not (h refl)
not_idle ask_kind.List item v ws a true d h = let z : false ≡ true = d in cc
not_idle ask_kind.Dehydrate item v ws a true d h = let z : false ≡ true = d in cc
not_idle kind item v ws a false d h = refl

pub some_owned : (w : ℕ → Bool) (owned : List ℕ) (b : ℕ) → has_block owned b ≡ true → w b ≡ true → list_any w owned ≡ true
some_owned w [] b h t = let z : false ≡ true = h in cc
some_owned w (x ∷ xs) b h t = elim (either (eqb x b) (has_block xs b) h) [
  | inl e ↦ or_left (w x) (list_any w xs) (ap w (same x b e) ∙ t)
  | inr e ↦ or_right (w x) (list_any w xs) (some_owned w xs b e t)
] where
  same : (x b : ℕ) → eqb x b ≡ true → x ≡ b
  same x b e = grind (arith, nat_tests)

nonempty : (owned : List ℕ) (b : ℕ) → has_block owned b ≡ true → is_empty owned ≡ false
nonempty [] b h = let z : false ≡ true = h in cc
nonempty (x ∷ xs) b h = refl

not_over : (x : Bool) (owned : List ℕ) (b : ℕ) → has_block owned b ≡ true → (x && is_empty owned) ≡ false
not_over true owned b h = nonempty owned b h
not_over false owned b h = refl

has_other : (blocks owned : List ℕ) (b : ℕ) → has_block blocks b ≡ false → has_block owned b ≡ true → has_block (filter (λ c. not (has_block blocks c)) owned) b ≡ true
has_other blocks [] b f t = t
has_other blocks (x ∷ xs) b f t = one (has_block blocks x) refl (has_other blocks xs b f) (either (eqb x b) (has_block xs b) t) where
  same : (x b : ℕ) → eqb x b ≡ true → x ≡ b
  same x b e = grind (arith, nat_tests)

  one : (c : Bool) → has_block blocks x ≡ c → (has_block xs b ≡ true → has_block (filter (λ c. not (has_block blocks c)) xs) b ≡ true) → (eqb x b ≡ true) ⊎ (has_block xs b ≡ true) → has_block (cond (not c) (x ∷ filter (λ c. not (has_block blocks c)) xs) (filter (λ c. not (has_block blocks c)) xs)) b ≡ true
  one true e more (inl k) = absurd (not_both (has_block blocks x) e (ap (has_block blocks) (same x b k) ∙ f))
  one true e more (inr k) = more k
  one false e more (inl k) = or_left (eqb x b) (has_block (filter (λ c. not (has_block blocks c)) xs) b) k
  one false e more (inr k) = or_right (eqb x b) (has_block (filter (λ c. not (has_block blocks c)) xs) b) (more k)

-- each number of a list in order

at_counting : (P : ℕ → Type 0) (i n b : ℕ) → AllByRecursion P (counting i n) → i ≤ b → b < i + n → P b
at_counting P i zero b h l m = absurd (omega arith)
at_counting P i (suc n) b h l m = elim (cases_lt i b) [
  | inl e ↦ at_counting P (i + 1) n b h.1 (omega arith) (omega arith)
  | inr e ↦ let k : i ≡ b = omega arith in subst P k h.0
]

open_none : (w o : Bool) → (w && not o) ≡ false → w ≡ true → o ≡ true
open_none w true h t = refl
open_none true false h t = let z : true ≡ false = h in cc
open_none false false h t = let z : false ≡ true = t in cc

list_none : (a : Live) (l k : Bool) → when (l && not k) (a ∷ []) ≡ [] → k ≡ false → l ≡ false
list_none a true false h e = let z : ◌≡◌ {A = List Live} (a ∷ []) [] = h in cc
list_none a true true h e = e
list_none a false k h e = refl

no_listing : (item : ItemId) (asks : List Live) → AllByRecursion (λ a. is_data a.ask.kind ≡ true) asks → list_any (λ a. (eqb a.ask.item.0 item.0) && is_list a.ask.kind) asks ≡ false
no_listing item [] h = refl
no_listing item (a ∷ asks) h = ap (λ b. b || list_any (λ a. (eqb a.ask.item.0 item.0) && is_list a.ask.kind) asks) (one (eqb a.ask.item.0 item.0) a.ask.kind h.0) ∙ no_listing item asks h.1 where
  one : (x : Bool) (kind : AskKind) → is_data kind ≡ true → (x && is_list kind) ≡ false
  one true ask_kind.Fetch d = refl
  one true ask_kind.Validate d = refl
  one true ask_kind.List d = let z : false ≡ true = d in cc
  one true ask_kind.Dehydrate d = refl
  one false kind d = refl

module _ (item : ItemId) (u v : View) (start end lo hi : ℕ) (waits : List Wait) (asks : List Live) (f : Wait → Option Cause) (narrow : Narrows u v start end) (small : length v.lacks ≤ 2 ^ 24) (low : lo ≤ start) (high : end ≤ hi)
    (reach : AllByRecursion (λ w. is_some (f w) ≡ true → IsWithin v lo hi w) waits) (settled : IsSettled item u waits asks) where
  abbrev left : List Wait
  left = left_of f waits

  -- an ask that is not touched does not become idle
  stays : (key : Key) (a : Live) → is_data a.ask.kind ≡ true → is_idle item u waits a ≡ false → same_key a.ask.key key ≡ false → is_touched item key lo hi a ≡ false → is_idle item v left a ≡ false
  stays key a bytes awaited other out = not_idle a.ask.kind item v left a (eqb a.ask.item.0 item.0) bytes
      (λ on. untouched_wanted item u v start end lo hi f waits a.owned narrow small low high reach (was_wanted a.ask.kind item u waits a (eqb a.ask.item.0 item.0) bytes on awaited)
      (third (eqb a.ask.item.0 item.0) (same_key a.ask.key key) (list_any (in_blocks lo hi) a.owned) out on other))

  -- each wanted block was owned
  owned_before : (b : ℕ) → b < (length v.lacks + 4095) / 4096 → is_wanted item v left b ≡ true → is_owned item asks b ≡ true
  owned_before b l t =
      let size : length v.lacks ≡ length u.lacks = narrow.size in
      open_none (is_wanted item u waits b) (is_owned item asks b)
      (at_counting (λ b. (is_wanted item u waits b && not (is_owned item asks b)) ≡ false) 0 ((length u.lacks + 4095) / 4096) b
      (none_of (λ b. is_wanted item u waits b && not (is_owned item asks b)) (counting 0 ((length u.lacks + 4095) / 4096)) settled.owned) (omega arith) (omega arith))
      (wanted_before item u v start end f waits b narrow t)

  -- where each wanted block has its owner still, no ask is made
  none_made : (kept : List Live) → AllByRecursion (λ a. is_data a.ask.kind ≡ true) asks → AllByRecursion (λ w. is_dehydrate_wait w.kind ≡ false) waits → ((b : ℕ) → is_wanted item v left b ≡ true → is_owned item asks b ≡ true → is_owned item kept b ≡ true) → new_asks item v left kept ≡ []
  none_made kept bytes plain owners =
      ap (λ (bs : List ℕ). map (ask_of_run item v.base) (runs_of v bs) ++ list_asks item left kept ++ dehydrate_asks item left kept)
      (none_open (is_wanted item v left) (is_owned item kept) ((length v.lacks + 4095) / 4096) 0 ((length v.lacks + 4095) / 4096) (omega arith) (λ b l t. owners b t (owned_before b l t)))
      ∙ ap (λ (l : List Live). l ++ dehydrate_asks item left kept) listed ∙ consented
    where
      listed : list_asks item left kept ≡ []
      listed = no_list item (list_any (λ w. (eqb w.item.0 item.0) && is_list_wait w.kind) left) (list_any (λ a. (eqb a.ask.item.0 item.0) && is_list a.ask.kind) kept) (λ t. absurd (not_both (list_any (λ w. (eqb w.item.0 item.0) && is_list_wait w.kind) left) t
          (none_kept (λ (w : Wait). (eqb w.item.0 item.0) && is_list_wait w.kind) (λ w. not (is_some (f w))) waits
          (list_none (list_ask item) (list_any (λ w. (eqb w.item.0 item.0) && is_list_wait w.kind) waits) (list_any (λ a. (eqb a.ask.item.0 item.0) && is_list a.ask.kind) asks) settled.listed (no_listing item asks bytes)))))

      unlike : (x y z : Bool) → y ≡ false → (x && y && not z) ≡ false
      unlike true y z e = ap (λ b. b && not z) e
      unlike false y z e = refl

      consented : dehydrate_asks item left kept ≡ []
      consented = ap (map dehydrate_ask) (filter_none (λ w. (eqb w.item.0 item.0) && is_dehydrate_wait w.kind && not (list_any (λ a. same_key a.wait.0 w.id.0) kept)) left
          (all_filter (λ (w : Wait). ((eqb w.item.0 item.0) && is_dehydrate_wait w.kind && not (list_any (λ a. same_key a.wait.0 w.id.0) kept)) ≡ false) (λ w. not (is_some (f w))) waits
          (all_then (λ (w : Wait). is_dehydrate_wait w.kind ≡ false) (λ (w : Wait). ((eqb w.item.0 item.0) && is_dehydrate_wait w.kind && not (list_any (λ a. same_key a.wait.0 w.id.0) kept)) ≡ false)
          (λ w e. unlike (eqb w.item.0 item.0) (is_dehydrate_wait w.kind) (list_any (λ a. same_key a.wait.0 w.id.0) kept) e) waits plain)))

-- the deeds

-- The plan cancels these asks, and makes none.
abbrev PlanOf : ItemId → View → Deed → List Wait → List Live → List Key → Type 0
PlanOf item v d waits asks cancelled = ((plan_of item v d waits asks).cancelled ≡ cancelled) × ((plan_of item v d waits asks).made ≡ [])

-- What is known of each ask before the step: it is a data ask, it was not idle, and it is not touched.
abbrev IsCalm : ItemId → View → List Wait → Key → ℕ → ℕ → Live → Type 0
IsCalm item u waits key lo hi a = ((is_data a.ask.kind ≡ true) × (is_idle item u waits a ≡ false)) × (is_touched item key lo hi a ≡ false)

calm : (item : ItemId) (u : View) (waits : List Wait) (key : Key) (lo hi : ℕ) (asks : List Live) → AllByRecursion (λ a. is_data a.ask.kind ≡ true) asks → AllByRecursion (λ a. is_idle item u waits a ≡ false) asks
    → list_any (is_touched item key lo hi) asks ≡ false → AllByRecursion (IsCalm item u waits key lo hi) asks
calm item u waits key lo hi asks bytes awaited out =
    all_both (λ a. (is_data a.ask.kind ≡ true) × (is_idle item u waits a ≡ false)) (λ a. is_touched item key lo hi a ≡ false) asks
    (all_both (λ a. is_data a.ask.kind ≡ true) (λ a. is_idle item u waits a ≡ false) asks bytes awaited) (none_any (is_touched item key lo hi) asks out)

or_same : (s i : Bool) → (s ≡ false → i ≡ false) → (s || i) ≡ s
or_same true i h = refl
or_same false i h = h refl

-- blocks leave an ask

pub ask_released : (key : Key) (blocks : List ℕ) (a : Live) → (released key blocks a).ask ≡ a.ask
ask_released key blocks a = one (same_key a.ask.key key) where
  one : (c : Bool) → (cond c (record a { owned = filter (λ b. not (has_block blocks b)) a.owned; ticks = 0 }) a).ask ≡ a.ask
  one true = refl
  one false = refl

has_released : (key : Key) (blocks : List ℕ) (a : Live) (b : ℕ) → has_block blocks b ≡ false → has_block a.owned b ≡ true → has_block (released key blocks a).owned b ≡ true
has_released key blocks a b f t = one (same_key a.ask.key key) where
  one : (c : Bool) → has_block (cond c (record a { owned = filter (λ b. not (has_block blocks b)) a.owned; ticks = 0 }) a).owned b ≡ true
  one true = has_other blocks a.owned b f t
  one false = t

untrue : (b : Bool) → (b ≡ true → ⊥) → b ≡ false
untrue true f = absurd (f refl)
untrue false f = refl

pub leaves : (item : ItemId) (u v : View) (start end lo hi : ℕ) (waits : List Wait) (asks : List Live) (key : Key) (blocks : List ℕ) → Narrows u v start end → length v.lacks ≤ 2 ^ 24 → lo ≤ start → end ≤ hi
    → AllByRecursion (λ w. is_some (why item v (Leaves key blocks) asks w) ≡ true → IsWithin v lo hi w) waits → IsSettled item u waits asks
    → AllByRecursion (λ a. is_data a.ask.kind ≡ true) asks → AllByRecursion (λ w. is_dehydrate_wait w.kind ≡ false) waits → list_any (is_touched item key lo hi) asks ≡ false
    → ((b : ℕ) → has_block blocks b ≡ true → is_wanted item v (left_of (why item v (Leaves key blocks) asks) waits) b ≡ false)
    → AllByRecursion (λ a. same_key a.ask.key key ≡ true → is_over (Leaves key blocks) (released key blocks a) ≡ false → is_idle item v (left_of (why item v (Leaves key blocks) asks) waits) (released key blocks a) ≡ false) asks
    → PlanOf item v (Leaves key blocks) waits asks [] × ((plan_of item v (Leaves key blocks) waits asks).kept ≡ after (Leaves key blocks) asks)
leaves item u v start end lo hi waits asks key blocks narrow small low high reach settled bytes plain out lacks own = ((ap (map (λ a. a.ask.key)) (filter_none cancelled (after d asks) none), made), filter_all cancelled (after d asks) none) where
  d : Deed
  d = Leaves key blocks

  f : Wait → Option Cause
  f = why item v d asks

  ws : List Wait
  ws = left_of f waits

  cancelled : Live → Bool
  cancelled = is_cancelled item v d ws

  each : (a : Live) → IsCalm item u waits key lo hi a → (same_key a.ask.key key ≡ true → is_over d (released key blocks a) ≡ false → is_idle item v ws (released key blocks a) ≡ false) → is_over d (released key blocks a) ≡ false → is_idle item v ws (released key blocks a) ≡ false
  each a c own over = one (same_key a.ask.key key) refl where
    one : (b : Bool) → same_key a.ask.key key ≡ b → is_idle item v ws (released key blocks a) ≡ false
    one true e = own e over
    one false e = subst (λ (x : Live). is_idle item v ws x ≡ false) (sym (ap (λ b. cond b (record a { owned = filter (λ b. not (has_block blocks b)) a.owned; ticks = 0 }) a) e)) (stays item u v start end lo hi waits asks f narrow small low high reach settled key a c.0.0 c.0.1 e c.1)

  calmly : AllByRecursion (λ a. IsCalm item u waits key lo hi a × (same_key a.ask.key key ≡ true → is_over d (released key blocks a) ≡ false → is_idle item v ws (released key blocks a) ≡ false)) asks
  calmly = all_both (IsCalm item u waits key lo hi) (λ a. same_key a.ask.key key ≡ true → is_over d (released key blocks a) ≡ false → is_idle item v ws (released key blocks a) ≡ false) asks (calm item u waits key lo hi asks bytes settled.awaited out) own

  none : AllByRecursion (λ a. cancelled a ≡ false) (after d asks)
  none = all_after d (λ a. cancelled a ≡ false) asks (all_then (λ a. IsCalm item u waits key lo hi a × (same_key a.ask.key key ≡ true → is_over d (released key blocks a) ≡ false → is_idle item v ws (released key blocks a) ≡ false)) (λ a. is_over d (after_deed d a) ≡ false → cancelled (after_deed d a) ≡ false) (λ a p over. each a p.0 p.1 over) asks calmly)

  made : new_asks item v ws (filter (λ a. not (cancelled a)) (after d asks)) ≡ []
  made = none_made item u v start end lo hi waits asks f narrow small low high reach settled (filter (λ a. not (cancelled a)) (after d asks)) bytes plain (λ b t o. any_after d (λ a. not (cancelled a)) (λ a. (eqb a.ask.item.0 item.0) && has_block a.owned b) (λ a. (eqb a.ask.item.0 item.0) && has_block a.owned b) asks
      (all_then (λ a. IsCalm item u waits key lo hi a × (same_key a.ask.key key ≡ true → is_over d (released key blocks a) ≡ false → is_idle item v ws (released key blocks a) ≡ false))
      (λ a. ((eqb a.ask.item.0 item.0) && has_block a.owned b) ≡ true → ((is_over d (after_deed d a) ≡ false) × (not (cancelled (after_deed d a)) ≡ true)) × (((eqb (after_deed d a).ask.item.0 item.0) && has_block (after_deed d a).owned b) ≡ true))
      (λ a p h. keeps a b p.0 p.1 t (both (eqb a.ask.item.0 item.0) (has_block a.owned b) h)) asks calmly) o)
    where
      keeps : (a : Live) (b : ℕ) → IsCalm item u waits key lo hi a → (same_key a.ask.key key ≡ true → is_over d (released key blocks a) ≡ false → is_idle item v ws (released key blocks a) ≡ false) → is_wanted item v ws b ≡ true → (eqb a.ask.item.0 item.0 ≡ true) × (has_block a.owned b ≡ true)
          → ((is_over d (released key blocks a) ≡ false) × (not (cancelled (released key blocks a)) ≡ true)) × (((eqb (released key blocks a).ask.item.0 item.0) && has_block (released key blocks a).owned b) ≡ true)
      keeps a b c own t h =
          let has : has_block (released key blocks a).owned b ≡ true = has_released key blocks a b (untrue (has_block blocks b) (λ e. not_both (is_wanted item v ws b) t (lacks b e))) h.1 in
          let over : is_over d (released key blocks a) ≡ false = not_over (is_data (released key blocks a).ask.kind) (released key blocks a).owned b has in
          ((over, ap not (each a c own over)), ap (λ x. x && has_block (released key blocks a).owned b) (ap (λ (k : Ask). eqb k.item.0 item.0) (ask_released key blocks a) ∙ h.0) ∙ has)

-- an ask ends by time

stay_all : (key : Key) (asks : List Live) → AllByRecursion IsFull asks → after (Expires key) asks ≡ asks
stay_all key [] h = refl
stay_all key (a ∷ asks) h = ap (λ b. cond (not b) (a ∷ after (Expires key) asks) (after (Expires key) asks)) h.0 ∙ ap (λ l. a ∷ l) (stay_all key asks h.1)

waits_data : (kind : AskKind) (v : View) (a : Live) (w : Wait) → is_data kind ≡ true → misses_in v a.owned w ≡ true → waits_by kind v a w ≡ true
waits_data ask_kind.Fetch v a w d h = h
waits_data ask_kind.Validate v a w d h = h
waits_data ask_kind.List v a w d h = let z : false ≡ true = d in cc
waits_data ask_kind.Dehydrate v a w d h = let z : false ≡ true = d in cc

-- no wait that is left misses a byte in its blocks
unwanted : (item : ItemId) (v : View) (key : Key) (asks : List Live) (a : Live) (b : ℕ) (ws : List Wait) → live_of asks key ≡ Some a → is_data a.ask.kind ≡ true → has_block a.owned b ≡ true → is_wanted item v (left_of (why item v (Expires key) asks) ws) b ≡ false
unwanted item v key asks a b [] live bytes h = refl
unwanted item v key asks a b (w ∷ ws) live bytes h = one (unwanted item v key asks a b ws live bytes h) (eqb w.item.0 item.0) refl (misses_block v w b) refl where
  rest : List Wait
  rest = left_of (why item v (Expires key) asks) ws

  skip : is_wanted item v rest b ≡ false → (x : Bool) → ((eqb w.item.0 item.0) && misses_block v w b) ≡ false → is_wanted item v (cond x (w ∷ rest) rest) b ≡ false
  skip others true e = ap (λ c. c || is_wanted item v rest b) e ∙ others
  skip others false e = others

  ends : eqb w.item.0 item.0 ≡ true → misses_block v w b ≡ true → is_some (why item v (Expires key) asks w) ≡ true
  ends on m =
      ap (λ c. is_some (cond c (or_met (cause_if (waits_for v (live_of asks key) w) cause.TimedOut) (is_met v w)) None)) on
      ∙ ap (λ (o : Option Live). is_some (or_met (cause_if (waits_for v o w) cause.TimedOut) (is_met v w))) live
      ∙ ap (λ c. is_some (or_met (cause_if c cause.TimedOut) (is_met v w))) (waits_data a.ask.kind v a w bytes (some_owned (misses_block v w) a.owned b h m))

  one : is_wanted item v rest b ≡ false → (x : Bool) → eqb w.item.0 item.0 ≡ x → (y : Bool) → misses_block v w b ≡ y → is_wanted item v (cond (not (is_some (why item v (Expires key) asks w))) (w ∷ rest) rest) b ≡ false
  one others true e true k = ap (λ c. is_wanted item v (cond (not c) (w ∷ rest) rest) b) (ends e k) ∙ others
  one others true e false k = skip others (not (is_some (why item v (Expires key) asks w))) (ap (λ c. c && misses_block v w b) e ∙ k)
  one others false e y k = skip others (not (is_some (why item v (Expires key) asks w))) (ap (λ c. c && misses_block v w b) e)

pub expires : (item : ItemId) (u v : View) (start end lo hi : ℕ) (waits : List Wait) (asks : List Live) (key : Key) → Narrows u v start end → length v.lacks ≤ 2 ^ 24 → lo ≤ start → end ≤ hi
    → AllByRecursion (λ w. is_some (why item v (Expires key) asks w) ≡ true → IsWithin v lo hi w) waits → IsSettled item u waits asks
    → AllByRecursion (λ a. is_data a.ask.kind ≡ true) asks → AllByRecursion (λ w. is_dehydrate_wait w.kind ≡ false) waits → list_any (is_touched item key lo hi) asks ≡ false
    → AllByRecursion IsFull asks → AllByRecursion (λ a. same_key a.ask.key key ≡ true → live_of asks key ≡ Some a) asks
    → PlanOf item v (Expires key) waits asks (map (λ a. a.ask.key) (filter (λ a. same_key a.ask.key key) asks))
expires item u v start end lo hi waits asks key narrow small low high reach settled bytes plain out full unique = (
  ap (map (λ a. a.ask.key)) (ap (filter cancelled) (stay_all key asks full) ∙ filter_same cancelled (λ a. same_key a.ask.key key) asks
      (all_then (IsCalm item u waits key lo hi) (λ a. cancelled a ≡ same_key a.ask.key key) (λ a c. or_same (same_key a.ask.key key) (is_idle item v ws a) (each a c)) asks calmly)),
  made,
) where
  d : Deed
  d = Expires key

  f : Wait → Option Cause
  f = why item v d asks

  ws : List Wait
  ws = left_of f waits

  cancelled : Live → Bool
  cancelled = is_cancelled item v d ws

  calmly : AllByRecursion (IsCalm item u waits key lo hi) asks
  calmly = calm item u waits key lo hi asks bytes settled.awaited out

  each : (a : Live) → IsCalm item u waits key lo hi a → same_key a.ask.key key ≡ false → is_idle item v ws a ≡ false
  each a c e = stays item u v start end lo hi waits asks f narrow small low high reach settled key a c.0.0 c.0.1 e c.1

  keeps : (a : Live) (b : ℕ) → IsCalm item u waits key lo hi a → (same_key a.ask.key key ≡ true → live_of asks key ≡ Some a) → is_wanted item v ws b ≡ true → (eqb a.ask.item.0 item.0 ≡ true) × (has_block a.owned b ≡ true)
      → ((is_over d a ≡ false) × (not (cancelled a) ≡ true)) × (((eqb a.ask.item.0 item.0) && has_block a.owned b) ≡ true)
  keeps a b c own t h =
      let other : same_key a.ask.key key ≡ false = untrue (same_key a.ask.key key) (λ e. not_both (is_wanted item v ws b) t (unwanted item v key asks a b waits (own e) c.0.0 h.1)) in
      ((not_over (is_data a.ask.kind) a.owned b h.1, ap not (or_same (same_key a.ask.key key) (is_idle item v ws a) (each a c) ∙ other)), ap (λ x. x && has_block a.owned b) h.0 ∙ h.1)

  made : new_asks item v ws (filter (λ a. not (cancelled a)) (after d asks)) ≡ []
  made = none_made item u v start end lo hi waits asks f narrow small low high reach settled (filter (λ a. not (cancelled a)) (after d asks)) bytes plain (λ b t o. any_after d (λ a. not (cancelled a)) (λ a. (eqb a.ask.item.0 item.0) && has_block a.owned b) (λ a. (eqb a.ask.item.0 item.0) && has_block a.owned b) asks
      (all_then (λ a. IsCalm item u waits key lo hi a × (same_key a.ask.key key ≡ true → live_of asks key ≡ Some a))
      (λ a. ((eqb a.ask.item.0 item.0) && has_block a.owned b) ≡ true → ((is_over d (after_deed d a) ≡ false) × (not (cancelled (after_deed d a)) ≡ true)) × (((eqb (after_deed d a).ask.item.0 item.0) && has_block (after_deed d a).owned b) ≡ true))
      (λ a p h. keeps a b p.0 p.1 t (both (eqb a.ask.item.0 item.0) (has_block a.owned b) h)) asks
      (all_both (IsCalm item u waits key lo hi) (λ a. same_key a.ask.key key ≡ true → live_of asks key ≡ Some a) asks calmly unique)) o)
