-- Where an ask owns all blocks that are looked at, no other ask has one of them.
use Rattle.std.proofs.Common.{◌≡◌, ℕ, zero, suc, ◌+◌, ◌-◌, ◌/◌, ◌^◌, ◌<◌, ◌≤◌, ◌⊎◌, inl, inr, Bool, true, false, ◌&&◌, ◌||◌, not, cond, Option, Some, None, List, [], ◌∷◌, min, refl, sym, ap, subst, ◌∙◌, arith, eqb}
use Rattle.std.specs.List.{list_all, list_any}
use Rattle.std.proofs.lemmas.Bool.{cases_lt}
use Rattle.std.proofs.lemmas.Bool.Decides.{nat_tests}
use Rattle.cf_ask_rule.proofs.Filters.{not_both, or_left}
use Rattle.cf_ask_rule.proofs.Owned.{owners_some}
use Rattle.cf_ask_rule.specs.Narrowing.{AreAlike, is_touched}
use Rattle.cf_ask_rule.specs.Owners.{AreApart, owners}
use Rattle.cf_base.specs.declared.ids.ItemId.{ItemId}
use Rattle.cf_base.specs.declared.ids.Key.{Key}
use Rattle.cf_base.specs.declared.waits.Ask.{Ask}
use Rattle.cf_model.specs.Asks.{is_owned}
use Rattle.cf_model.specs.Numbers.{same_key}
use Rattle.cf_model.specs.Requests.{Live, has_block, live_of}
use Rattle.cf_model.specs.Words.{counting, says}
use Rattle.cf_ranges.specs.Positions.{within}

both : (a b : Bool) → (a && b) ≡ true → (a ≡ true) × (b ≡ true)
both true b h = (refl, h)
both false b h = let z : false ≡ true = h in cc

either : (a b : Bool) → (a || b) ≡ true → (a ≡ true) ⊎ (b ≡ true)
either true b h = inl refl
either false b h = inr h

or_right : (a b : Bool) → b ≡ true → (a || b) ≡ true
or_right true b e = refl
or_right false b e = e

untrue : (b : Bool) → (b ≡ true → ⊥) → b ≡ false
untrue true f = absurd (f refl)
untrue false f = refl

itself : (n : ℕ) → eqb n n ≡ true
itself n = grind (arith, nat_tests)

-- an ask of the item that is not of the key has the block
abbrev has_too : ItemId → Key → ℕ → Live → Bool
has_too item key b a = (eqb a.ask.item.0 item.0) && not (same_key a.ask.key key) && has_block a.owned b

with_two : (e f : Bool) (n : ℕ) → e ≡ true → f ≡ true → 1 ≤ n → 2 ≤ cond (e && f) 1 0 + n
with_two true true n h k l = omega arith
with_two true false n h k l = let z : false ≡ true = k in cc
with_two false f n h k l = let z : false ≡ true = h in cc

more : (m n : ℕ) → 2 ≤ n → 2 ≤ m + n
more m n l = omega arith

live_owns : (item : ItemId) (key : Key) (b : ℕ) (own : Live) (asks : List Live) → live_of asks key ≡ Some own → (eqb own.ask.item.0 item.0) ≡ true → has_block own.owned b ≡ true → is_owned item asks b ≡ true
live_owns item key b own [] l on h = let z : ◌≡◌ {A = Option Live} None (Some own) = l in cc
live_owns item key b own (x ∷ xs) l on h = one (same_key x.ask.key key) l (live_owns item key b own xs) where
  one : (c : Bool) → cond c (Some x) (live_of xs key) ≡ Some own → (live_of xs key ≡ Some own → (eqb own.ask.item.0 item.0) ≡ true → has_block own.owned b ≡ true → is_owned item xs b ≡ true) → is_owned item (x ∷ xs) b ≡ true
  one true k f =
      let q : own ≡ x = cc in
      or_left ((eqb x.ask.item.0 item.0) && has_block x.owned b) (is_owned item xs b) (subst (λ (a : Live). ((eqb a.ask.item.0 item.0) && has_block a.owned b) ≡ true) q (ap (λ c. c && has_block own.owned b) on ∙ h))
  one false k f = or_right ((eqb x.ask.item.0 item.0) && has_block x.owned b) (is_owned item xs b) (f k on h)

too_owns : (item : ItemId) (key : Key) (b : ℕ) (asks : List Live) → list_any (has_too item key b) asks ≡ true → is_owned item asks b ≡ true
too_owns item key b [] t = t
too_owns item key b (x ∷ xs) t = elim (either (has_too item key b x) (list_any (has_too item key b) xs) t) [
  | inl e ↦
      let p : (((eqb x.ask.item.0 item.0) && not (same_key x.ask.key key)) ≡ true) × (has_block x.owned b ≡ true) = both ((eqb x.ask.item.0 item.0) && not (same_key x.ask.key key)) (has_block x.owned b) e in
      or_left ((eqb x.ask.item.0 item.0) && has_block x.owned b) (is_owned item xs b) (ap (λ c. c && has_block x.owned b) (both (eqb x.ask.item.0 item.0) (not (same_key x.ask.key key)) p.0).0 ∙ p.1)
  | inr e ↦ or_right ((eqb x.ask.item.0 item.0) && has_block x.owned b) (is_owned item xs b) (too_owns item key b xs e)
]

two_owners : (item : ItemId) (key : Key) (b : ℕ) (own : Live) (asks : List Live) → live_of asks key ≡ Some own → (eqb own.ask.item.0 item.0) ≡ true → has_block own.owned b ≡ true → list_any (has_too item key b) asks ≡ true → 2 ≤ owners item b asks
two_owners item key b own [] l on h t = let z : false ≡ true = t in cc
two_owners item key b own (x ∷ xs) l on h t = one (same_key x.ask.key key) refl l (two_owners item key b own xs) where
  one : (c : Bool) → same_key x.ask.key key ≡ c → cond c (Some x) (live_of xs key) ≡ Some own → (live_of xs key ≡ Some own → (eqb own.ask.item.0 item.0) ≡ true → has_block own.owned b ≡ true → list_any (has_too item key b) xs ≡ true → 2 ≤ owners item b xs) → 2 ≤ owners item b (x ∷ xs)
  one true e k f =
      let q : own ≡ x = cc in
      with_two (eqb x.ask.item.0 item.0) (has_block x.owned b) (owners item b xs) (subst (λ (a : Live). (eqb a.ask.item.0 item.0) ≡ true) q on) (subst (λ (a : Live). has_block a.owned b ≡ true) q h)
      (owners_some item b xs (too_owns item key b xs (elim (either (has_too item key b x) (list_any (has_too item key b) xs) t) [
        | inl g ↦ absurd (not_both (same_key x.ask.key key) e (other (eqb x.ask.item.0 item.0) (same_key x.ask.key key) (has_block x.owned b) g))
        | inr g ↦ g
      ])))
    where
      other : (a s c : Bool) → (a && not s && c) ≡ true → s ≡ false
      other true true c g = let z : false ≡ true = g in cc
      other true false c g = refl
      other false s c g = let z : false ≡ true = g in cc
  one false e k f = elim (either (has_too item key b x) (list_any (has_too item key b) xs) t) [
    | inl g ↦
        let p : (((eqb x.ask.item.0 item.0) && not (same_key x.ask.key key)) ≡ true) × (has_block x.owned b ≡ true) = both ((eqb x.ask.item.0 item.0) && not (same_key x.ask.key key)) (has_block x.owned b) g in
        with_two (eqb x.ask.item.0 item.0) (has_block x.owned b) (owners item b xs) (both (eqb x.ask.item.0 item.0) (not (same_key x.ask.key key)) p.0).0 p.1 (owners_some item b xs (live_owns item key b own xs k on h))
    | inr g ↦ more (cond ((eqb x.ask.item.0 item.0) && has_block x.owned b) 1 0) (owners item b xs) (f k on h g)
  ]

-- some block

pub some_in : (w : ℕ → Bool) (xs : List ℕ) → list_any w xs ≡ true → (b : ℕ) × (w b ≡ true) × (has_block xs b ≡ true)
some_in w [] t = let z : false ≡ true = t in cc
some_in w (x ∷ xs) t = elim (either (w x) (list_any w xs) t) [
  | inl e ↦ (x, e, or_left (eqb x x) (has_block xs x) (itself x))
  | inr e ↦ let r : (b : ℕ) × (w b ≡ true) × (has_block xs b ≡ true) = some_in w xs e in (r.0, r.1, or_right (eqb x r.0) (has_block xs r.0) r.2)
]

-- an ask of the item that is not of the key has a block that passes
abbrev has_any_too : ItemId → Key → (ℕ → Bool) → Live → Bool
has_any_too item key w a = (eqb a.ask.item.0 item.0) && not (same_key a.ask.key key) && list_any w a.owned

some_too : (item : ItemId) (key : Key) (w : ℕ → Bool) (asks : List Live) → list_any (has_any_too item key w) asks ≡ true → (b : ℕ) × (w b ≡ true) × (list_any (has_too item key b) asks ≡ true)
some_too item key w [] t = let z : false ≡ true = t in cc
some_too item key w (x ∷ xs) t = elim (either (has_any_too item key w x) (list_any (has_any_too item key w) xs) t) [
  | inl e ↦
      let p : (((eqb x.ask.item.0 item.0) && not (same_key x.ask.key key)) ≡ true) × (list_any w x.owned ≡ true) = both ((eqb x.ask.item.0 item.0) && not (same_key x.ask.key key)) (list_any w x.owned) e in
      let r : (b : ℕ) × (w b ≡ true) × (has_block x.owned b ≡ true) = some_in w x.owned p.1 in
      (r.0, r.1, or_left (has_too item key r.0 x) (list_any (has_too item key r.0) xs) (ap (λ c. c && has_block x.owned r.0) p.0 ∙ r.2))
  | inr e ↦
      let r : (b : ℕ) × (w b ≡ true) × (list_any (has_too item key b) xs ≡ true) = some_too item key w xs e in
      (r.0, r.1, or_right (has_too item key r.0 x) (list_any (has_too item key r.0) xs) r.2)
]

all_at : (f : ℕ → Bool) (i n b : ℕ) → list_all f (counting i n) ≡ true → i ≤ b → b < i + n → f b ≡ true
all_at f i zero b h l m = absurd (omega arith)
all_at f i (suc n) b h l m = elim (cases_lt i b) [
  | inl e ↦ all_at f (i + 1) n b (both (f i) (list_all f (counting (i + 1) n)) h).1 (omega arith) (omega arith)
  | inr e ↦ let k : i ≡ b = omega arith in subst (λ (j : ℕ). f j ≡ true) k (both (f i) (list_all f (counting (i + 1) n)) h).0
]

from_within : (lo hi p : ℕ) → within lo hi p ≡ true → lo ≤ p
from_within lo hi p h = grind (arith, nat_tests)

to_within : (lo hi p : ℕ) → within lo hi p ≡ true → p < hi
to_within lo hi p h = grind (arith, nat_tests)

pub untouched_by : (item : ItemId) (key : Key) (first end : ℕ) (own : Live) (asks : List Live) → AreApart item asks → live_of asks key ≡ Some own → (eqb own.ask.item.0 item.0) ≡ true → list_all (has_block own.owned) (counting first (end - first)) ≡ true
    → list_any (λ a. (eqb a.ask.item.0 item.0) && not (same_key a.ask.key key) && list_any (within first end) a.owned) asks ≡ false
untouched_by item key first end own asks apart live on all = untrue (list_any (has_any_too item key (within first end)) asks) (λ t.
    let r : (b : ℕ) × (within first end b ≡ true) × (list_any (has_too item key b) asks ≡ true) = some_too item key (within first end) asks t in
    let l : first ≤ r.0 = from_within first end r.0 r.1 in
    let m : r.0 < end = to_within first end r.0 r.1 in
    let few : owners item r.0 asks ≤ 1 = apart r.0 in
    let many : 2 ≤ owners item r.0 asks = two_owners item key r.0 own asks live on (all_at (has_block own.owned) first (end - first) r.0 all l (omega arith)) r.2 in
    omega arith)

pub untouched_own : (item : ItemId) (key : Key) (lo hi m : ℕ) (own : Option Live) (asks : List Live) → m ≡ min hi (2 ^ 32)
    → says (λ a. (eqb a.ask.item.0 item.0) && list_all (has_block a.owned) (counting (lo / 4096) ((m + 4095) / 4096 - lo / 4096))) own ≡ true → AreApart item asks → own ≡ live_of asks key → list_any (is_touched item key lo hi) asks ≡ false
untouched_own item key lo hi m None asks e t apart live = let z : false ≡ true = t in cc
untouched_own item key lo hi m (Some own) asks e t apart live =
    let p : ((eqb own.ask.item.0 item.0) ≡ true) × (list_all (has_block own.owned) (counting (lo / 4096) ((m + 4095) / 4096 - lo / 4096)) ≡ true) =
    both (eqb own.ask.item.0 item.0) (list_all (has_block own.owned) (counting (lo / 4096) ((m + 4095) / 4096 - lo / 4096))) t in
    subst (λ (n : ℕ). list_any (λ a. (eqb a.ask.item.0 item.0) && not (same_key a.ask.key key) && list_any (within (lo / 4096) ((n + 4095) / 4096)) a.owned) asks ≡ false) e
    (untouched_by item key (lo / 4096) ((m + 4095) / 4096) own asks apart (sym live) p.0 p.1)

-- asks that are the same but for their ticks

owners_alike : (item : ItemId) (b : ℕ) (xs ys : List Live) → AreAlike xs ys → owners item b ys ≡ owners item b xs
owners_alike item b [] [] h = refl
owners_alike item b [] (y ∷ ys) h = absurd h
owners_alike item b (x ∷ xs) [] h = absurd h
owners_alike item b (x ∷ xs) (y ∷ ys) h =
    ap (λ n. cond ((eqb y.ask.item.0 item.0) && has_block y.owned b) 1 0 + n) (owners_alike item b xs ys h.3)
    ∙ ap (λ (k : Ask). cond ((eqb k.item.0 item.0) && has_block y.owned b) 1 0 + owners item b xs) h.0
    ∙ ap (λ (l : List ℕ). cond ((eqb x.ask.item.0 item.0) && has_block l b) 1 0 + owners item b xs) h.1

pub apart_alike : (item : ItemId) (xs ys : List Live) → AreAlike xs ys → AreApart item ys → AreApart item xs
apart_alike item xs ys h apart = λ b. subst (λ (n : ℕ). n ≤ 1) (owners_alike item b xs ys h) (apart b)
