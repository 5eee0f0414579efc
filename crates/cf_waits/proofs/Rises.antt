-- Lists in order of number.
use Rattle.std.proofs.Common.{◌≡◌, ℕ, ◌<◌, ◌≤◌, Bool, true, false, ◌&&◌, cond, List, [], ◌∷◌, ◌++◌, sym, ap, ◌∙◌, arith, eqb}
use Rattle.std.specs.Prelude.{filter}
use Rattle.std.specs.List.{AllByRecursion}
use Rattle.std.proofs.lemmas.Bool.Decides.{nat_tests}
use Rattle.cf_ask_rule.proofs.Filters.{all_then}
use Rattle.cf_base.specs.declared.ids.Key.{Key}
use Rattle.cf_model.specs.Numbers.{same_key}
use Rattle.cf_waits.specs.Rising.{RisesTo}

-- keys

pub above_differs : (j k : Key) → k.number < j.number → same_key j k ≡ false
above_differs j k l = two j.epoch j.number k.epoch k.number l where
  two : (a b c d : ℕ) → d < b → (eqb a c && eqb b d) ≡ false
  two a b c d h = grind (arith, nat_tests)

pub below_differs : (j k : Key) → j.number < k.number → same_key j k ≡ false
below_differs j k l = two j.epoch j.number k.epoch k.number l where
  two : (a b c d : ℕ) → b < d → (eqb a c && eqb b d) ≡ false
  two a b c d h = grind (arith, nat_tests)

pub same_itself : (k : Key) → same_key k k ≡ true
same_itself k = two k.epoch k.number where
  two : (a b : ℕ) → (eqb a a && eqb b b) ≡ true
  two a b = grind (arith, nat_tests)

pub same_number : (j k : Key) → same_key j k ≡ true → j.number ≡ k.number
same_number j k h = two j.epoch j.number k.epoch k.number h where
  two : (a b c d : ℕ) → (eqb a c && eqb b d) ≡ true → b ≡ d
  two a b c d h = grind (arith, nat_tests)

pub same_not : (i j k : Key) → same_key i k ≡ false → same_key j k ≡ true → same_key i j ≡ false
same_not i j k h g = six i.epoch i.number j.epoch j.number k.epoch k.number h g where
  six : (a b c d e f : ℕ) → (eqb a e && eqb b f) ≡ false → (eqb c e && eqb d f) ≡ true → (eqb a c && eqb b d) ≡ false
  six a b c d e f h g = grind (arith, nat_tests)

-- what a test of keys tells
pub tested : (i j k : Key) (b c : Bool) → j ≡ k → b ≡ same_key i j → b ≡ c → same_key i k ≡ c
tested i j k b c e f h = ap (same_key i) (sym e) ∙ sym f ∙ h

-- order

pub lower : {A : Type 0} (key : A → Key) (epoch low from high : ℕ) (xs : List A) → low ≤ from → RisesTo key epoch from high xs → RisesTo key epoch low high xs
lower key epoch low from high [] l h = omega arith
lower key epoch low from high (x ∷ xs) l h = let k : from < (key x).number = h.1 in (h.0, omega arith, h.2)

pub rises_filter : {A : Type 0} (key : A → Key) (epoch low high : ℕ) (p : A → Bool) (xs : List A) → RisesTo key epoch low high xs → RisesTo key epoch low high (filter p xs)
rises_filter key epoch low high p [] h = h
rises_filter key epoch low high p (x ∷ xs) h = one (p x) (rises_filter key epoch (key x).number high p xs h.2) where
  one : (b : Bool) → RisesTo key epoch (key x).number high (filter p xs) → RisesTo key epoch low high (cond b (x ∷ filter p xs) (filter p xs))
  one true g = (h.0, h.1, g)
  one false g = let k : low < (key x).number = h.1 in lower key epoch low (key x).number high (filter p xs) (omega arith) g

pub rises_append : {A : Type 0} (key : A → Key) (epoch low mid high : ℕ) (xs ys : List A) → RisesTo key epoch low mid xs → RisesTo key epoch mid high ys → RisesTo key epoch low high (xs ++ ys)
rises_append key epoch low mid high [] ys h g = lower key epoch low mid high ys h g
rises_append key epoch low mid high (x ∷ xs) ys h g = (h.0, h.1, rises_append key epoch (key x).number mid high xs ys h.2 g)

pub all_above : {A : Type 0} (key : A → Key) (epoch low high : ℕ) (xs : List A) → RisesTo key epoch low high xs → AllByRecursion (λ (x : A). low < (key x).number) xs
all_above key epoch low high [] h = tt
all_above {A} key epoch low high (x ∷ xs) h =
    let k : low < (key x).number = h.1 in
    (k, all_then (λ (y : A). (key x).number < (key y).number) (λ (y : A). low < (key y).number) (λ (y : A) l. omega arith) xs (all_above key epoch (key x).number high xs h.2))
