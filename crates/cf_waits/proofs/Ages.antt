-- Asks on which ticks have passed.
use Rattle.std.proofs.Common.{◌≡◌, ℕ, zero, suc, ◌+◌, ◌-◌, ◌<◌, Bool, true, false, cond, Some, None, List, [], ◌∷◌, length, take, drop, get_or, refl, sym, ap, ◌∙◌, arith}
use Rattle.std.specs.Prelude.{filter, find, map, nat_le}
use Rattle.std.specs.List.{AllByRecursion}
use Rattle.std.specs.Option.{option_map}
use Rattle.std.proofs.Math.ListN.{set}
use Rattle.std.proofs.lemmas.Bool.Decides.{nat_tests}
use Rattle.std.proofs.lemmas.List.{length-drop}
use Rattle.cf_model.specs.Requests.{Live, aged}
use Rattle.cf_waits.specs.Told.{first_key}

same_test : (n t : ℕ) → nat_le (60 - n) t ≡ nat_le 60 (t + n)
same_test n t = grind (arith, nat_tests)

pub first_is : (n : ℕ) (xs : List Live) → option_map (λ a. a.ask.key) (find (λ a. nat_le (60 - n) a.ticks) xs) ≡ first_key (filter (λ a. nat_le 60 a.ticks) (map (aged n) xs))
first_is n [] = refl
first_is n (x ∷ xs) = one (nat_le (60 - n) x.ticks) (nat_le 60 (x.ticks + n)) (same_test n x.ticks) (first_is n xs) where
  one : (a b : Bool) → a ≡ b → option_map (λ a. a.ask.key) (find (λ a. nat_le (60 - n) a.ticks) xs) ≡ first_key (filter (λ a. nat_le 60 a.ticks) (map (aged n) xs))
      → option_map (λ (y : Live). y.ask.key) (cond a (Some x) (find (λ a. nat_le (60 - n) a.ticks) xs)) ≡ first_key (cond b (aged n x ∷ filter (λ a. nat_le 60 a.ticks) (map (aged n) xs)) (filter (λ a. nat_le 60 a.ticks) (map (aged n) xs)))
  one true true e h = refl
  one true false e h = cc
  one false true e h = cc
  one false false e h = h

under : (t : ℕ) → nat_le 60 (t + 0) ≡ false → t < 60
under t h = grind (arith, nat_tests)

pub young : (xs : List Live) → first_key (filter (λ a. nat_le 60 a.ticks) (map (aged 0) xs)) ≡ None → AllByRecursion (λ a. a.ticks < 60) xs
young [] h = tt
young (x ∷ xs) h = one (nat_le 60 (x.ticks + 0)) refl h (young xs) where
  one : (b : Bool) → nat_le 60 (x.ticks + 0) ≡ b → first_key (cond b (aged 0 x ∷ filter (λ a. nat_le 60 a.ticks) (map (aged 0) xs)) (filter (λ a. nat_le 60 a.ticks) (map (aged 0) xs))) ≡ None → (first_key (filter (λ a. nat_le 60 a.ticks) (map (aged 0) xs)) ≡ None → AllByRecursion (λ a. a.ticks < 60) xs) → AllByRecursion (λ a. a.ticks < 60) (x ∷ xs)
  one true e h f = cc
  one false e h f = (under x.ticks e, f h)

step_front : {X : Type 0} (f : X → X) (i : ℕ) (ys xs : List X) (x y : X) → i < length ys → take i ys ≡ map f (take i xs) → drop i ys ≡ drop i xs → x ≡ get_or ys i x → y ≡ f x → take (suc i) (set ys i y) ≡ map f (take (suc i) xs)
step_front f i [] xs x y l a b e g = absurd (omega arith)
step_front f zero (y0 ∷ ys) [] x y l a b e g = cc
step_front f zero (y0 ∷ ys) (x0 ∷ xs) x y l a b e g = let h : x ≡ x0 = cc in ap (λ v. v ∷ []) (g ∙ ap f h)
step_front f (suc i) (y0 ∷ ys) [] x y l a b e g = let h : take (suc i) (y0 ∷ ys) ≡ [] = a in cc
step_front f (suc i) (y0 ∷ ys) (x0 ∷ xs) x y l a b e g = let h : y0 ≡ f x0 = cc in let t : take i ys ≡ map f (take i xs) = cc in
    ap (λ v. v ∷ take (suc i) (set ys i y)) h ∙ ap (λ v. f x0 ∷ v) (step_front f i ys xs x y (omega arith) t b e g)

step_rest : {X : Type 0} (i : ℕ) (ys xs : List X) (y : X) → i < length ys → drop i ys ≡ drop i xs → drop (suc i) (set ys i y) ≡ drop (suc i) xs
step_rest i [] xs y l b = absurd (omega arith)
step_rest zero (y0 ∷ ys) [] y l b = cc
step_rest zero (y0 ∷ ys) (x0 ∷ xs) y l b = cc
step_rest (suc i) (y0 ∷ ys) [] y l b = let e : length (drop i ys) ≡ length ys - i = length-drop i ys in let z : length (drop i ys) ≡ 0 = ap length b in absurd (omega arith)
step_rest (suc i) (y0 ∷ ys) (x0 ∷ xs) y l b = step_rest i ys xs y (omega arith) b

pub map_front : {X : Type 0} (f : X → X) (i : ℕ) (ys xs : List X) (x y : X) → i < length ys → take i ys ≡ map f (take i xs) → drop i ys ≡ drop i xs → x ≡ get_or ys i x → y ≡ f x → take (i + 1) (set ys i y) ≡ map f (take (i + 1) xs)
map_front f i ys xs x y l a b e g = let n : i + 1 ≡ suc i = omega arith in ap (λ v. take v (set ys i y)) n ∙ step_front f i ys xs x y l a b e g ∙ ap (λ v. map f (take v xs)) (sym n)

pub map_rest : {X : Type 0} (i : ℕ) (ys xs : List X) (y : X) → i < length ys → drop i ys ≡ drop i xs → drop (i + 1) (set ys i y) ≡ drop (i + 1) xs
map_rest i ys xs y l b = let n : i + 1 ≡ suc i = omega arith in ap (λ v. drop v (set ys i y)) n ∙ step_rest i ys xs y l b ∙ ap (λ v. drop v xs) (sym n)
