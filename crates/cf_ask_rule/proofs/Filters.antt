-- Filters and truth values, as the laws about what a step looks at take them.
use Rattle.std.proofs.Common.{◌≡◌, ℕ, Bool, true, false, ◌&&◌, ◌||◌, not, cond, Some, List, [], ◌∷◌, length, refl, sym, ap, ◌∙◌, arith, eqb}
use Rattle.std.specs.Prelude.{filter, find, map}
use Rattle.std.specs.List.{AllByRecursion, list_any}
use Rattle.std.proofs.lemmas.Bool.Decides.{nat_tests}
use Rattle.cf_model.specs.Requests.{Live}

-- booleans

pub not_both : (b : Bool) → b ≡ true → b ≡ false → ⊥
not_both true t f = let z : true ≡ false = f in cc
not_both false t f = let z : false ≡ true = t in cc

pub left_false : (a b : Bool) → (a || b) ≡ false → a ≡ false
left_false true b h = h
left_false false b h = refl

pub right_false : (a b : Bool) → (a || b) ≡ false → b ≡ false
right_false true b h = let z : true ≡ false = h in cc
right_false false b h = h

pub both_false : (a b : Bool) → a ≡ false → b ≡ false → (a || b) ≡ false
both_false true b h k = h
both_false false b h k = k

pub and_left : (a b : Bool) → (a && b) ≡ true → a ≡ true
and_left true b h = refl
and_left false b h = h

pub and_false : (a b : Bool) → a ≡ false → (a && b) ≡ false
and_false a b h = ap (λ x. x && b) h

pub or_left : (a b : Bool) → a ≡ true → (a || b) ≡ true
or_left a b h = ap (λ x. x || b) h

pub is_not : (b : Bool) → not b ≡ true → b ≡ false
is_not true h = let z : false ≡ true = h in cc
is_not false h = refl

-- lists

pub filter_comm : {A : Type 0} (p q : A → Bool) (xs : List A) → filter p (filter q xs) ≡ filter q (filter p xs)
filter_comm p q [] = refl
filter_comm {A} p q (x ∷ xs) = one (p x) (q x) refl refl (filter_comm p q xs) where
  one : (a b : Bool) → p x ≡ a → q x ≡ b → filter p (filter q xs) ≡ filter q (filter p xs) → filter p (cond b (x ∷ filter q xs) (filter q xs)) ≡ filter q (cond a (x ∷ filter p xs) (filter p xs))
  one true true e f h = ap (λ c. cond c (x ∷ filter p (filter q xs)) (filter p (filter q xs))) e ∙ ap (λ v. x ∷ v) h ∙ ap (λ c. cond c (x ∷ filter q (filter p xs)) (filter q (filter p xs))) (sym f)
  one true false e f h = h ∙ ap (λ c. cond c (x ∷ filter q (filter p xs)) (filter q (filter p xs))) (sym f)
  one false true e f h = ap (λ c. cond c (x ∷ filter p (filter q xs)) (filter p (filter q xs))) e ∙ h
  one false false e f h = h

pub filter_same : {A : Type 0} (p q : A → Bool) (xs : List A) → AllByRecursion (λ x. p x ≡ q x) xs → filter p xs ≡ filter q xs
filter_same p q [] h = refl
filter_same p q (x ∷ xs) h = ap (λ c. cond c (x ∷ filter p xs) (filter p xs)) h.0 ∙ ap (λ v. cond (q x) (x ∷ v) v) (filter_same p q xs h.1)

-- of those that pass the first all pass the second
pub filter_within : {A : Type 0} (p q : A → Bool) → ((x : A) → p x ≡ true → q x ≡ true) → (xs : List A) → filter p (filter q xs) ≡ filter p xs
filter_within p q f [] = refl
filter_within p q f (x ∷ xs) = one (p x) (q x) refl refl (filter_within p q f xs) where
  one : (a b : Bool) → p x ≡ a → q x ≡ b → filter p (filter q xs) ≡ filter p xs → filter p (cond b (x ∷ filter q xs) (filter q xs)) ≡ cond a (x ∷ filter p xs) (filter p xs)
  one true true e g h = ap (λ c. cond c (x ∷ filter p (filter q xs)) (filter p (filter q xs))) e ∙ ap (λ v. x ∷ v) h
  one true false e g h = absurd (not_both (q x) (f x e) g)
  one false true e g h = ap (λ c. cond c (x ∷ filter p (filter q xs)) (filter p (filter q xs))) e ∙ h
  one false false e g h = h

pub any_within : {A : Type 0} (f p : A → Bool) (xs : List A) → AllByRecursion (λ x. f x ≡ true → p x ≡ true) xs → list_any f xs ≡ list_any f (filter p xs)
any_within f p [] h = refl
any_within f p (x ∷ xs) h = one (p x) refl (any_within f p xs h.1) where
  unhit : (b : Bool) → f x ≡ b → p x ≡ false → b ≡ false
  unhit true t e = absurd (not_both (p x) (h.0 t) e)
  unhit false t e = refl

  one : (b : Bool) → p x ≡ b → list_any f xs ≡ list_any f (filter p xs) → (f x || list_any f xs) ≡ list_any f (cond b (x ∷ filter p xs) (filter p xs))
  one true e g = ap (λ c. f x || c) g
  one false e g = ap (λ c. c || list_any f xs) (unhit (f x) refl e) ∙ g

pub all_of : {A : Type 0} (P : A → Type 0) → ((x : A) → P x) → (xs : List A) → AllByRecursion P xs
all_of P f [] = tt
all_of P f (x ∷ xs) = (f x, all_of P f xs)

pub all_then : {A : Type 0} (P Q : A → Type 0) → ((x : A) → P x → Q x) → (xs : List A) → AllByRecursion P xs → AllByRecursion Q xs
all_then P Q f [] h = tt
all_then P Q f (x ∷ xs) h = (f x h.0, all_then P Q f xs h.1)

pub all_filter : {A : Type 0} (P : A → Type 0) (p : A → Bool) (xs : List A) → AllByRecursion P xs → AllByRecursion P (filter p xs)
all_filter P p [] h = tt
all_filter P p (x ∷ xs) h = one (p x) (all_filter P p xs h.1) where
  one : (b : Bool) → AllByRecursion P (filter p xs) → AllByRecursion P (cond b (x ∷ filter p xs) (filter p xs))
  one true g = (h.0, g)
  one false g = g

pub all_map : {A : Type 0} (P : A → Type 0) (f : A → A) → ((x : A) → P x → P (f x)) → (xs : List A) → AllByRecursion P xs → AllByRecursion P (map f xs)
all_map P f g [] h = tt
all_map P f g (x ∷ xs) h = (g x h.0, all_map P f g xs h.1)

pub all_swap : {A B : Type 0} (R : A → B → Type 0) (xs : List A) (ys : List B) → AllByRecursion (λ x. AllByRecursion (λ y. R x y) ys) xs → AllByRecursion (λ y. AllByRecursion (λ x. R x y) xs) ys
all_swap R xs [] h = tt
all_swap R xs (y ∷ ys) h = (all_then (λ x. AllByRecursion (λ z. R x z) (y ∷ ys)) (λ x. R x y) (λ x g. g.0) xs h, all_swap R xs ys (all_then (λ x. AllByRecursion (λ z. R x z) (y ∷ ys)) (λ x. AllByRecursion (λ z. R x z) ys) (λ x g. g.1) xs h))

pub filter_map_same : {A : Type 0} (p : A → Bool) (f : A → A) → ((x : A) → p (f x) ≡ p x) → (xs : List A) → filter p (map f xs) ≡ map f (filter p xs)
filter_map_same p f g [] = refl
filter_map_same p f g (x ∷ xs) = ap (λ c. cond c (f x ∷ filter p (map f xs)) (filter p (map f xs))) (g x) ∙ one (p x) (filter_map_same p f g xs) where
  one : (b : Bool) → filter p (map f xs) ≡ map f (filter p xs) → cond b (f x ∷ filter p (map f xs)) (filter p (map f xs)) ≡ map f (cond b (x ∷ filter p xs) (filter p xs))
  one true h = ap (λ v. f x ∷ v) h
  one false h = h

pub find_within : (p q : Live → Bool) → ((x : Live) → p x ≡ true → q x ≡ true) → (xs : List Live) → find p xs ≡ find p (filter q xs)
find_within p q f [] = refl
find_within p q f (x ∷ xs) = one (q x) refl (find_within p q f xs) where
  unhit : (b : Bool) → p x ≡ b → q x ≡ false → b ≡ false
  unhit true t e = absurd (not_both (q x) (f x t) e)
  unhit false t e = refl

  one : (b : Bool) → q x ≡ b → find p xs ≡ find p (filter q xs) → cond (p x) (Some x) (find p xs) ≡ find p (cond b (x ∷ filter q xs) (filter q xs))
  one true e h = ap (λ v. cond (p x) (Some x) v) h
  one false e h = ap (λ c. cond c (Some x) (find p xs)) (unhit (p x) refl e) ∙ h

-- where none passes, all are left

none_pass : {A B : Type 0} (f : A → B) (g : A → Bool) (xs : List A) → map f (filter g xs) ≡ [] → filter (λ x. not (g x)) xs ≡ xs
none_pass f g [] h = refl
none_pass f g (x ∷ xs) h = one (g x) (none_pass f g xs) h where
  one : (b : Bool) → (map f (filter g xs) ≡ [] → filter (λ x. not (g x)) xs ≡ xs) → map f (cond b (x ∷ filter g xs) (filter g xs)) ≡ [] → cond (not b) (x ∷ filter (λ x. not (g x)) xs) (filter (λ x. not (g x)) xs) ≡ x ∷ xs
  one true k e = cc
  one false k e = ap (λ l. x ∷ l) (k e)

is_zero : (n : ℕ) → eqb n 0 ≡ true → n ≡ 0
is_zero n h = grind (arith, nat_tests)

pub all_left : {A B : Type 0} (f : A → B) (g : A → Bool) (xs : List A) (ys : List B) → ys ≡ map f (filter g xs) → eqb (length ys) 0 ≡ true → filter (λ x. not (g x)) xs ≡ xs
all_left f g xs [] e h = none_pass f g xs (sym e)
all_left f g xs (y ∷ ys) e h = let n : length (y ∷ ys) ≡ 0 = is_zero (length (y ∷ ys)) h in absurd (omega arith)
