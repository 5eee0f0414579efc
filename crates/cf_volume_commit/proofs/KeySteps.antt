-- Steps of a loop that keeps a part of some elements.
use Rattle.std.proofs.Common.{◌≡◌, ℕ, ◌+◌, ◌<◌, Bool, true, false, cond, List, [], ◌∷◌, ◌++◌, length, map, get_or, drop, refl, sym, ◌∙◌, ap, append-nil, append_assoc}
use Rattle.std.specs.Prelude.{filter}
use Rattle.cf_volume_image.proofs.Loops.{drop_at}

abbrev pub parts : {A B : Type 0} → (A → B) → (A → Bool) → List A → List B
parts f p xs = map f (filter p xs)

first : {A B : Type 0} (f : A → B) (p : A → Bool) (xs : List A) (i : ℕ) (x : A) (t : Bool) → i < length xs → x ≡ get_or xs i x → t ≡ p x → parts f p (drop i xs) ≡ map f (cond t (x ∷ filter p (drop (i + 1) xs)) (filter p (drop (i + 1) xs)))
first f p xs i x t h is e =
    ap (parts f p) (drop_at xs i x h is) ∙ ap (λ (b : Bool). map f (cond b (x ∷ filter p (drop (i + 1) xs)) (filter p (drop (i + 1) xs)))) (sym e)

pub keep_part : {A B : Type 0} (f : A → B) (p : A → Bool) (xs : List A) (i : ℕ) (x : A) (out new all : List B) (y : B) → i < length xs → x ≡ get_or xs i x → true ≡ p x → y ≡ f x → new ≡ out ++ y ∷ []
    → out ++ parts f p (drop i xs) ≡ all → new ++ parts f p (drop (i + 1) xs) ≡ all
keep_part {A} {B} f p xs i x out new all y h is e same pushed so =
    ap (λ (l : List B). l ++ parts f p (drop (i + 1) xs)) (pushed ∙ ap (λ (k : B). out ++ k ∷ []) same)
    ∙ append_assoc out (f x ∷ []) (parts f p (drop (i + 1) xs))
    ∙ ap (λ (l : List B). out ++ l) (sym (first f p xs i x true h is e)) ∙ so

pub skip_part : {A B : Type 0} (f : A → B) (p : A → Bool) (xs : List A) (i : ℕ) (x : A) (out all : List B) → i < length xs → x ≡ get_or xs i x → false ≡ p x
    → out ++ parts f p (drop i xs) ≡ all → out ++ parts f p (drop (i + 1) xs) ≡ all
skip_part {A} {B} f p xs i x out all h is e so = ap (λ (l : List B). out ++ l) (sym (first f p xs i x false h is e)) ∙ so

-- one element after the other

with_first : {A B : Type 0} (f : A → B) (p : A → Bool) (x : A) (rest : List A) → parts f p (x ∷ rest) ≡ parts f p (x ∷ []) ++ parts f p rest
with_first f p x rest = by (p x) where
  by : (b : Bool) → map f (cond b (x ∷ filter p rest) (filter p rest)) ≡ map f (cond b (x ∷ []) []) ++ parts f p rest
  by true = refl
  by false = refl

pub kept_one : {A B : Type 0} (f : A → B) (p : A → Bool) (x : A) (out new : List B) (y : B) → true ≡ p x → y ≡ f x → new ≡ out ++ y ∷ [] → new ≡ out ++ parts f p (x ∷ [])
kept_one {A} {B} f p x out new y e same pushed = pushed ∙ ap (λ (k : B). out ++ k ∷ []) same ∙ ap (λ (b : Bool). out ++ map f (cond b (x ∷ []) [])) e

pub skipped_one : {A B : Type 0} (f : A → B) (p : A → Bool) (x : A) (out : List B) → false ≡ p x → out ≡ out ++ parts f p (x ∷ [])
skipped_one f p x out e = sym (append-nil out) ∙ ap (λ (b : Bool). out ++ map f (cond b (x ∷ []) [])) e

pub one_part : {A B : Type 0} (f : A → B) (p : A → Bool) (left rest : List A) (x : A) (out new all : List B) → left ≡ x ∷ rest → new ≡ out ++ parts f p (x ∷ []) → out ++ parts f p left ≡ all → new ++ parts f p rest ≡ all
one_part {A} {B} f p left rest x out new all is added so =
    ap (λ (l : List B). l ++ parts f p rest) added ∙ append_assoc out (parts f p (x ∷ [])) (parts f p rest) ∙ ap (λ (l : List B). out ++ l) (sym (with_first f p x rest))
    ∙ ap (λ (l : List A). out ++ parts f p l) (sym is) ∙ so
