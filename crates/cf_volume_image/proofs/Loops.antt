-- Steps of loops over lists.
use Rattle.std.proofs.Common.{◌≡◌, ℕ, zero, suc, ◌+◌, ◌<◌, ◌≤◌, List, [], ◌∷◌, ◌++◌, length, get_or, drop, refl, sym, ap, ◌∙◌, append_assoc, arith}
use Rattle.std.proofs.Math.Seq.{drop-cons}
use Rattle.std.specs.List.{flat_map}

pub drop_at : {A : Type 0} (xs : List A) (i : ℕ) (x : A) → i < length xs → x ≡ get_or xs i x → drop i xs ≡ x ∷ drop (i + 1) xs
drop_at {A} xs i x h is =
    let next : suc i ≡ i + 1 = omega arith in
    drop-cons xs i x h ∙ ap (λ (r : A). r ∷ drop (suc i) xs) (sym is) ∙ ap (λ (n : ℕ). x ∷ drop n xs) next

-- what is put at the end of what was put
pub put_step : {A : Type 0} (f : A → List ℕ) (xs : List A) (i : ℕ) (x : A) (out new all : List ℕ) → i < length xs → x ≡ get_or xs i x → new ≡ out ++ f x →
    out ++ flat_map f (drop i xs) ≡ all → new ++ flat_map f (drop (i + 1) xs) ≡ all
put_step {A} f xs i x out new all h is puts so =
    ap (λ (o : List ℕ). o ++ flat_map f (drop (i + 1) xs)) puts
    ∙ append_assoc out (f x) (flat_map f (drop (i + 1) xs))
    ∙ ap (λ (l : List A). out ++ flat_map f l) (sym (drop_at xs i x h is)) ∙ so

-- the same of the first of those that are left
pub put_first : {A : Type 0} (f : A → List ℕ) (left rest : List A) (x : A) (out new all : List ℕ) → left ≡ x ∷ rest → new ≡ out ++ f x → out ++ flat_map f left ≡ all → new ++ flat_map f rest ≡ all
put_first {A} f left rest x out new all is puts so =
    ap (λ (o : List ℕ). o ++ flat_map f rest) puts ∙ append_assoc out (f x) (flat_map f rest) ∙ ap (λ (l : List A). out ++ flat_map f l) (sym is) ∙ so

pub drop_get : {A : Type 0} (xs : List A) (i : ℕ) (d : A) → i < length xs → drop i xs ≡ get_or xs i d ∷ drop (i + 1) xs
drop_get {A} xs i d h = let next : suc i ≡ i + 1 = omega arith in drop-cons xs i d h ∙ ap (λ (n : ℕ). get_or xs i d ∷ drop n xs) next

pub drop_end : {A : Type 0} (xs : List A) (i : ℕ) → length xs ≤ i → drop i xs ≡ []
drop_end [] zero h = refl
drop_end [] (suc i) h = refl
drop_end (x ∷ xs) zero h = absurd (omega arith)
drop_end (x ∷ xs) (suc i) h = drop_end xs i (omega arith)
