-- A loop that writes something for each element.
use Rattle.std.proofs.Common.{◌≡◌, ℕ, suc, ◌+◌, ◌<◌, List, [], ◌∷◌, ◌++◌, length, take, get_or, sym, ap, ◌∙◌, arith, append_assoc}
use Rattle.std.specs.List.{flat_map}
use Rattle.std.proofs.Math.Seq.{take-suc}
use Rattle.std.proofs.lemmas.List.{append-nil}
use Rattle.std.proofs.lemmas.Grind.{flat_map-append}

-- one element more
taken : {A : Type 0} (f : A → List ℕ) (xs : List A) (i : ℕ) (d x : A) → i < length xs → x ≡ get_or xs i d → flat_map f (take (i + 1) xs) ≡ flat_map f (take i xs) ++ f x
taken f xs i d x h is =
    let next : i + 1 ≡ suc i = omega arith in
    ap (λ n. flat_map f (take n xs)) next
    ∙ ap (flat_map f) (take-suc xs i d h)
    ∙ flat_map-append f (take i xs) (get_or xs i d ∷ [])
    ∙ ap (λ t. flat_map f (take i xs) ++ t) (append-nil (f (get_or xs i d)))
    ∙ ap (λ y. flat_map f (take i xs) ++ f y) (sym is)

-- what is written so far, and the next element
pub one_written : {A : Type 0} (f : A → List ℕ) (xs : List A) (i : ℕ) (d x : A) (old text next : List ℕ) → i < length xs → x ≡ get_or xs i d → next ≡ text ++ f x → text ≡ old ++ flat_map f (take i xs) → next ≡ old ++ flat_map f (take (i + 1) xs)
one_written f xs i d x old text next h is puts so =
    puts
    ∙ ap (λ t. t ++ f x) so
    ∙ append_assoc old (flat_map f (take i xs)) (f x)
    ∙ ap (λ t. old ++ t) (sym (taken f xs i d x h is))
