-- Tests of all elements, one after the other.
use Rattle.std.proofs.Common.{◌≡◌, ◌<◌, ◌≤◌, ◌+◌, ℕ, Bool, true, false, List, ◌∷◌, length, drop, drop-cons, get_or, refl, sym, ◌∙◌, ap, add-one}
use Rattle.std.specs.List.{list_all}
use Rattle.std.proofs.lemmas.List.{drop_all}

pub rest_is : {X : Type 0} (all : List X) (i : ℕ) (x : X) → x ≡ get_or all i x → i < length all → drop i all ≡ x ∷ drop (i + 1) all
rest_is all i x item lt = drop-cons all i x lt ∙ (λ j. sym item j ∷ drop (sym (add-one i) j) all)

pub all_next : {X : Type 0} (p : X → Bool) (all : List X) (i : ℕ) (x : X) → x ≡ get_or all i x → i < length all → p x ≡ true → list_all p (drop i all) ≡ list_all p (drop (i + 1) all)
all_next p all i x item lt is = ap (list_all p) (rest_is all i x item lt) ∙ rw is refl

pub all_ends : {X : Type 0} (p : X → Bool) (all : List X) (i : ℕ) (x : X) → x ≡ get_or all i x → i < length all → p x ≡ false → list_all p (drop i all) ≡ false
all_ends p all i x item lt is = ap (list_all p) (rest_is all i x item lt) ∙ rw is refl

pub all_done : {X : Type 0} (p : X → Bool) (all : List X) (i : ℕ) → length all ≤ i → list_all p (drop i all) ≡ true
all_done p all i le = ap (list_all p) (drop_all i all le)
