-- Steps of a loop after which each of a list has a property.
use Rattle.std.proofs.Common.{ℕ, ◌+◌, ◌<◌, ◌≤◌, List, length, get_or, drop, sym, subst}
use Rattle.std.specs.Prelude.{All}
use Rattle.std.proofs.lemmas.List.{drop_all, drop_more}
use Rattle.std.proofs.lemmas.List.Elements.{All-cons, All-nil}

pub one_got : {A : Type 0} (P : A → Type 0) (xs : List A) (i : ℕ) (d : A) → i < length xs → P (get_or xs i d) → All P (drop (i + 1) xs) → All P (drop i xs)
one_got {A} P xs i d h p rest = subst (λ (l : List A). All P l) (sym (drop_more xs i d h)) (All-cons P (get_or xs i d) (drop (i + 1) xs) p rest)

pub none_left : {A : Type 0} (P : A → Type 0) (xs : List A) (i : ℕ) → length xs ≤ i → All P (drop i xs)
none_left {A} P xs i h = subst (λ (l : List A). All P l) (sym (drop_all i xs h)) (All-nil P)
