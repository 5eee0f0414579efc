-- Clusters of extents and blocks, one after the other.
use Rattle.std.proofs.Common.{◌≡◌, ℕ, zero, suc, ◌<◌, ◌≤◌, List, [], ◌∷◌, ◌++◌, length, drop, take, get_or, refl, sym, ap, subst, arith}
use Rattle.std.proofs.lemmas.List.{length-map}
use Rattle.std.specs.Prelude.{All}
use Rattle.cf_volume_points.specs.Staging.{names}

name_at : (es : List (ℕ × ℕ)) (i : ℕ) (d : ℕ × ℕ) → get_or (names es) i d.1 ≡ (get_or es i d).1
name_at [] i d = refl
name_at (e ∷ es) zero d = refl
name_at (e ∷ es) (suc i) d = name_at es i d

pub named_at : (n : ℕ) (es : List (ℕ × ℕ)) (i : ℕ) (d : ℕ × ℕ) → i < length es → All (λ k. k < n) (names es) → (get_or es i d).1 < n
named_at n es i d lt all = subst (λ (k : ℕ). k < n) (name_at es i d) (all i d.1 (subst (λ (m : ℕ). i < m) (sym (length-map es (λ (e : ℕ × ℕ). e.1))) lt))

pub drop_all : {A : Type 0} (n : ℕ) (xs : List A) → length xs ≤ n → drop n xs ≡ []
drop_all {A} zero [] le = refl
drop_all {A} zero (x ∷ xs) le = absurd (omega (arith, le))
drop_all {A} (suc n) [] le = refl
drop_all {A} (suc n) (x ∷ xs) le = drop_all n xs (omega (arith, le))

pub take_next : (xs : List ℕ) (i d : ℕ) → i < length xs → take (suc i) xs ≡ take i xs ++ get_or xs i d ∷ []
take_next [] i d lt = absurd (omega (arith, lt))
take_next (x ∷ xs) zero d lt = refl
take_next (x ∷ xs) (suc i) d lt = ap (λ (l : List ℕ). x ∷ l) (take_next xs i d (omega (arith, lt)))
