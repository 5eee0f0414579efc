-- A list sorted by a key is its parts of each key, one after the other.
use Rattle.std.proofs.Common.{◌≡◌, ℕ, zero, suc, ◌+◌, ◌≤◌, ◌<◌, Bool, true, false, cond, List, [], ◌∷◌, ◌++◌, refl, sym, ap, ◌∙◌, arith, inl, inr}
use Rattle.std.specs.Prelude.{filter, ◌⊎◌}
use Rattle.std.proofs.lemmas.Bool.{cases_lt, cond-false, cond-true, eqb-true, ne_eqb}
use Rattle.std.proofs.lemmas.List.{append-nil}
use Rattle.std.proofs.lemmas.List.Elements.{filter-append}
use Rattle.cf_model.specs.Words.{sorted}
use Rattle.cf_tree.proofs.Stable.{Rises, before, has_key, one_sorted, sorted_keeps, sorted_rises}

module _ {X : Type 0} (key : X → ℕ) where
  -- those of the key d, those of the next one, and so on, n keys
  abbrev pub by_key : ℕ → ℕ → List X → List X
  by_key zero d xs = []
  by_key (suc n) d xs = filter (has_key key d) xs ++ by_key n (suc d) xs

  -- the keys do not fall

  from_lower : (low d : ℕ) (xs : List X) → low ≤ d → Rises key d xs → Rises key low xs
  from_lower low d [] le r = tt
  from_lower low d (x ∷ xs) le r = (omega (arith, r.0), r.1)

  part_rises : (low d : ℕ) (xs ys : List X) → low ≤ d → Rises key d ys → Rises key low (filter (has_key key d) xs ++ ys)
  part_rises low d [] ys le r = from_lower low d ys le r
  part_rises low d (x ∷ xs) ys le r = two (has_key key d x) refl (λ from h. part_rises from d xs ys h r) where
    two : (b : Bool) → has_key key d x ≡ b → ((from : ℕ) → from ≤ d → Rises key from (filter (has_key key d) xs ++ ys)) → Rises key low (cond b (x ∷ filter (has_key key d) xs) (filter (has_key key d) xs) ++ ys)
    two true e rest = let same : key x ≡ d = eqb-true (key x) d e in (omega arith, rest (key x) (omega arith))
    two false e rest = rest low le

  by_key_rises : (n low d : ℕ) (xs : List X) → low ≤ d → Rises key low (by_key n d xs)
  by_key_rises zero low d xs le = tt
  by_key_rises (suc n) low d xs le = part_rises low d xs (by_key n (suc d) xs) le (from_lower d (suc d) (by_key n (suc d) xs) (omega arith) (by_key_rises n (suc d) (suc d) xs (omega arith)))

  -- the elements of a key

  same_key : (k : ℕ) (xs : List X) → filter (has_key key k) (filter (has_key key k) xs) ≡ filter (has_key key k) xs
  same_key k [] = refl
  same_key k (x ∷ xs) = two (has_key key k x) refl (same_key k xs) where
    two : (b : Bool) → has_key key k x ≡ b → filter (has_key key k) (filter (has_key key k) xs) ≡ filter (has_key key k) xs →
        filter (has_key key k) (cond b (x ∷ filter (has_key key k) xs) (filter (has_key key k) xs)) ≡ cond b (x ∷ filter (has_key key k) xs) (filter (has_key key k) xs)
    two true e rest = cond-true (has_key key k x) _ _ e ∙ ap (λ l. x ∷ l) rest
    two false e rest = rest

  other_key : (k d : ℕ) (xs : List X) → (k ≡ d → ⊥) → filter (has_key key k) (filter (has_key key d) xs) ≡ []
  other_key k d [] other = refl
  other_key k d (x ∷ xs) other = two (has_key key d x) refl (other_key k d xs other) where
    two : (b : Bool) → has_key key d x ≡ b → filter (has_key key k) (filter (has_key key d) xs) ≡ [] → filter (has_key key k) (cond b (x ∷ filter (has_key key d) xs) (filter (has_key key d) xs)) ≡ []
    two true e rest = cond-false (has_key key k x) _ _ (ne_eqb (key x) k (λ same. other (sym same ∙ eqb-true (key x) d e))) ∙ rest
    two false e rest = rest

  below_all : (n k d : ℕ) (xs : List X) → k < d → filter (has_key key k) (by_key n d xs) ≡ []
  below_all zero k d xs lt = refl
  below_all (suc n) k d xs lt =
      filter-append (has_key key k) (filter (has_key key d) xs) (by_key n (suc d) xs)
      ∙ (λ i. other_key k d xs (λ e. omega arith) i ++ below_all n k (suc d) xs (omega arith) i)

  above_all : (n k d : ℕ) (xs : List X) → d + n ≤ k → filter (has_key key k) (by_key n d xs) ≡ []
  above_all zero k d xs le = refl
  above_all (suc n) k d xs le =
      filter-append (has_key key k) (filter (has_key key d) xs) (by_key n (suc d) xs)
      ∙ (λ i. other_key k d xs (λ e. omega arith) i ++ above_all n k (suc d) xs (omega arith) i)

  among_all : (n k d : ℕ) (xs : List X) → d ≤ k → k < d + n → filter (has_key key k) (by_key n d xs) ≡ filter (has_key key k) xs
  among_all zero k d xs le lt = absurd (omega arith)
  among_all (suc n) k d xs le lt = filter-append (has_key key k) (filter (has_key key d) xs) (by_key n (suc d) xs) ∙ elim (cases_lt d k) [
    | inl later ↦ λ i. other_key k d xs (λ e. omega arith) i ++ among_all n k (suc d) xs (omega arith) (omega arith) i
    | inr here ↦ first d (omega arith)
  ] where
    first : (d : ℕ) → d ≡ k → filter (has_key key k) (filter (has_key key d) xs) ++ filter (has_key key k) (by_key n (suc d) xs) ≡ filter (has_key key k) xs
    first d e = (λ i. filter (has_key key k) (filter (has_key key (e i)) xs) ++ filter (has_key key k) (by_key n (suc d) xs)) ∙ (λ i. same_key k xs i ++ below_all n k (suc d) xs (omega arith) i) ∙ append-nil (filter (has_key key k) xs)

  -- where no element has another key
  pub sorted_by_key : (n d : ℕ) (xs : List X) → ((k : ℕ) → (k < d) ⊎ (d + n ≤ k) → filter (has_key key k) xs ≡ []) → sorted (before key) xs ≡ by_key n d xs
  sorted_by_key n d xs others =
      one_sorted key 0 (sorted (before key) xs) (by_key n d xs) (sorted_rises key xs) (by_key_rises n 0 d xs (omega arith)) (λ k. sorted_keeps key k xs ∙ parts k) where
        parts : (k : ℕ) → filter (has_key key k) xs ≡ filter (has_key key k) (by_key n d xs)
        parts k = elim (cases_lt k d) [
          | inl low ↦ others k (inl low) ∙ sym (below_all n k d xs low)
          | inr from ↦ elim (cases_lt k (d + n)) [
            | inl inside ↦ sym (among_all n k d xs (omega arith) inside)
            | inr high ↦ others k (inr (omega arith)) ∙ sym (above_all n k d xs (omega arith))
          ]
        ]
