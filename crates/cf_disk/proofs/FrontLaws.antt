-- Lists that are filled up.
use Rattle.std.proofs.Common.{◌≡◌, inl, inr, ℕ, zero, suc, ◌+◌, ◌-◌, ◌<◌, ◌≤◌, max, List, [], ◌∷◌, ◌++◌, length, get_or, take, drop, replicate, set, refl, sym, ◌∙◌, ap, arith, append_assoc}
use Rattle.std.proofs.lemmas.Bool.{cases_lt}
use Rattle.std.proofs.lemmas.List.{length-append, length-replicate, replicate-append-replicate, take-append-le, drop-append-le, get_or_append_left, get_or-append_right, get_or_past}
use Rattle.cf_disk.specs.Fronts.{filled}
use Rattle.cf_disk.specs.Splice.{over, length-over}

same_at : {X : Type 0} (n i : ℕ) (x : X) → get_or (replicate n x) i x ≡ x
same_at zero i x = refl
same_at (suc n) zero x = refl
same_at (suc n) (suc i) x = same_at n i x

module _ {X : Type 0} (x : X) where
  pub length-filled : (n : ℕ) (xs : List X) → length (filled n x xs) ≡ max n (length xs)
  length-filled n xs = omega (arith, length-append xs (replicate (n - length xs) x), length-replicate (n - length xs) x)

  pub filled_front : (n i : ℕ) (xs : List X) → i < length xs → get_or (filled n x xs) i x ≡ get_or xs i x
  filled_front n i xs lt = get_or_append_left xs (replicate (n - length xs) x) x i lt

  pub filled_behind : (n i : ℕ) (xs : List X) → length xs ≤ i → get_or (filled n x xs) i x ≡ x
  filled_behind n i xs le = get_or-append_right xs (replicate (n - length xs) x) (length xs) i x refl le ∙ same_at (n - length xs) (i - length xs) x

  pub filled_any : (n i : ℕ) (xs : List X) → get_or (filled n x xs) i x ≡ get_or xs i x
  filled_any n i xs = elim (cases_lt i (length xs)) [
    | inl front ↦ filled_front n i xs front
    | inr behind ↦ filled_behind n i xs behind ∙ sym (get_or_past xs i x behind)
  ]

  pub filled_none : (n : ℕ) (xs : List X) → xs ≡ [] → filled n x xs ≡ replicate n x
  filled_none n xs is = ap (λ (l : List X). filled n x l) is ∙ (let all : n - 0 ≡ n = omega arith in ap (λ (k : ℕ). replicate k x) all)

  -- filled up in two steps
  pub filled_again : (n size : ℕ) (xs : List X) → n ≤ size → length xs ≤ size → filled size x (filled n x xs) ≡ filled size x xs
  filled_again n size xs le fits =
      append_assoc xs (replicate (n - length xs) x) (replicate (size - length (filled n x xs)) x)
      ∙ ap (λ (l : List X). xs ++ l) (replicate-append-replicate (n - length xs) (size - length (filled n x xs)) x)
      ∙ (let rest : n - length xs + (size - length (filled n x xs)) ≡ size - length xs = omega (arith, length-filled n xs) in ap (λ (k : ℕ). xs ++ replicate k x) rest)

  pub filled_over : (size at : ℕ) (mid xs : List X) → at + length mid ≤ length xs → filled size x (over at mid xs) ≡ over at mid (filled size x xs)
  filled_over size at mid xs room =
      ap (λ (k : ℕ). over at mid xs ++ replicate (size - k) x) (length-over x at mid xs room)
      ∙ append_assoc (take at xs ++ mid) (drop (at + length mid) xs) (replicate (size - length xs) x)
      ∙ ap (λ (l : List X). take at xs ++ mid ++ l) (sym (drop-append-le (at + length mid) xs (replicate (size - length xs) x) room))
      ∙ ap (λ (l : List X). l ++ mid ++ drop (at + length mid) (filled size x xs)) (sym (take-append-le at xs (replicate (size - length xs) x) (omega arith)))

-- one more flag is set
pub set_more : {X : Type 0} (n : ℕ) (v : X) (d : List X) → n < length d → set (replicate n v ++ drop n d) n v ≡ replicate (suc n) v ++ drop (suc n) d
set_more n v [] lt = absurd (omega arith)
set_more zero v (x ∷ d) lt = refl
set_more {X} (suc n) v (x ∷ d) lt = ap (λ (l : List X). v ∷ l) (set_more n v d (omega arith))
