-- Laws on byte strings that lie one behind the other.
use Rattle.std.proofs.Common.{◌≡◌, ℕ, suc, ◌+◌, ◌*◌, List, [], ◌∷◌, ◌++◌, length, take, drop, refl, ◌∙◌, ap, arith}
use Rattle.std.proofs.Math.Nat.{suc-mul}
use Rattle.std.proofs.lemmas.List.{length-take, length-drop, take_all, take-append-le, drop-append-le}
use Rattle.cf_disk.specs.Cuts.{total, cut_up}

module _ {X : Type 0} (size : X → ℕ) where
  pub length-cut_up : (xs : List X) (bytes : List ℕ) → length (cut_up size xs bytes) ≡ length xs
  length-cut_up [] bytes = refl
  length-cut_up (x ∷ xs) bytes = ap suc (length-cut_up xs (drop (size x) bytes))

  pub total-push : (xs : List X) (x : X) → total size (xs ++ x ∷ []) ≡ total size xs + size x
  total-push [] x = omega arith
  total-push (y ∷ ys) x = omega (arith, total-push ys x)

  -- one more byte string behind the others
  pub cut_up-push : (xs : List X) (x : X) (bytes new : List ℕ) → total size xs ≡ length bytes → size x ≡ length new
      → cut_up size (xs ++ x ∷ []) (bytes ++ new) ≡ cut_up size xs bytes ++ (x, new) ∷ []
  cut_up-push [] x [] new whole is = ap (λ (l : List ℕ). (x, l) ∷ []) (take_all (size x) new (omega (arith, is)))
  cut_up-push [] x (b ∷ bytes) new whole is = absurd (omega arith)
  cut_up-push (y ∷ ys) x bytes new whole is =
      (λ i. (y, take-append-le (size y) bytes new (omega (arith, whole)) i) ∷ cut_up size (ys ++ x ∷ []) (drop-append-le (size y) bytes new (omega (arith, whole)) i))
      ∙ ap (λ (l : List (X × List ℕ)). (y, take (size y) bytes) ∷ l) (cut_up-push ys x (drop (size y) bytes) new (omega (arith, whole, length-drop (size y) bytes)) is)

  -- the bytes are all there
  pub total-cut_up : (xs : List X) (bytes : List ℕ) → total size xs ≡ length bytes → total (λ (c : X × List ℕ). length c.1) (cut_up size xs bytes) ≡ length bytes
  total-cut_up [] bytes whole = whole
  total-cut_up (x ∷ xs) bytes whole = omega (arith, length-take (size x) bytes, length-drop (size x) bytes, whole, total-cut_up xs (drop (size x) bytes) (omega (arith, whole, length-drop (size x) bytes)))

pub total_same : {X : Type 0} (n : ℕ) (xs : List X) → total (λ (x : X). n) xs ≡ length xs * n
total_same n [] = omega arith
total_same n (x ∷ xs) = omega (arith, suc-mul (length xs) n, total_same n xs)
