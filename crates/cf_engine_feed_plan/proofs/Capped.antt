-- A number that stops at the greatest u64.
use Rattle.std.proofs.Common.{◌≡◌, ℕ, zero, suc, ◌+◌, ◌*◌, ◌≤◌, ◌<◌, List, [], ◌∷◌, length, take, drop, refl, ap, ◌∙◌, arith, eqb, inl, inr}
use Rattle.std.specs.Prelude.{◌⊎◌, min, nat_lt}
use Rattle.std.proofs.lemmas.Bool.{cases_lt}
use Rattle.std.proofs.lemmas.Bool.Decides.{nat_tests}
use Rattle.cf_model.specs.Words.{number_from}

-- equal, or both past the greatest
abbrev pub Alike : ℕ → ℕ → Type 0
Alike m n = (m ≡ n) ⊎ ((18446744073709551615 ≤ m) × (18446744073709551615 ≤ n))

pub alike_on : (bs : List ℕ) (m n : ℕ) → Alike m n → Alike (number_from m bs) (number_from n bs)
alike_on [] m n h = h
alike_on (b ∷ bs) m n (inl e) = alike_on bs (m * 256 + b) (n * 256 + b) (inl (ap (λ v. v * 256 + b) e))
alike_on (b ∷ bs) m n (inr h) = alike_on bs (m * 256 + b) (n * 256 + b) (inr (omega (arith, h.0), omega (arith, h.1)))

pub alike_from_small : (m n : ℕ) → m ≤ 18446744073709551615 → Alike m n → m ≡ min 18446744073709551615 n
alike_from_small m n le (inl e) = omega (arith, le, e)
alike_from_small m n le (inr h) = omega (arith, le, h.0, h.1)

pub then_alike : (k m n : ℕ) → Alike k m → Alike m n → Alike k n
then_alike k m n (inl e) (inl f) = inl (e ∙ f)
then_alike k m n (inl e) (inr f) = inr (omega (arith, e, f.0), f.1)
then_alike k m n (inr e) (inl f) = inr (e.0, omega (arith, f, e.1))
then_alike k m n (inr e) (inr f) = inr (e.0, f.1)

pub capped_less : (x v : ℕ) → v < 18446744073709551616 → nat_lt (min 18446744073709551615 x) v ≡ nat_lt x v
capped_less x v h = grind (arith, nat_tests, h)

pub capped_zero : (x : ℕ) → eqb (min 18446744073709551615 x) 0 ≡ eqb x 0
capped_zero x = grind (arith, nat_tests)

-- one more byte
pub capped_more : (n b : ℕ) → Alike (min (min (n * 256) 18446744073709551615 + b) 18446744073709551615) (n * 256 + b)
capped_more n b = elim (cases_lt (n * 256 + b) 18446744073709551615) [
  | inl lt ↦ inl (omega (arith, lt))
  | inr ge ↦ inr (omega (arith, ge), ge)
]

pub whole_front : (n : ℕ) (xs : List ℕ) → length xs ≤ n → take n xs ≡ xs
whole_front n [] h = take_nil n where
  take_nil : (m : ℕ) → take {A = ℕ} m [] ≡ []
  take_nil zero = refl
  take_nil (suc m) = refl
whole_front zero (x ∷ xs) h = absurd (omega (arith, h))
whole_front (suc n) (x ∷ xs) h = λ k. x ∷ whole_front n xs (omega (arith, h)) k

pub none_behind : (n : ℕ) (xs : List ℕ) → length xs ≤ n → drop n xs ≡ []
none_behind n [] h = drop_nil n where
  drop_nil : (m : ℕ) → drop {A = ℕ} m [] ≡ []
  drop_nil zero = refl
  drop_nil (suc m) = refl
none_behind zero (x ∷ xs) h = absurd (omega (arith, h))
none_behind (suc n) (x ∷ xs) h = none_behind n xs (omega (arith, h))
