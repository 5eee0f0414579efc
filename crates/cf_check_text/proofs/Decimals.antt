-- Numbers in decimal: no two are spelled alike, and none has the byte 10.
use Rattle.std.proofs.Common.{◌≡◌, ◌<◌, ◌+◌, ◌-◌, ◌*◌, ◌/◌, ◌%◌, ◌==◌, not, ℕ, zero, suc, Bool, true, false, List, [], ◌∷◌, refl, sym, ◌∙◌, ap, arith}
use Rattle.std.proofs.lemmas.Bool.{eqb-true}
use Rattle.cf_report.specs.Words.{decimal, digits}
use Rattle.cf_check_text.specs.Clean.{has_no_ten, is_not_ten}

pub last_digit : (k n : ℕ) (after : List ℕ) → n / 10 ≡ 0 → digits (suc k) n after ≡ (48 + n % 10) ∷ after
last_digit k n after none = rw (none, digits) refl

pub more_digits : (k n front : ℕ) (after : List ℕ) → n / 10 ≡ suc front → digits (suc k) n after ≡ digits k (suc front) ((48 + n % 10) ∷ after)
more_digits k n front after some = rw (some, digits) refl

-- the number that digits add to one
abbrev pub value : ℕ → List ℕ → ℕ
value n [] = n
value n (d ∷ ds) = value (n * 10 + (d - 48)) ds

value_digit : (n d : ℕ) (ds : List ℕ) (m : ℕ) → m ≡ n * 10 + (d - 48) → value n (d ∷ ds) ≡ value m ds
value_digit n d ds m e = ap (λ (k : ℕ). value k ds) (sym e)

-- with enough digits a number is what they add
value_of : (k n : ℕ) (after : List ℕ) → n < k → value 0 (digits k n after) ≡ value n after
value_of zero n after h = absurd (omega (arith, h))
value_of (suc k) n after h = by (n / 10) refl (λ front less. value_of k front ((48 + n % 10) ∷ after) less)
  where
    by : (front : ℕ) → n / 10 ≡ front → ((m : ℕ) → m < k → value 0 (digits k m ((48 + n % 10) ∷ after)) ≡ value m ((48 + n % 10) ∷ after)) → value 0 (digits (suc k) n after) ≡ value n after
    by zero e rest = ap (value 0) (last_digit k n after e) ∙ value_digit 0 (48 + n % 10) after n (omega (arith, e))
    by (suc front) e rest =
        let less : suc front < k = omega (arith, e, h) in
        ap (value 0) (more_digits k n front after e) ∙ rest (suc front) less ∙ value_digit (suc front) (48 + n % 10) after n (omega (arith, e))

pub value_decimal : (n : ℕ) → value 0 (decimal n) ≡ n
value_decimal n = value_of (n + 1) n [] (omega arith)

-- no two numbers are spelled alike
pub decimal_apart : (n m : ℕ) → decimal n ≡ decimal m → n ≡ m
decimal_apart n m e = sym (value_decimal n) ∙ ap (value 0) e ∙ value_decimal m

-- a digit is no byte 10
digit_not_ten : (d : ℕ) → is_not_ten (48 + d) ≡ true
digit_not_ten d = by ((48 + d) == 10) refl
  where
    by : (b : Bool) → ((48 + d) == 10) ≡ b → not b ≡ true
    by false e = refl
    by true e = let is : 48 + d ≡ 10 = eqb-true (48 + d) 10 e in absurd (omega (arith, is))

digits_no_ten : (k n : ℕ) (after : List ℕ) → has_no_ten after ≡ true → has_no_ten (digits k n after) ≡ true
digits_no_ten zero n after h = h
digits_no_ten (suc k) n after h = by (n / 10) refl (λ front. digits_no_ten k front ((48 + n % 10) ∷ after) (rw (digit_not_ten (n % 10)) h))
  where
    by : (front : ℕ) → n / 10 ≡ front → ((m : ℕ) → has_no_ten (digits k m ((48 + n % 10) ∷ after)) ≡ true) → has_no_ten (digits (suc k) n after) ≡ true
    by zero e rest = rw (last_digit k n after e) (rw (digit_not_ten (n % 10)) h)
    by (suc front) e rest = rw (more_digits k n front after e) (rest (suc front))

pub decimal_no_ten : (n : ℕ) → has_no_ten (decimal n) ≡ true
decimal_no_ten n = digits_no_ten (n + 1) n [] refl
