-- Numbers in decimal.
use Rattle.std.proofs.Common.{◌≡◌, ℕ, suc, ◌+◌, ◌-◌, ◌/◌, ◌%◌, ◌<◌, ◌^◌, List, [], ◌∷◌, refl, sym, ap, ◌∙◌, arith}
use Rattle.std.proofs.lemmas.List.{append-nil}
use Rattle.std.proofs.lemmas.Fmt.{PrependsLastDigit, decimal_from_prepends, length-decimal-le_succ}
use Rattle.std.specs.Fmt as fmt
use Rattle.cf_report.specs.Words.{decimal, digits}

last_digit : (k n : ℕ) (after : List ℕ) → n / 10 ≡ 0 → n % 10 ≡ n → digits (suc k) n after ≡ (48 + n) ∷ after
last_digit k n after none same = rw (none, digits) (ap (λ (d : ℕ). (48 + d) ∷ after) same)

more_digits : (k n front : ℕ) (after : List ℕ) → n / 10 ≡ suc front → digits (suc k) n after ≡ digits k (n / 10) ((48 + n % 10) ∷ after)
more_digits k n front after some = rw (some, digits) refl

prepends : PrependsLastDigit digits
prepends = record {
  one = λ k n after small. last_digit k n after (omega arith) (omega arith);
  more = λ k n after large. more_digits k n (n / 10 - 1) after (omega arith);
}

pub decimal_same : (n : ℕ) → n < 2 ^ 64 → fmt.decimal n ≡ decimal n
decimal_same n small = sym (decimal_from_prepends digits prepends (n + 1) n [] small (length-decimal-le_succ n small) ∙ append-nil (fmt.decimal n))
