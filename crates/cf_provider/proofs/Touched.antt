-- The blocks of a span, without a sum that may be too large.
use Rattle.std.proofs.Common.{◌≡◌, ℕ, zero, suc, ◌+◌, ◌-◌, ◌/◌, ◌%◌, ◌||◌, ◌&&◌, sym, ap, ◌∙◌, arith, eqb}
use Rattle.std.specs.Prelude.{nat_le}
use Rattle.std.proofs.lemmas.Bool.Decides.{nat_tests}
use Rattle.cf_model.specs.Blocks.{blocks_of}
use Rattle.cf_model.specs.Words.{counting}

same_count : (s n : ℕ) → (s + n) / 4096 + 1 - s / 4096 ≡ n / 4096 + (s % 4096 + n % 4096) / 4096 + 1
same_count s n = omega arith

pub touched : (s n r : ℕ) → n ≡ r + 1 → counting (s / 4096) (r / 4096 + (s % 4096 + r % 4096) / 4096 + 1) ≡ blocks_of s n
touched s zero r h = absurd (omega arith)
touched s (suc n) r h = let e : r ≡ n = omega arith in ap (λ k. counting (s / 4096) (k / 4096 + (s % 4096 + k % 4096) / 4096 + 1)) e ∙ ap (counting (s / 4096)) (sym (same_count s n))

same_rest : (s n : ℕ) → s % 4096 ≡ 0 → (s + n) % 4096 ≡ n % 4096
same_rest s n h = omega arith

at_base : (s n b : ℕ) → (nat_le s b && eqb (b - s) n) ≡ eqb (s + n) b
at_base s n b = grind (arith, nat_tests)

pub ends : (s n b : ℕ) → s % 4096 ≡ 0 → (eqb (n % 4096) 0 || (nat_le s b && eqb (b - s) n)) ≡ (eqb ((s + n) % 4096) 0 || eqb (s + n) b)
ends s n b h = ap (λ x. eqb (n % 4096) 0 || x) (at_base s n b) ∙ ap (λ k. eqb k 0 || eqb (s + n) b) (sym (same_rest s n h))
