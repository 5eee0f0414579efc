-- Numbers of a fixed width.
use Rattle.std.proofs.Common.{◌≡◌, ℕ, ◌/◌, ◌%◌, [], ◌∷◌, ap, arith}
use Rattle.std.specs.Int.{w32, w64, to_be_bytes}
use Rattle.cf_model.specs.Words.{in_bytes}

by_one : (n : ℕ) → n ≡ n / 1
by_one n = omega arith

pub four_bytes : (n : ℕ) → to_be_bytes w32 n ≡ in_bytes 4 n
four_bytes n = ap (λ v. (n / 16777216) % 256 ∷ (n / 65536) % 256 ∷ (n / 256) % 256 ∷ v % 256 ∷ []) (by_one n)

pub eight_bytes : (n : ℕ) → to_be_bytes w64 n ≡ in_bytes 8 n
eight_bytes n =
    ap (λ v. (n / 72057594037927936) % 256 ∷ (n / 281474976710656) % 256 ∷ (n / 1099511627776) % 256 ∷ (n / 4294967296) % 256 ∷ (n / 16777216) % 256 ∷ (n / 65536) % 256 ∷ (n / 256) % 256 ∷ v % 256 ∷ []) (by_one n)
