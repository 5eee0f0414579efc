-- Bytes of parts of a text, and numbers of a fixed width.
use Rattle.std.proofs.Common.{◌≡◌, ℕ, zero, suc, ◌+◌, ◌*◌, ◌/◌, ◌%◌, ◌^◌, ◌<◌, List, [], ◌∷◌, ◌++◌, length, refl, ap, ◌∙◌, append_assoc, arith}
use Rattle.std.specs.Int.{w32, w64, to_be_bytes}
use Rattle.cf_model.specs.Words.{in_bytes}
use Rattle.cf_wire.specs.Faults.{total}
use Rattle.cf_wire.specs.Spelled.{IsBytes}

by_one : (n : ℕ) → n ≡ n / 1
by_one n = omega arith

pub four_bytes : (n : ℕ) → to_be_bytes w32 n ≡ in_bytes 4 n
four_bytes n = ap (λ v. (n / 16777216) % 256 ∷ (n / 65536) % 256 ∷ (n / 256) % 256 ∷ v % 256 ∷ []) (by_one n)

pub eight_bytes : (n : ℕ) → to_be_bytes w64 n ≡ in_bytes 8 n
eight_bytes n =
    ap (λ v. (n / 72057594037927936) % 256 ∷ (n / 281474976710656) % 256 ∷ (n / 1099511627776) % 256 ∷ (n / 4294967296) % 256 ∷ (n / 16777216) % 256 ∷ (n / 65536) % 256 ∷ (n / 256) % 256 ∷ v % 256 ∷ []) (by_one n)

pub IsBytes-nil : IsBytes []
IsBytes-nil i = omega arith

pub IsBytes-cons : (b : ℕ) (bs : List ℕ) → b < 256 → IsBytes bs → IsBytes (b ∷ bs)
IsBytes-cons b bs small h zero = small
IsBytes-cons b bs small h (suc i) = h i

pub IsBytes-after : (xs ys : List ℕ) → IsBytes (xs ++ ys) → IsBytes ys
IsBytes-after [] ys h = h
IsBytes-after (x ∷ xs) ys h = IsBytes-after xs ys (λ i. h (suc i))

pub IsBytes-before : (xs ys : List ℕ) → IsBytes (xs ++ ys) → IsBytes xs
IsBytes-before [] ys h = IsBytes-nil
IsBytes-before (x ∷ xs) ys h = IsBytes-cons x xs (h 0) (IsBytes-before xs ys (λ i. h (suc i)))

pub IsBytes-append : (xs ys : List ℕ) → IsBytes xs → IsBytes ys → IsBytes (xs ++ ys)
IsBytes-append [] ys g h = h
IsBytes-append (x ∷ xs) ys g h = IsBytes-cons x (xs ++ ys) (g 0) (IsBytes-append xs ys (λ i. g (suc i)) h)

pub IsBytes-in_bytes : (k n : ℕ) → IsBytes (in_bytes k n)
IsBytes-in_bytes zero n = IsBytes-nil
IsBytes-in_bytes (suc k) n = IsBytes-cons ((n / 2 ^ (8 * k)) % 256) (in_bytes k n) (omega arith) (IsBytes-in_bytes k n)

pub total-append : (xs ys : List ℕ) → total (xs ++ ys) ≡ total xs + total ys
total-append [] ys = omega arith
total-append (x ∷ xs) ys = omega (arith, total-append xs ys)

-- there are n bytes
pub some_bytes : (n : ℕ) → (bs : List ℕ) × (length bs ≡ n) × IsBytes bs
some_bytes zero = ([], refl, IsBytes-nil)
some_bytes (suc n) = let rest = some_bytes n in (0 ∷ rest.0, ap suc rest.1, IsBytes-cons 0 rest.0 (omega arith) rest.2)

-- what is put is put behind what stood there
pub joined : (a b c x y : List ℕ) → b ≡ a ++ x → c ≡ b ++ y → c ≡ a ++ (x ++ y)
joined a b c x y p q = q ∙ ap (λ (l : List ℕ). l ++ y) p ∙ append_assoc a x y

pub joined_3 : (a b c d x y z : List ℕ) → b ≡ a ++ x → c ≡ b ++ y → d ≡ c ++ z → d ≡ a ++ ((x ++ y) ++ z)
joined_3 a b c d x y z p q r = joined a c d (x ++ y) z (joined a b c x y p q) r
