-- Keys stand in the order of the numbers in them.
use Rattle.std.proofs.Common.{◌≡◌, ℕ, zero, suc, ◌+◌, ◌*◌, ◌/◌, ◌%◌, ◌<◌, ◌^◌, Bool, true, false, nat_lt, ◌==◌, ◌&&◌, ◌||◌, List, [], ◌∷◌, ◌++◌, length, refl, ap, ◌∙◌, arith}
use Rattle.std.proofs.lemmas.Bool.Decides.{nat_tests}
use Rattle.std.specs.List.{AllByRecursion}
use Rattle.cf_base.specs.declared.ids.Key.{Key}
use Rattle.cf_base.specs.declared.ids.Usn.{Usn}
use Rattle.cf_model.specs.Books.{key_bytes, usn_bytes}
use Rattle.cf_model.specs.Numbers.{above, same_key, same_usn}
use Rattle.cf_model.specs.Words.{comes_before, in_bytes, number_from, same}
use Rattle.cf_engine_queue.specs.Order.{is_above}
use Rattle.cf_engine_queue.specs.Records.{FitsKey, FitsUsn}

-- texts of bytes, by the numbers that they spell

one_byte : (a c x y : ℕ) (b : Bool) → x < 256 → y < 256 → (nat_lt a c || ((a == c) && (nat_lt x y || ((x == y) && b)))) ≡ (nat_lt (a * 256 + x) (c * 256 + y) || ((a * 256 + x == c * 256 + y) && b))
one_byte a c x y true h k = grind (arith, nat_tests)
one_byte a c x y false h k = grind (arith, nat_tests)

same_byte : (a c x y : ℕ) (b : Bool) → x < 256 → y < 256 → ((a == c) && ((x == y) && b)) ≡ ((a * 256 + x == c * 256 + y) && b)
same_byte a c x y true h k = grind (arith, nat_tests)
same_byte a c x y false h k = grind (arith, nat_tests)

module _ (s t : List ℕ) where
  order_by_numbers : (xs ys : List ℕ) (a c : ℕ) → length xs ≡ length ys → AllByRecursion (λ b. b < 256) xs → AllByRecursion (λ b. b < 256) ys
      → (nat_lt a c || ((a == c) && comes_before (xs ++ s) (ys ++ t))) ≡ (nat_lt (number_from a xs) (number_from c ys) || ((number_from a xs == number_from c ys) && comes_before s t))
  order_by_numbers [] [] a c e h k = refl
  order_by_numbers [] (y ∷ ys) a c e h k = absurd (omega (arith, e))
  order_by_numbers (x ∷ xs) [] a c e h k = absurd (omega (arith, e))
  order_by_numbers (x ∷ xs) (y ∷ ys) a c e h k =
      one_byte a c x y (comes_before (xs ++ s) (ys ++ t)) h.0 k.0 ∙ order_by_numbers xs ys (a * 256 + x) (c * 256 + y) (omega (arith, e)) h.1 k.1

  same_by_numbers : (xs ys : List ℕ) (a c : ℕ) → length xs ≡ length ys → AllByRecursion (λ b. b < 256) xs → AllByRecursion (λ b. b < 256) ys
      → ((a == c) && same (xs ++ s) (ys ++ t)) ≡ ((number_from a xs == number_from c ys) && same s t)
  same_by_numbers [] [] a c e h k = refl
  same_by_numbers [] (y ∷ ys) a c e h k = absurd (omega (arith, e))
  same_by_numbers (x ∷ xs) [] a c e h k = absurd (omega (arith, e))
  same_by_numbers (x ∷ xs) (y ∷ ys) a c e h k =
      same_byte a c x y (same (xs ++ s) (ys ++ t)) h.0 k.0 ∙ same_by_numbers xs ys (a * 256 + x) (c * 256 + y) (omega (arith, e)) h.1 k.1

are_bytes : (k n : ℕ) → AllByRecursion (λ b. b < 256) (in_bytes k n)
are_bytes zero n = tt
are_bytes (suc k) n = (omega arith, are_bytes k n)

number_4 : (n : ℕ) → n < 2 ^ 32 → number_from 0 (in_bytes 4 n) ≡ n
number_4 n lt =
    let a : 0 * 256 + (n / 16777216) % 256 ≡ n / 16777216 = omega (arith, lt) in
    let b : n / 16777216 * 256 + (n / 65536) % 256 ≡ n / 65536 = omega arith in
    let c : n / 65536 * 256 + (n / 256) % 256 ≡ n / 256 = omega arith in
    let d : n / 256 * 256 + (n / 1) % 256 ≡ n = omega arith in
    ap (λ v. number_from v (in_bytes 3 n)) a ∙ ap (λ v. number_from v (in_bytes 2 n)) b ∙ ap (λ v. number_from v (in_bytes 1 n)) c ∙ d

number_8 : (n : ℕ) → n < 2 ^ 64 → number_from 0 (in_bytes 8 n) ≡ n
number_8 n lt =
    let a : 0 * 256 + (n / 72057594037927936) % 256 ≡ n / 72057594037927936 = omega (arith, lt) in
    let b : n / 72057594037927936 * 256 + (n / 281474976710656) % 256 ≡ n / 281474976710656 = omega arith in
    let c : n / 281474976710656 * 256 + (n / 1099511627776) % 256 ≡ n / 1099511627776 = omega arith in
    let d : n / 1099511627776 * 256 + (n / 4294967296) % 256 ≡ n / 4294967296 = omega arith in
    let e : n / 4294967296 * 256 + (n / 16777216) % 256 ≡ n / 16777216 = omega arith in
    let f : n / 16777216 * 256 + (n / 65536) % 256 ≡ n / 65536 = omega arith in
    let g : n / 65536 * 256 + (n / 256) % 256 ≡ n / 256 = omega arith in
    let h : n / 256 * 256 + (n / 1) % 256 ≡ n = omega arith in
    ap (λ v. number_from v (in_bytes 7 n)) a ∙ ap (λ v. number_from v (in_bytes 6 n)) b ∙ ap (λ v. number_from v (in_bytes 5 n)) c ∙ ap (λ v. number_from v (in_bytes 4 n)) d
    ∙ ap (λ v. number_from v (in_bytes 3 n)) e ∙ ap (λ v. number_from v (in_bytes 2 n)) f ∙ ap (λ v. number_from v (in_bytes 1 n)) g ∙ h

-- ids

no_more_lt : (a c : ℕ) → (nat_lt a c || ((a == c) && false)) ≡ nat_lt a c
no_more_lt a c = grind (arith, nat_tests)

no_more_same : (a c : ℕ) → ((a == c) && true) ≡ (a == c)
no_more_same a c = grind (arith, nat_tests)

pub id_order : (x y : ℕ) → x < 2 ^ 64 → y < 2 ^ 64 → comes_before (in_bytes 8 x) (in_bytes 8 y) ≡ nat_lt x y
id_order x y h k =
    order_by_numbers [] [] (in_bytes 8 x) (in_bytes 8 y) 0 0 refl (are_bytes 8 x) (are_bytes 8 y)
    ∙ (λ i. nat_lt (number_8 x h i) (number_8 y k i) || ((number_8 x h i == number_8 y k i) && false)) ∙ no_more_lt x y

pub same_ids : (x y : ℕ) → x < 2 ^ 64 → y < 2 ^ 64 → same (in_bytes 8 x) (in_bytes 8 y) ≡ (x == y)
same_ids x y h k =
    same_by_numbers [] [] (in_bytes 8 x) (in_bytes 8 y) 0 0 refl (are_bytes 8 x) (are_bytes 8 y)
    ∙ (λ i. (number_8 x h i == number_8 y k i) && true) ∙ no_more_same x y

-- keys and numbers, as pairs

turned : (a c : ℕ) → (a == c) ≡ (c == a)
turned a c = grind (arith, nat_tests)

pair_order : (a b c d : ℕ) → a < 2 ^ 32 → b < 2 ^ 32 → c < 2 ^ 32 → d < 2 ^ 32 → comes_before (in_bytes 4 a ++ in_bytes 4 b) (in_bytes 4 c ++ in_bytes 4 d) ≡ (nat_lt a c || ((c == a) && nat_lt b d))
pair_order a b c d h k l m =
    order_by_numbers (in_bytes 4 b) (in_bytes 4 d) (in_bytes 4 a) (in_bytes 4 c) 0 0 refl (are_bytes 4 a) (are_bytes 4 c)
    ∙ (λ i. nat_lt (number_4 a h i) (number_4 c l i) || ((number_4 a h i == number_4 c l i) && order_by_numbers [] [] (in_bytes 4 b) (in_bytes 4 d) 0 0 refl (are_bytes 4 b) (are_bytes 4 d) i))
    ∙ (λ i. nat_lt a c || (turned a c i && (nat_lt (number_4 b k i) (number_4 d m i) || ((number_4 b k i == number_4 d m i) && false))))
    ∙ (λ i. nat_lt a c || ((c == a) && no_more_lt b d i))

same_pairs : (a b c d : ℕ) → a < 2 ^ 32 → b < 2 ^ 32 → c < 2 ^ 32 → d < 2 ^ 32 → same (in_bytes 4 a ++ in_bytes 4 b) (in_bytes 4 c ++ in_bytes 4 d) ≡ ((a == c) && (b == d))
same_pairs a b c d h k l m =
    same_by_numbers (in_bytes 4 b) (in_bytes 4 d) (in_bytes 4 a) (in_bytes 4 c) 0 0 refl (are_bytes 4 a) (are_bytes 4 c)
    ∙ (λ i. (number_4 a h i == number_4 c l i) && same_by_numbers [] [] (in_bytes 4 b) (in_bytes 4 d) 0 0 refl (are_bytes 4 b) (are_bytes 4 d) i)
    ∙ (λ i. (a == c) && ((number_4 b k i == number_4 d m i) && true))
    ∙ (λ i. (a == c) && no_more_same b d i)

pub key_order : (x y : Key) → FitsKey x → FitsKey y → comes_before (key_bytes x) (key_bytes y) ≡ is_above (y.epoch, y.number) (x.epoch, x.number)
key_order x y h k = pair_order x.epoch x.number y.epoch y.number h.0 h.1 k.0 k.1

pub same_keys : (x y : Key) → FitsKey x → FitsKey y → same (key_bytes x) (key_bytes y) ≡ same_key x y
same_keys x y h k = same_pairs x.epoch x.number y.epoch y.number h.0 h.1 k.0 k.1

pub usn_order : (x y : Usn) → FitsUsn x → FitsUsn y → comes_before (usn_bytes x) (usn_bytes y) ≡ above y x
usn_order x y h k = pair_order x.epoch x.place y.epoch y.place h.0 h.1 k.0 k.1

pub same_usns : (x y : Usn) → FitsUsn x → FitsUsn y → same (usn_bytes x) (usn_bytes y) ≡ same_usn x y
same_usns x y h k = same_pairs x.epoch x.place y.epoch y.place h.0 h.1 k.0 k.1
