-- The number in the line of a restart that resumed.
use Rattle.std.proofs.Common.{◌≡◌, ◌≤◌, ◌<◌, ◌+◌, ◌-◌, ◌*◌, ◌/◌, ◌%◌, ◌^◌, ◌&&◌, ℕ, zero, suc, Bool, true, false, cond, List, [], ◌∷◌, ◌++◌, add-one, append-nil, append_assoc, drop, drop-cons, get_or, length, refl, sym, ◌∙◌, ap, arith}
use Rattle.std.specs.Char.{is_ascii_digit}
use Rattle.std.specs.Prelude.{None, Some, nat_le}
use Rattle.std.proofs.lemmas.Bool.{le-leb, leb-true, lt-ltb}
use Rattle.cf_base.specs.declared.answers.OpenedBook.{OpenedBook}
use Rattle.cf_base.specs.declared.answers.Shown.TheVariants as shown
use Rattle.cf_check_model.specs.Reports.{Begins}
use Rattle.cf_check_report.specs.Counts.{count_told, number_from}
use Rattle.cf_check_text.proofs.Decimals.{last_digit, more_digits}
use Rattle.cf_check_report.specs.Restarts.{in_u64}
use Rattle.cf_report.specs.Texts.{result_line}
use Rattle.cf_report.specs.Words.{decimal, digits}

-- one byte more

number_stopped : (b : Bool) (n m : ℕ) → b ≡ false → cond b m n ≡ n
number_stopped false n m e = refl
number_stopped true n m e = let z : true ≡ false = e in absurd cc

number_gone : (b : Bool) (n m : ℕ) → b ≡ true → cond b m n ≡ m
number_gone true n m e = refl
number_gone false n m e = let z : false ≡ true = e in absurd cc

at_next : (all : List ℕ) (i : ℕ) → i < length all → drop i all ≡ get_or all i 0 ∷ drop (i + 1) all
at_next all i lt = drop-cons all i 0 lt ∙ ap (λ (k : ℕ). get_or all i 0 ∷ drop k all) (sym (add-one i))

pub number_ends : (all : List ℕ) (i n : ℕ) → i < length all → is_ascii_digit (get_or all i 0) ≡ false → number_from n (drop i all) ≡ n
number_ends all i n lt none = ap (number_from n) (at_next all i lt) ∙ number_stopped (is_ascii_digit (get_or all i 0)) n (number_from (n * 10 + (get_or all i 0 - 48)) (drop (i + 1) all)) none

pub number_next : (all : List ℕ) (i n : ℕ) → i < length all → is_ascii_digit (get_or all i 0) ≡ true → number_from n (drop i all) ≡ number_from (n * 10 + (get_or all i 0 - 48)) (drop (i + 1) all)
number_next all i n lt digit = ap (number_from n) (at_next all i lt) ∙ number_gone (is_ascii_digit (get_or all i 0)) n (number_from (n * 10 + (get_or all i 0 - 48)) (drop (i + 1) all)) digit

pub digit_least : (d : ℕ) → is_ascii_digit d ≡ true → 48 ≤ d
digit_least d h = leb-true 48 d (first (nat_le 48 d) (nat_le d 57) h)
  where
    first : (a b : Bool) → (a && b) ≡ true → a ≡ true
    first true b e = refl
    first false b e = e

-- more digits make no number less
pub number_least : (n : ℕ) (xs : List ℕ) → n ≤ number_from n xs
number_least n [] = omega arith
number_least n (x ∷ xs) = by (is_ascii_digit x) (number_least (n * 10 + (x - 48)) xs)
  where
    by : (b : Bool) → n * 10 + (x - 48) ≤ number_from (n * 10 + (x - 48)) xs → n ≤ cond b (number_from (n * 10 + (x - 48)) xs) n
    by true h = omega (arith, h)
    by false h = omega arith

pub number_great : (all : List ℕ) (i n : ℕ) → i < length all → is_ascii_digit (get_or all i 0) ≡ true → number_from 0 all ≡ number_from n (drop i all) → 2 ^ 64 ≤ n * 10 + (get_or all i 0 - 48) → 2 ^ 64 ≤ number_from 0 all
number_great all i n lt digit so great =
    let e : number_from 0 all ≡ number_from (n * 10 + (get_or all i 0 - 48)) (drop (i + 1) all) = so ∙ number_next all i n lt digit in
    let k : n * 10 + (get_or all i 0 - 48) ≤ number_from (n * 10 + (get_or all i 0 - 48)) (drop (i + 1) all) = number_least (n * 10 + (get_or all i 0 - 48)) (drop (i + 1) all) in
    omega (arith, e, k, great)

-- the digits of a number write it

digit_is : (d : ℕ) → d < 10 → is_ascii_digit (48 + d) ≡ true
digit_is d lt = rw (le-leb 48 (48 + d) (omega arith)) (le-leb (48 + d) 57 (omega (arith, lt)))

with_digit : (n d : ℕ) (after : List ℕ) (m : ℕ) → d < 10 → m ≡ n * 10 + d → number_from n ((48 + d) ∷ after) ≡ number_from m after
with_digit n d after m lt e =
    number_gone (is_ascii_digit (48 + d)) n (number_from (n * 10 + (48 + d - 48)) after) (digit_is d lt) ∙ ap (λ (k : ℕ). number_from k after) (let k : n * 10 + (48 + d - 48) ≡ m = omega (arith, e) in k)

number_digits : (k n : ℕ) (after more : List ℕ) → n < k → number_from 0 (digits k n after ++ more) ≡ number_from n (after ++ more)
number_digits zero n after more h = absurd (omega (arith, h))
number_digits (suc k) n after more h = by (n / 10) refl (λ front less. number_digits k front ((48 + n % 10) ∷ after) more less)
  where
    by : (front : ℕ) → n / 10 ≡ front → ((m : ℕ) → m < k → number_from 0 (digits k m ((48 + n % 10) ∷ after) ++ more) ≡ number_from m (((48 + n % 10) ∷ after) ++ more)) → number_from 0 (digits (suc k) n after ++ more) ≡ number_from n (after ++ more)
    by zero e rest = ap (λ (xs : List ℕ). number_from 0 (xs ++ more)) (last_digit k n after e) ∙ with_digit 0 (n % 10) (after ++ more) n (omega arith) (omega (arith, e))
    by (suc front) e rest =
        let less : suc front < k = omega (arith, e, h) in
        ap (λ (xs : List ℕ). number_from 0 (xs ++ more)) (more_digits k n front after e) ∙ rest (suc front) less ∙ with_digit (suc front) (n % 10) (after ++ more) n (omega arith) (omega (arith, e))

told_line : (n : ℕ) (opened : OpenedBook) (more : List ℕ) → count_told (result_line (shown.Resumed n opened) ++ more) ≡ n
told_line n opened more =
    ap (number_from 0) (ap (λ (xs : List ℕ). (xs ++ 10 ∷ []) ++ more) (append-nil (decimal n)) ∙ append_assoc (decimal n) (10 ∷ []) more)
    ∙ number_digits (n + 1) n [] (10 ∷ more) (omega arith)

pub told_is : (n : ℕ) (opened : OpenedBook) (rest : List ℕ) → Begins rest (result_line (shown.Resumed n opened)) → count_told rest ≡ n
told_is n opened rest b = ap count_told b.1 ∙ told_line n opened b.0

-- as a number of 64 bits
pub in_so : (n : ℕ) → n < 2 ^ 64 → in_u64 n ≡ Some n
in_so n lt = ap (λ (b : Bool). cond b (Some n) None) (lt-ltb n (2 ^ 64) lt)
