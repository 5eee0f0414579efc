-- A word spells one number.
use Rattle.std.proofs.Common.{◌≡◌, ℕ, ◌+◌, ◌%◌, ◌^◌, ◌<◌, Bool, true, false, List, [], ◌∷◌, ◌++◌, length, Result, Ok, Err, refl, sym, ap, ◌∙◌, arith}
use Rattle.std.specs.Prelude.{◌&&◌, nat_le, Option, Some, None}
use Rattle.std.specs.List.{list_all}
use Rattle.std.specs.Str.Parse.{ParsesUnsigned}
use Rattle.std.specs.Str.{bytes_eq}
use Rattle.std.specs.Fmt.{decimal}
use Rattle.std.proofs.lemmas.Fmt.{parse-decimal, decimal_injective, decimal_by_steps}
use Rattle.std.proofs.lemmas.List.Folds.{list_all-append}
use Rattle.std.proofs.lemmas.Slice.Eq.{bytes_eq-Decides}
use Rattle.std.proofs.lemmas.Bool.Decides.{nat_tests}
use Rattle.cf_base.specs.declared.ids.Key.{Key}
use Rattle.cf_base.specs.declared.ids.Usn.{Usn}
use Rattle.cf_script_words.specs.Words.{Reads, IsNumber, IsKey, IsUsn}
use Rattle.cf_script_words.specs.Cut.{HasNo, IsKeyParts}
use Rattle.cf_script_words.proofs.Cuts.{lacks, cut_once, cut_at, cut_in}

pub number_once : (word : List ℕ) (m n : ℕ) → IsNumber word m → IsNumber word n → n ≡ m
number_once word m n a b =
    let m' : m < 2 ^ 64 = omega (arith, a.0) in
    let n' : n < 2 ^ 64 = omega (arith, b.0) in
    decimal_injective n m n' m' (sym b.1 ∙ a.1)

-- what parse refuses is no number
pub number_refused : {E : Type 0} (word : List ℕ) (e : E) → ParsesUnsigned 32 10 word (Err e) → (n : ℕ) → IsNumber word n → ⊥
number_refused word e parsed n is =
    let small : n < 2 ^ 64 = omega (arith, is.0) in
    let h : Err e ≡ Ok n = parse-decimal 32 n word (Err e) is.0 small is.1 parsed in cc

-- a word that is not how its number is written is no number
pub number_other : {E : Type 0} (word again : List ℕ) (m : ℕ) (r : Result ℕ E) → ParsesUnsigned 32 10 word r → r ≡ Ok m → again ≡ decimal m → bytes_eq again word ≡ false → (n : ℕ) → IsNumber word n → ⊥
number_other word again m r parsed ok written differs n is =
    let small : n < 2 ^ 64 = omega (arith, is.0) in
    let h : r ≡ Ok n = parse-decimal 32 n word r is.0 small is.1 parsed in
    let same : m ≡ n = cc in
    let e : again ≡ word = written ∙ ap decimal same ∙ sym is.1 in
    let t = (bytes_eq-Decides again word).1 e in cc

abbrev pub is_digit : ℕ → Bool
is_digit b = nat_le 48 b && nat_le b 57

digit_holds : (n : ℕ) → n < 10 → is_digit (48 + n) ≡ true
digit_holds n lt = grind (arith, nat_tests)

pub decimal_digits : (n : ℕ) → n < 2 ^ 64 → list_all is_digit (decimal n) ≡ true
decimal_digits n small = decimal_by_steps (λ n ds. list_all is_digit ds ≡ true)
    (λ n lt. rw (digit_holds n lt) refl)
    (λ n ds ten h. rw (list_all-append is_digit ds ((48 + n % 10) ∷ []), h, digit_holds (n % 10) (omega arith)) refl) n small

key_cut : (word d t : List ℕ) (key : Key) → word ≡ d ++ 46 ∷ t → HasNo 46 d → IsKey word key → IsKeyParts d t key
key_cut word d t key e none is =
    let small : key.epoch < 2 ^ 64 = omega (arith, is.0) in
    let one = cut_once 46 (decimal key.epoch) d (decimal key.number) t (sym is.2 ∙ e) (lacks 46 is_digit (decimal key.epoch) refl (decimal_digits key.epoch small)) none in
    ((is.0, sym one.0), (is.1, sym one.1))

-- a pair is read by its parts
pub key_reads : (word d t : List ℕ) (o : Option Key) → word ≡ d ++ 46 ∷ t → HasNo 46 d → Reads (IsKeyParts d t) o → Reads (IsKey word) o
key_reads word d t (Some key) e none h = ((h.0.0.0, h.0.1.0, rw (e, h.0.0.1, h.0.1.1) refl), λ y is. h.1 y (key_cut word d t y e none is))
key_reads word d t None e none h = λ y is. h y (key_cut word d t y e none is)

pub key_needs_dot : (word : List ℕ) (key : Key) → HasNo 46 word → IsKey word key → ⊥
key_needs_dot word key none is = none (length (decimal key.epoch)) (cut_in 46 word (decimal key.epoch) (decimal key.number) is.2) (cut_at 46 word (decimal key.epoch) (decimal key.number) is.2)

abbrev usn_of : Key → Usn
usn_of key = record { epoch = key.epoch; place = key.number }

pub usn_reads : (word : List ℕ) (key : Key) → Reads (IsKey word) (Some key) → Reads (IsUsn word) (Some (usn_of key))
usn_reads word key h = (h.0, λ y is. ap usn_of (h.1 (record { epoch = y.epoch; number = y.place }) is))
