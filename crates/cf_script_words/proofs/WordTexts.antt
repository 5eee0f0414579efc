-- What is written as a word is one: a text without spaces and control bytes.
use Rattle.std.proofs.Common.{◌≡◌, ℕ, zero, suc, ◌^◌, ◌<◌, ◌≤◌, Bool, true, false, List, [], ◌∷◌, refl, subst, ◌∙◌, inl, inr, arith}
use Rattle.std.specs.Prelude.{◌⊎◌, ◌&&◌, ◌==◌, not, nat_le, nat_lt}
use Rattle.std.specs.List.{list_all}
use Rattle.std.specs.Str.{IsUtf8, IsAscii}
use Rattle.std.specs.Fmt.{decimal}
use Rattle.std.proofs.lemmas.Bool.{cases_Bool}
use Rattle.std.proofs.lemmas.Bool.Decides.{nat_tests}
use Rattle.std.proofs.lemmas.List.{append-nil}
use Rattle.std.proofs.lemmas.List.Folds.{list_all-append}
use Rattle.std.proofs.lemmas.List.Sums.{list_all-from_AllPass}
use Rattle.std.proofs.lemmas.Str.{IsUtf8-append, IsUtf8-nil, IsUtf8-from_ascii, IsUtf8-encode, encode_ascii}
use Rattle.hex.specs.Hex.{encode_lower, is_hex_digit, IsBytes}
use Rattle.hex.proofs.HexLemmas.{decode_of-encode_lower, decode_of-ok}
use lib.Utf8.{encode, encodes, scalar, scalars}
use Rattle.cf_script_words.specs.Words.{written, pair_text, plain_text}
use Rattle.cf_script_words.proofs.NumberMeans.{is_digit, decimal_digits}
use Rattle.cf_script_words.proofs.PathMeans.{written-append}

abbrev pub is_word_byte : ℕ → Bool
is_word_byte b = nat_le 33 b && not (b == 127)

abbrev pub is_word : List ℕ → Bool
is_word w = list_all is_word_byte w

abbrev is_ascii_word : ℕ → Bool
is_ascii_word b = nat_le 33 b && nat_le b 126

pub record IsWord (w : List ℕ) : Type 0 where
  pub utf8 : IsUtf8 w
  pub plain : is_word w ≡ true

abbrev pub AreAllWords : List (List ℕ) → Type 0
AreAllWords [] = Unit {0}
AreAllWords (w ∷ ws) = IsWord w × AreAllWords ws

pub and_parts : (a b : Bool) → (a && b) ≡ true → (a ≡ true) × (b ≡ true)
and_parts true b h = (refl, h)
and_parts false b h = absurd cc

pub all_more : (p q : ℕ → Bool) → ((b : ℕ) → p b ≡ true → q b ≡ true) → (xs : List ℕ) → list_all p xs ≡ true → list_all q xs ≡ true
all_more p q f [] h = refl
all_more p q f (x ∷ xs) h = let k = and_parts (p x) (list_all p xs) h in rw (f x k.0, all_more p q f xs k.1) refl

ascii_is_word : (b : ℕ) → is_ascii_word b ≡ true → is_word_byte b ≡ true
ascii_is_word b h = grind (arith, nat_tests)

ascii_small : (xs : List ℕ) → list_all is_ascii_word xs ≡ true → IsAscii xs
ascii_small [] h i = omega arith
ascii_small (x ∷ xs) h zero = let k = (and_parts (is_ascii_word x) (list_all is_ascii_word xs) h).0 in small x k
  where
    small : (x : ℕ) → is_ascii_word x ≡ true → x < 128
    small x k = grind (arith, nat_tests)
ascii_small (x ∷ xs) h (suc i) = ascii_small xs (and_parts (is_ascii_word x) (list_all is_ascii_word xs) h).1 i

-- a word of ASCII
pub fixed : (w : List ℕ) → list_all is_ascii_word w ≡ true → IsWord w
fixed w h = record { utf8 = IsUtf8-from_ascii w (ascii_small w h); plain = all_more is_ascii_word is_word_byte ascii_is_word w h }

digit_ascii : (b : ℕ) → is_digit b ≡ true → is_ascii_word b ≡ true
digit_ascii b h = grind (arith, nat_tests)

number_ascii : (n : ℕ) → n < 2 ^ 32 → list_all is_ascii_word (decimal n) ≡ true
number_ascii n lt = let small : n < 2 ^ 64 = omega (arith, lt) in all_more is_digit is_ascii_word digit_ascii (decimal n) (decimal_digits n small)

pub number_word : (n : ℕ) → n < 2 ^ 32 → IsWord (decimal n)
number_word n lt = fixed (decimal n) (number_ascii n lt)

pub pair_word : (m n : ℕ) → m < 2 ^ 32 → n < 2 ^ 32 → IsWord (pair_text m n)
pair_word m n lm ln = fixed (pair_text m n) (list_all-append is_ascii_word (decimal m) (46 ∷ decimal n) ∙ rw (number_ascii m lm, number_ascii n ln) refl)

hex_ascii : (b : ℕ) → is_hex_digit b ≡ true → is_ascii_word b ≡ true
hex_ascii b h =
    elim (cases_Bool (nat_le 65 b && nat_le b 70)) [
      | inl yes' ↦ let k = and_parts (nat_le 65 b) (nat_le b 70) yes' in upper b k.0 k.1
      | inr miss ↦ elim (cases_Bool (nat_le 97 b && nat_le b 102)) [
        | inl yes' ↦ let k = and_parts (nat_le 97 b) (nat_le b 102) yes' in lower b k.0 k.1
        | inr miss' ↦ elim (cases_Bool (nat_le 48 b && nat_le b 57)) [
          | inl yes' ↦ digit_ascii b yes'
          | inr miss'' ↦ let n = rw (miss, miss', miss'') at h in absurd cc
        ]
      ]
    ]
  where
    upper : (b : ℕ) → nat_le 65 b ≡ true → nat_le b 70 ≡ true → is_ascii_word b ≡ true
    upper b h k = grind (arith, nat_tests)

    lower : (b : ℕ) → nat_le 97 b ≡ true → nat_le b 102 ≡ true → is_ascii_word b ≡ true
    lower b h k = grind (arith, nat_tests)

pub data_all : (test : ℕ → Bool) → ((b : ℕ) → is_hex_digit b ≡ true → test b ≡ true) → test 45 ≡ true → (bytes : List ℕ) → IsBytes bytes → list_all test (plain_text bytes) ≡ true
data_all test digit hyphen [] is = rw hyphen refl
data_all test digit hyphen (b ∷ bs) is =
    let digits = (decode_of-ok (encode_lower (b ∷ bs)) (b ∷ bs) (decode_of-encode_lower (b ∷ bs) is)).1 in
    all_more is_hex_digit test digit (encode_lower (b ∷ bs)) (list_all-from_AllPass is_hex_digit (encode_lower (b ∷ bs)) digits)

pub data_word : (bytes : List ℕ) → IsBytes bytes → IsWord (plain_text bytes)
data_word bytes is = fixed (plain_text bytes) (data_all is_ascii_word hex_ascii refl bytes is)

-- bytes above ASCII are written as they are, and an ASCII byte as ASCII
pub record IsPlainWay (f : ℕ → List ℕ) : Type 0 where
  pub high : (b : ℕ) → 128 ≤ b → f b ≡ b ∷ []
  pub low : (b : ℕ) → b < 128 → IsUtf8 (f b)

abbrev AreHigh : List ℕ → Type 0
AreHigh [] = Unit {0}
AreHigh (b ∷ bs) = (128 ≤ b) × AreHigh bs

high_same : (f : ℕ → List ℕ) → IsPlainWay f → (bs : List ℕ) → AreHigh bs → written f bs ≡ bs
high_same f is [] h = refl
high_same f is (b ∷ bs) h = rw (is.high b h.0, high_same f is bs h.1) refl

char_cases : (c : ℕ) → (c < 128) ⊎ AreHigh (encode c)
unfolding encode
char_cases c = elim (cases_Bool (nat_lt c 128)) [
  | inl small ↦ inl (below c 128 small)
  | inr big ↦ inr (rw big (elim (cases_Bool (nat_lt c 2048)) [
    | inl two ↦ rw two (omega arith, (omega arith, tt))
    | inr more ↦ rw more (elim (cases_Bool (nat_lt c 65536)) [
      | inl three ↦ rw three (omega arith, (omega arith, (omega arith, tt)))
      | inr four ↦ rw four (omega arith, (omega arith, (omega arith, (omega arith, tt))))
    ])
  ]))
]
  where
    below : (m n : ℕ) → nat_lt m n ≡ true → m < n
    below m n h = grind (arith, nat_tests)

char_written : (f : ℕ → List ℕ) → IsPlainWay f → (c : ℕ) → scalar c ≡ true → IsUtf8 (written f (encode c))
char_written f is c ok = elim (char_cases c) [
  | inl small ↦ rw (encode_ascii c small, append-nil (f c)) (is.low c small)
  | inr big ↦ rw (high_same f is (encode c) big) (IsUtf8-encode c ok)
]

chars_written : (f : ℕ → List ℕ) → IsPlainWay f → (cs : List ℕ) → scalars cs ≡ true → IsUtf8 (written f (encodes cs))
chars_written f is [] ok = IsUtf8-nil
chars_written f is (c ∷ cs) ok =
    let k = and_parts (scalar c) (scalars cs) ok in
    rw (written-append f (encode c) (encodes cs)) (IsUtf8-append (written f (encode c)) (written f (encodes cs)) (char_written f is c k.0) (chars_written f is cs k.1))

pub utf8_written : (f : ℕ → List ℕ) → IsPlainWay f → (bs : List ℕ) → IsUtf8 bs → IsUtf8 (written f bs)
utf8_written f is bs utf8 = subst (λ t. IsUtf8 (written f t)) utf8.1.1 (chars_written f is utf8.0 utf8.1.0)
