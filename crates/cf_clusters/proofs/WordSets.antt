-- Bits of words, and the least number of a set that is kept in them.
use Rattle.std.proofs.Common.{◌≡◌, ◌≢◌, inl, inr, ℕ, zero, suc, ◌+◌, ◌-◌, ◌*◌, ◌/◌, ◌%◌, ◌<◌, ◌≤◌, ◌^◌, Bool, true, false, List, [], ◌∷◌, ◌++◌, length, get_or, set, take, replicate, refl, sym, ap, ◌∙◌, arith, eqb, eq-eqb, eqb-true, bit_and, bit_or, w64, get_or-set_same, get_or-set_other, length-set}
use Rattle.std.specs.Prelude.{nat_lt}
use Rattle.std.specs.Int.{bit_at, bit_not, trailing_zeros}
use Rattle.std.specs.List.{position_or_len}
use Rattle.std.proofs.Math.Seq.{map-set_same}
use Rattle.std.proofs.lemmas.Bool.{cases_eq, cases_lt, le-ltb, lt-ltb, ltb-true, ltb-false}
use Rattle.std.proofs.lemmas.List.{ext_get_or, get_or-map, get_or-replicate, length-map, length-replicate, map-set}
use Rattle.std.proofs.lemmas.List.FromFn.{length-map-range_with_len, get_or-map-range_with_len}
use Rattle.std.proofs.lemmas.List.Sums.{fails_before_first, passes_at_first, position_or_len_is}
use Rattle.std.proofs.lemmas.Nat.{and_le_l}
use Rattle.std.proofs.lemmas.Nat.Bits.{bit_at-zero, bit_at_ones, bit_at-trailing_zeros, bit_at_set_same, bit_at_set_other, bit_at_clear_same, bit_at_clear_other}
use Rattle.cf_clusters.specs.WordBits.{has_bit, bits_in, used_words, IsWordSet, Sets}

no : true ≡ false → ⊥
no z = cc

not_one : (n : ℕ) → n ≡ 0 → eqb n 1 ≡ false
not_one n e = ap (λ (k : ℕ). eqb k 1) e

-- one word of the list is another
module _ (words : List ℕ) (number word : ℕ) (inside : number / 64 < length words) where
  bit_here : has_bit (set words (number / 64) word) number ≡ eqb (bit_at word (number % 64)) 1
  bit_here = ap (λ (n : ℕ). eqb (bit_at n (number % 64)) 1) (get_or-set_same words (number / 64) word 0 inside)

  bit_there : ((i : ℕ) → i < 64 → i ≢ number % 64 → bit_at word i ≡ bit_at (get_or words (number / 64) 0) i) → (k : ℕ) → k ≢ number → has_bit (set words (number / 64) word) k ≡ has_bit words k
  bit_there kept k differs = elim (cases_eq (k / 64) (number / 64)) [
    | inl same ↦
        ap (λ (i : ℕ). eqb (bit_at (get_or (set words (number / 64) word) i 0) (k % 64)) 1) same
        ∙ ap (λ (n : ℕ). eqb (bit_at n (k % 64)) 1) (get_or-set_same words (number / 64) word 0 inside)
        ∙ ap (λ (n : ℕ). eqb n 1) (kept (k % 64) (omega arith) (λ (index : k % 64 ≡ number % 64). differs (omega (arith, same, index))))
        ∙ ap (λ (i : ℕ). eqb (bit_at (get_or words i 0) (k % 64)) 1) (sym same)
    | inr apart ↦ ap (λ (n : ℕ). eqb (bit_at n (k % 64)) 1) (get_or-set_other words (number / 64) (k / 64) word 0 apart)
  ]

module _ (words : List ℕ) (number old : ℕ) (inside : number / 64 < length words) (read : old ≡ get_or words (number / 64) 0) where
  index : number % 64 < 64
  index = omega arith

  kept : (i : ℕ) → bit_at old i ≡ bit_at (get_or words (number / 64) 0) i
  kept i = ap (λ (n : ℕ). bit_at n i) read

  pub bit_set : Sets number true words (set words (number / 64) (bit_or old (1 * 2 ^ (number % 64) % 2 ^ 64)))
  bit_set =
      let word : ℕ = bit_or old (1 * 2 ^ (number % 64) % 2 ^ 64) in
      record {
        size = length-set words (number / 64) word;
        here = bit_here words number word inside ∙ eq-eqb _ 1 (bit_at_set_same w64 old (number % 64) index);
        others = bit_there words number word inside (λ i below differs. bit_at_set_other w64 old (number % 64) index i differs ∙ kept i);
      }

  pub bit_cleared : Sets number false words (set words (number / 64) (bit_and old (bit_not w64 (1 * 2 ^ (number % 64) % 2 ^ 64))))
  bit_cleared =
      let word : ℕ = bit_and old (bit_not w64 (1 * 2 ^ (number % 64) % 2 ^ 64)) in
      record {
        size = length-set words (number / 64) word;
        here = bit_here words number word inside ∙ not_one _ (bit_at_clear_same w64 old (number % 64) index);
        others = bit_there words number word inside (λ i below differs. bit_at_clear_other w64 old (number % 64) index i below differs ∙ kept i);
      }

-- a word with a bit is not 0
has_some : (word i : ℕ) → bit_at word i ≡ 1 → nat_lt 0 word ≡ true
has_some word i is = lt-ltb 0 word (elim (cases_lt 0 word) [
  | inl more ↦ more
  | inr none ↦ let zero_word : word ≡ 0 = omega (arith, none) in absurd (omega (arith, is, ap (λ (n : ℕ). bit_at n i) zero_word, bit_at-zero i))
])

-- one word changes, and with it the set of the words that have a bit
module _ (words : List ℕ) (used : List Bool) (is : used ≡ used_words words) (number old : ℕ) (inside : number / 64 < length words) (read : old ≡ get_or words (number / 64) 0) where
  used_then : (value : ℕ) (b : Bool) → nat_lt 0 value ≡ b → set used (number / 64) b ≡ used_words (set words (number / 64) value)
  used_then value b value_is = ap (λ (l : List Bool). set l (number / 64) b) is ∙ ap (λ (c : Bool). set (used_words words) (number / 64) c) (sym value_is)
      ∙ sym (map-set (λ w. nat_lt 0 w) words (number / 64) value)

  used_stays : (value : ℕ) → nat_lt 0 value ≡ true → nat_lt 0 old ≡ true → used ≡ used_words (set words (number / 64) value)
  used_stays value now before = is ∙ sym (map-set_same (λ w. nat_lt 0 w) words (number / 64) value 0 (now ∙ sym (ap (λ (n : ℕ). nat_lt 0 n) (sym read) ∙ before)))

  more : (n : ℕ) → (n ≡ 0 → ⊥) → 0 < n
  more zero some = absurd (some refl)
  more (suc n) some = omega arith

  set_some : nat_lt 0 (bit_or old (1 * 2 ^ (number % 64) % 2 ^ 64)) ≡ true
  set_some = has_some _ (number % 64) (bit_at_set_same w64 old (number % 64) (omega arith))

  -- a bit is set in a word that had none, or had one
  pub first_set : set used (number / 64) true ≡ used_words (set words (number / 64) (bit_or old (1 * 2 ^ (number % 64) % 2 ^ 64)))
  first_set = used_then (bit_or old (1 * 2 ^ (number % 64) % 2 ^ 64)) true set_some

  pub more_set : (old ≡ 0 → ⊥) → used ≡ used_words (set words (number / 64) (bit_or old (1 * 2 ^ (number % 64) % 2 ^ 64)))
  more_set some = used_stays (bit_or old (1 * 2 ^ (number % 64) % 2 ^ 64)) set_some (lt-ltb 0 old (more old some))

  -- a bit is cleared, and the word has none then, or has one
  pub last_cleared : (left : ℕ) → left ≡ 0 → set used (number / 64) false ≡ used_words (set words (number / 64) left)
  last_cleared left none = used_then left false (le-ltb 0 left (omega (arith, none)))

  pub some_cleared : (mask : ℕ) → (bit_and old mask ≡ 0 → ⊥) → used ≡ used_words (set words (number / 64) (bit_and old mask))
  some_cleared mask some =
      let left = more (bit_and old mask) some in
      used_stays (bit_and old mask) (lt-ltb 0 (bit_and old mask) left) (lt-ltb 0 old (omega (arith, left, and_le_l old mask)))

pub length-bits : (count : ℕ) (words : List ℕ) → length (bits_in count words) ≡ count
length-bits count words = length-map-range_with_len (has_bit words) 0 count

bit_is : (count : ℕ) (words : List ℕ) (k : ℕ) → k < count → get_or (bits_in count words) k false ≡ has_bit words k
bit_is count words k lt = get_or-map-range_with_len (has_bit words) 0 count k k false lt (omega arith)

-- one number is put in or taken out
module _ (count number : ℕ) (bit : Bool) (old new : List ℕ) (sets : Sets number bit old new) where
  pub bits_set : bits_in count new ≡ set (bits_in count old) number bit
  bits_set = ext_get_or false (bits_in count new) (set (bits_in count old) number bit)
      (length-bits count new ∙ sym (length-set (bits_in count old) number bit ∙ length-bits count old))
      (λ k less. let lt : k < count = omega (arith, less, length-bits count new) in
      bit_is count new k lt ∙ elim (cases_eq k number) [
        | inl same ↦
            ap (λ (i : ℕ). has_bit new i) same ∙ sets.here
            ∙ sym (ap (λ (i : ℕ). get_or (set (bits_in count old) number bit) i false) same ∙ get_or-set_same (bits_in count old) number bit false (omega (arith, same, lt, length-bits count old)))
        | inr other ↦ sets.others k other ∙ sym (get_or-set_other (bits_in count old) number k bit false other ∙ bit_is count old k lt)
      ])

  pub still_set : (used after : List Bool) → IsWordSet count old used → number < count → after ≡ used_words new → IsWordSet count new after
  still_set used after is lt used_is = record {
    size = sets.size ∙ is.size;
    small = is.small;
    used_is = used_is;
    last = sets.others count (λ (e : count ≡ number). omega (arith, e, lt)) ∙ is.last;
  }

none_taken : (n : ℕ) (xs : List ℕ) → take n [] ++ xs ≡ xs
none_taken zero xs = refl
none_taken (suc n) xs = refl

-- an empty list that is made longer
pub resized : (n m value : ℕ) (old new : List ℕ) → old ≡ [] → m ≡ 0 → new ≡ take n old ++ replicate (n - m) value → new ≡ replicate n value
resized n m value old new none zero_long is =
    is ∙ ap (λ (l : List ℕ). take n l ++ replicate (n - m) value) none ∙ none_taken n (replicate (n - m) value) ∙ ap (λ (k : ℕ). replicate k value) (less n m zero_long)
  where
    less : (n m : ℕ) → m ≡ 0 → n - m ≡ n
    less n m e = omega (arith, e)

-- all numbers
module _ (count : ℕ) where
  full_bit : (k : ℕ) → k ≤ count → has_bit (replicate (count / 64 + 1) (2 ^ 64 - 1)) k ≡ true
  full_bit k le =
      ap (λ (n : ℕ). eqb (bit_at n (k % 64)) 1) (get_or-replicate (count / 64 + 1) (k / 64) (2 ^ 64 - 1) 0 (omega (arith, le)))
      ∙ eq-eqb _ 1 (bit_at_ones 64 (k % 64) (omega arith))

  pub full_bits : bits_in count (replicate (count / 64 + 1) (2 ^ 64 - 1)) ≡ replicate count true
  full_bits = ext_get_or false (bits_in count (replicate (count / 64 + 1) (2 ^ 64 - 1))) (replicate count true)
      (length-bits count (replicate (count / 64 + 1) (2 ^ 64 - 1)) ∙ sym (length-replicate count true))
      (λ k less. let lt : k < count = omega (arith, less, length-bits count (replicate (count / 64 + 1) (2 ^ 64 - 1))) in
      bit_is count (replicate (count / 64 + 1) (2 ^ 64 - 1)) k lt ∙ full_bit k (omega (arith, lt)) ∙ sym (get_or-replicate count k true false lt))

  full_used : (n : ℕ) → replicate n true ≡ used_words (replicate n (2 ^ 64 - 1))
  full_used zero = refl
  full_used (suc n) = ap (λ (l : List Bool). true ∷ l) (full_used n)

  pub full_set : (used : List Bool) → count < 2 ^ 32 → used ≡ replicate (count / 64 + 1) true → IsWordSet count (replicate (count / 64 + 1) (2 ^ 64 - 1)) used
  full_set used small is = record {
    size = length-replicate (count / 64 + 1) (2 ^ 64 - 1);
    small = small;
    used_is = is ∙ full_used (count / 64 + 1);
    last = full_bit count (omega arith);
  }

-- the first word that has a bit, and its lowest bit
module _ (count : ℕ) (words : List ℕ) (used : List Bool) (is : IsWordSet count words used) (word : ℕ) (first : word ≡ position_or_len (λ b. b) used) where
  last_word : nat_lt 0 (get_or words (count / 64) 0) ≡ true
  last_word = has_some (get_or words (count / 64) 0) (count % 64) (eqb-true _ 1 is.last)

  marks : (i : ℕ) → i < length words → get_or used i false ≡ nat_lt 0 (get_or words i 0)
  marks i lt = ap (λ (l : List Bool). get_or l i false) is.used_is ∙ get_or-map (λ w. nat_lt 0 w) words i 0 false lt

  pub first_inside : word ≤ count / 64
  first_inside = elim (cases_lt (count / 64) word) [
    | inl past ↦
        let z : true ≡ false = sym (marks (count / 64) (omega (arith, is.size)) ∙ last_word) ∙ fails_before_first (λ b. b) used (count / 64) false (omega (arith, past, first)) in
        absurd (no z)
    | inr inside ↦ inside
  ]

  first_used : 0 < get_or words word 0
  first_used = ltb-true 0 (get_or words word 0) (sym (marks word (omega (arith, first_inside, is.size))) ∙ ap (λ (i : ℕ). get_or used i false) first
      ∙ passes_at_first (λ b. b) used false (omega (arith, first, first_inside, is.size, ap (λ (l : List Bool). length l) is.used_is, length-map words (λ w. nat_lt 0 w))))

  none_before : (i : ℕ) → i < word → get_or words i 0 ≡ 0
  none_before i lt = let none = ltb-false 0 (get_or words i 0) (sym (marks i (omega (arith, lt, first_inside, is.size))) ∙ fails_before_first (λ b. b) used i false (omega (arith, lt, first))) in omega (arith, none)

  module _ (value : ℕ) (read : value ≡ get_or words word 0) (fits : value < 2 ^ 64) where
    some : 0 < value
    some = omega (arith, first_used, read)

    none_below : (k : ℕ) → k < 64 * word + trailing_zeros w64 value → has_bit words k ≡ false
    none_below k lt = elim (cases_lt (k / 64) word) [
      | inl before ↦ not_one (bit_at (get_or words (k / 64) 0) (k % 64)) (ap (λ (n : ℕ). bit_at n (k % 64)) (none_before (k / 64) before) ∙ bit_at-zero (k % 64))
      | inr from ↦
          let lowest = bit_at-trailing_zeros w64 value some fits in
          let same : k / 64 ≡ word = omega (arith, from, lt, lowest.0) in
          ap (λ (i : ℕ). eqb (bit_at (get_or words i 0) (k % 64)) 1) same
          ∙ ap (λ (n : ℕ). eqb (bit_at n (k % 64)) 1) (sym read)
          ∙ not_one (bit_at value (k % 64)) (lowest.2 (k % 64) (omega (arith, same, lt)))
    ]

    there : has_bit words (64 * word + trailing_zeros w64 value) ≡ true
    there =
        let lowest = bit_at-trailing_zeros w64 value some fits in
        let at : (64 * word + trailing_zeros w64 value) / 64 ≡ word = omega (arith, lowest.0) in
        let index : (64 * word + trailing_zeros w64 value) % 64 ≡ trailing_zeros w64 value = omega (arith, lowest.0) in
        ap (λ (i : ℕ). eqb (bit_at (get_or words i 0) ((64 * word + trailing_zeros w64 value) % 64)) 1) at
        ∙ ap (λ (n : ℕ). eqb (bit_at n ((64 * word + trailing_zeros w64 value) % 64)) 1) (sym read)
        ∙ ap (λ (i : ℕ). eqb (bit_at value i) 1) index
        ∙ eq-eqb (bit_at value (trailing_zeros w64 value)) 1 lowest.1

    pub least_inside : 64 * word + trailing_zeros w64 value ≤ count
    least_inside = elim (cases_lt count (64 * word + trailing_zeros w64 value)) [
      | inl past ↦ let z : true ≡ false = sym is.last ∙ none_below count past in absurd (no z)
      | inr inside ↦ inside
    ]

    pub least_is : 64 * word + trailing_zeros w64 value ≡ position_or_len (λ b. b) (bits_in count words)
    least_is = sym (position_or_len_is (λ b. b) (bits_in count words) (64 * word + trailing_zeros w64 value) false
        (omega (arith, least_inside, length-bits count words))
        (λ k lt. bit_is count words k (omega (arith, lt, least_inside)) ∙ none_below k lt)
        (λ lt. bit_is count words (64 * word + trailing_zeros w64 value) (omega (arith, lt, length-bits count words)) ∙ there))
