-- A set of numbers below a count, kept as bits in words.
use Rattle.std.specs.Prelude.{◌≡◌, ℕ, ◌+◌, ◌<◌, ◌^◌, ◌/◌, ◌%◌, ◌==◌, nat_lt, Bool, true, List, length, map, get_or}
use Rattle.std.specs.Int.{bit_at}
use Rattle.std.specs.List.{range_with_len}

-- number k has bit k % 64 of word k / 64
abbrev pub has_bit : List ℕ → ℕ → Bool
has_bit words k = bit_at (get_or words (k / 64) 0) (k % 64) == 1

-- which numbers are there
abbrev pub bits_in : ℕ → List ℕ → List Bool
bits_in count words = map (has_bit words) (range_with_len 0 count)

-- which words have a bit
abbrev pub used_words : List ℕ → List Bool
used_words words = map (λ w. nat_lt 0 w) words

-- the bit of one number is the given one, and all others are as before
pub record Sets (number : ℕ) (bit : Bool) (old new : List ℕ) : Type 0 where
  pub size : length new ≡ length old
  pub here : has_bit new number ≡ bit
  pub others : (k : ℕ) → (k ≡ number → ⊥) → has_bit new k ≡ has_bit old k

-- the words with the set of those that have a bit; the bit of the count stands behind the others
pub record IsWordSet (count : ℕ) (words : List ℕ) (used : List Bool) : Type 0 where
  pub size : length words ≡ count / 64 + 1
  pub small : count < 2 ^ 32
  pub used_is : used ≡ used_words words
  pub last : has_bit words count ≡ true
