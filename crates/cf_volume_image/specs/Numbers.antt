-- The numbers by which the records of one kind can be asked for.
use Rattle.std.specs.Prelude.{ℕ, Bool, true, false, List, [], take, drop, Option, ◌+◌, ◌-◌, ◌^◌, ◌<◌, ◌≡◌, ◌∷◌, ◌==◌, ◌&&◌}
use Rattle.std.specs.BTreeMap.{get}
use Rattle.std.specs.Option.{unwrap_or}
use Rattle.std.specs.Ordering.{nat_cmp}
use Rattle.cf_base.specs.declared.answers.AuxRecord.{AuxRecord}
use Rattle.cf_model.specs.Words.{in_bytes, same, says}
use Rattle.cf_volume_image.specs.declared.number_counts.NumberCounts.{NumberCounts}
use Rattle.cf_volume_image.specs.declared.number_places.NumberPlace.{NumberPlace}
use Rattle.cf_volume_image.specs.declared.number_places.NumberPlace.TheVariants.{First, Second}
use Rattle.cf_volume_image.specs.declared.number_places.Numbers.{Numbers}
use Rattle.cf_volume_image.specs.declared.record_numbers.RecordNumbers.{RecordNumbers}

-- the first byte of the keys of the records that can be asked for
abbrev pub is_numbered : List ℕ → Bool
is_numbered [] = false
is_numbered (k ∷ ks) = k == 113

-- where in the value the number begins
abbrev pub offset_of : NumberPlace → ℕ
offset_of First = 0
offset_of Second = 17

-- eight bytes of the value are the number
abbrev pub spells_at : ℕ → ℕ → List ℕ → Bool
spells_at at number value = same (take 8 (drop at value)) (in_bytes 8 number)

-- the record can be asked for by this number at this place
abbrev pub has_number : NumberPlace → ℕ → AuxRecord → Bool
has_number place number r = is_numbered r.key && spells_at (offset_of place) number r.value

-- how many elements pass

abbrev pub one_if : Bool → ℕ
one_if true = 1
one_if false = 0

abbrev pub how_many : {A : Type 0} → (A → Bool) → List A → ℕ
how_many p [] = 0
how_many p (x ∷ xs) = one_if (p x) + how_many p xs

-- the number there, if there is one, is this one
abbrev pub is_number : ℕ → Option ℕ → Bool
is_number n found = says (λ m. m == n) found

abbrev pub number_at : NumberPlace → Numbers → Option ℕ
number_at First numbers = numbers.first
number_at Second numbers = numbers.second

-- the numbers of a record that may be there
abbrev pub AreNumbersOf : Option AuxRecord → Numbers → Type 0
AreNumbersOf found numbers = (place : NumberPlace) (n : ℕ) → n < 2 ^ 64 → is_number n (number_at place numbers) ≡ says (has_number place n) found

-- counts

-- how often the number is there
abbrev pub count_of : NumberCounts → ℕ → ℕ
count_of t n = unwrap_or (get nat_cmp t.counts n) 0

abbrev pub AreSame : NumberCounts → NumberCounts → Type 0
AreSame old new = (n : ℕ) → count_of new n ≡ count_of old n

-- the number, if there is one, is there once more
abbrev pub Adds : Option ℕ → NumberCounts → NumberCounts → Type 0
Adds number old new = (n : ℕ) → count_of new n ≡ count_of old n + one_if (is_number n number)

abbrev pub Takes : Option ℕ → NumberCounts → NumberCounts → Type 0
Takes number old new = (n : ℕ) → count_of new n ≡ count_of old n - one_if (is_number n number)

-- of a list of records

abbrev pub counts_at : NumberPlace → RecordNumbers → NumberCounts
counts_at First t = t.first
counts_at Second t = t.second

-- each number is counted as often as a record has it
abbrev pub AreCounted : List AuxRecord → RecordNumbers → Type 0
AreCounted records t = (place : NumberPlace) (n : ℕ) → n < 2 ^ 64 → count_of (counts_at place t) n ≡ how_many (has_number place n) records

abbrev pub AreAllSame : RecordNumbers → RecordNumbers → Type 0
AreAllSame old new = (place : NumberPlace) → AreSame (counts_at place old) (counts_at place new)

abbrev pub AddsAll : Numbers → RecordNumbers → RecordNumbers → Type 0
AddsAll numbers old new = (place : NumberPlace) → Adds (number_at place numbers) (counts_at place old) (counts_at place new)

abbrev pub TakesAll : Numbers → RecordNumbers → RecordNumbers → Type 0
TakesAll numbers old new = (place : NumberPlace) → Takes (number_at place numbers) (counts_at place old) (counts_at place new)
