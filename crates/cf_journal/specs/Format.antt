-- How a volume is spelled on a disk: two slots with a journal each, and gates. A gate is a byte, closed where it is 0.
-- A slot is a gate, a header of 27 bytes and, at 4,096, the image; its other bytes are not read. Each slot has a format.
use Rattle.std.specs.Prelude.{◌≡◌, ◌≢◌, ◌<◌, ◌≤◌, ◌+◌, ◌^◌, ℕ, Bool, true, false, List, [], ◌∷◌, ◌++◌, length, get_or, if◌then◌else◌, ◌==◌, ◌&&◌, nat_lt}
use Rattle.std.specs.Int.{w32, w64, to_be_bytes}
use Rattle.cf_codec.specs.declared.formats.Format.{Format}
use Rattle.cf_codec.specs.declared.formats.Format.TheVariants.{First, Second}
use Rattle.cf_disk.specs.Disk.{part}
use Rattle.cf_journal.specs.declared.sides.Side.{Side}
use Rattle.cf_journal.specs.declared.sides.Side.TheVariants.{A, B}

-- where a half begins, with its slot
abbrev pub base : Side → ℕ
base A = 0
base B = 1572864

abbrev pub other : Side → Side
other A = B
other B = A

-- where the journal of a half lies in it, behind the slot, and how many bytes it has: it ends with its half
abbrev pub journal_at : Format → ℕ
journal_at First = 1048576
journal_at Second = 1310720

abbrev pub journal_len : Format → ℕ
journal_len First = 524288
journal_len Second = 262144

-- the most bytes of an image
abbrev pub most_image : Format → ℕ
most_image First = 1044480
most_image Second = 1306624

-- the last of the letters CFVOL01 and CFVOL02
abbrev pub digit : Format → ℕ
digit First = 49
digit Second = 50

-- the header: the letters, the generation, the length of the image, the size of the disk
unfoldable pub header : Format → ℕ → ℕ → ℕ → List ℕ
header format generation len size = 67 ∷ 70 ∷ 86 ∷ 79 ∷ 76 ∷ 48 ∷ digit format ∷ [] ++ to_be_bytes w64 generation ++ to_be_bytes w32 len ++ to_be_bytes w64 size

-- an open gate, and a spelled header of this format, with this generation and this length of the image
pub record HasSlot (format : Format) (disk : List ℕ) (at generation len : ℕ) : Type 0 where
  pub gate : get_or disk at 0 ≢ 0
  pub header_is : part (at + 1) 27 disk ≡ header format generation len (length disk)
  pub positive : 0 < generation
  pub fits : generation < 2 ^ 64
  pub short : len ≤ most_image format

-- the first generation is greater than the last one, to which it comes next
abbrev pub is_newer : ℕ → ℕ → Bool
is_newer m n = if (m == 1) && (n == 18446744073709551615) then true else if (m == 18446744073709551615) && (n == 1) then false else nat_lt n m

-- the generation g of this side against h of the other: A on a tie
abbrev pub Beats : Side → ℕ → ℕ → Type 0
Beats A g h = is_newer h g ≡ false
Beats B g h = is_newer g h ≡ true

-- this slot is the volume, of whatever format the other is
pub record Chosen (format : Format) (disk : List ℕ) (side : Side) (generation len : ℕ) : Type 0 where
  pub slot : HasSlot format disk (base side) generation len
  pub newest : (f : Format) (h l : ℕ) → HasSlot f disk (base (other side)) h l → Beats side generation h

-- open records of these payloads, without gaps
abbrev pub IsFront : List (List ℕ) → List ℕ → Type 0
IsFront [] front = front ≡ []
IsFront (p ∷ ps) front = (gate : ℕ) × (rest : List ℕ) × (gate ≢ 0) × (length p < 2 ^ 32) × (front ≡ gate ∷ (to_be_bytes w32 (length p) ++ (p ++ rest))) × IsFront ps rest

-- a journal: open records, and then a closed gate
abbrev pub Spells : List (List ℕ) → List ℕ → Type 0
Spells ps bytes = (front : List ℕ) × (tail : List ℕ) × IsFront ps front × (bytes ≡ front ++ 0 ∷ tail)

-- An open gate, and behind it no record that fits: of any payload it would end behind these bytes, or with them, so that there
-- is no gate behind it.
abbrev pub IsOverrun : List ℕ → Type 0
IsOverrun bytes =
    (gate : ℕ) × (more : List ℕ) × (gate ≢ 0) × (bytes ≡ gate ∷ more)
    × ((p : List ℕ) (next : ℕ) (rest : List ℕ) → length p < 2 ^ 32 → more ≡ to_be_bytes w32 (length p) ++ (p ++ next ∷ rest) → ⊥)

-- no journal: open records, and then one that does not fit
abbrev pub Overruns : List (List ℕ) → List ℕ → Type 0
Overruns ps bytes = (front : List ℕ) × (tail : List ℕ) × IsFront ps front × (bytes ≡ front ++ tail) × IsOverrun tail

-- how many bytes the records take
abbrev pub size_of_records : List (List ℕ) → ℕ
size_of_records [] = 0
size_of_records (p ∷ ps) = 5 + length p + size_of_records ps
