-- The slots as they are read.
use Rattle.std.specs.Prelude.{◌≡◌, ◌≢◌, ◌<◌, ◌≤◌, ◌^◌, ℕ, ◌⊎◌, true, false, List, get_or, drop, Option, Some, None}
use Rattle.cf_codec.specs.declared.formats.Format.{Format}
use Rattle.cf_journal.specs.declared.sides.Side.{Side}
use Rattle.cf_journal.specs.declared.sides.Side.TheVariants.{A, B}
use Rattle.cf_journal.specs.Format.{header, is_newer, most_image}

-- the first 28 bytes of a slot that is open and spelled
pub record IsSlotText (format : Format) (text : List ℕ) (generation len size : ℕ) : Type 0 where
  pub gate : get_or text 0 0 ≢ 0
  pub header_is : drop 1 text ≡ header format generation len size
  pub positive : 0 < generation
  pub fits : generation < 2 ^ 64
  pub short : len ≤ most_image format

-- the greatest generation, A on a tie
abbrev pub IsChoice : Option (Format × ℕ × ℕ) → Option (Format × ℕ × ℕ) → Option (Side × Format × ℕ × ℕ) → Type 0
IsChoice None None chosen = chosen ≡ None
IsChoice (Some a) None chosen = chosen ≡ Some (A, a.0, a.1, a.2)
IsChoice None (Some b) chosen = chosen ≡ Some (B, b.0, b.1, b.2)
IsChoice (Some a) (Some b) chosen = ((is_newer b.1 a.1 ≡ true) × (chosen ≡ Some (B, b.0, b.1, b.2))) ⊎ ((is_newer b.1 a.1 ≡ false) × (chosen ≡ Some (A, a.0, a.1, a.2)))
