-- A text put into a journal: a payload behind the others, or an image in place of all.
use Rattle.std.specs.Prelude.{ℕ, Bool, true, List, length, Option, Some, None, MatchOption, All, cond, nat_lt, ◌≤◌, ◌+◌}
use Rattle.cf_base.specs.declared.limits.TheConstants.{MOST_ITEMS}
use Rattle.cf_codec.specs.declared.formats.Format.{Format}
use Rattle.cf_codec.specs.declared.formats.Format.TheVariants.{First, Second}
use Rattle.cf_volume_image.specs.Contents.{image_of}
use Rattle.cf_volume_image.specs.Spelled.{IsImage}
use Rattle.cf_volume_image.specs.States.{IsAfter, TellsIn}
use Rattle.cf_volume_image.specs.declared.contents.Contents.{Contents}
use Rattle.cf_journal.specs.Content.{Content}
use Rattle.cf_journal.specs.declared.journals.Journal.{Journal}
use Rattle.cf_model.specs.Formats.{Image, spell_image}
use Rattle.cf_model.specs.Images.{most_image}
use Rattle.cf_table.specs.Reading.{IsStored}
use Rattle.cf_table.specs.Spelling.{HasRoom}
use Rattle.cf_table.specs.declared.rows.Row.{Row}

-- no row has a pin that cannot be stored
abbrev pub HaveStoredPins : List Row → Type 0
HaveStoredPins rows = All (λ r. IsStored r.pin) rows

-- what can be written as an image
pub record CanBeWritten (c : Contents) : Type 0 where
  pub room : All HasRoom c.rows.rows
  pub few : length c.rows.rows ≤ MOST_ITEMS
  pub short : length (spell_image (image_of c)) ≤ most_image

-- the text is that of a payload that leads from the image of the last point to this one
abbrev pub LeadsTo : Option (List ℕ) → Image → Image → Type 0
LeadsTo text old new = MatchOption text (Unit {0}) (λ t. IsAfter t old new)

-- the content tells one image in its format, and the text leads from it to the other
pub record Follows (x : Content) (text : Option (List ℕ)) (image : Image) (c : Contents) : Type 0 where
  pub told : TellsIn x.format x.image x.payloads image
  pub leads : LeadsTo text image (image_of c)
  pub is_image : IsImage (image_of c)

-- records that would end at this place have no room in a journal of the format; in one of format 1 nothing is written
abbrev pub is_full : Format → ℕ → Bool
is_full First end = true
is_full Second end = nat_lt 262144 end

-- the text, where it has room in the journal
abbrev pub text_in : Journal → Option (List ℕ) → Option (List ℕ)
text_in j None = None
text_in j (Some text) = cond (is_full j.format (j.end + (6 + length text))) None (Some text)

-- how many bytes are written: the payload's and 6, or the image's and 30
abbrev pub bytes_of : Option (List ℕ) → List ℕ → ℕ
bytes_of None image = 30 + length image
bytes_of (Some text) image = 6 + length text

abbrev pub bytes_written : Journal → Option (List ℕ) → List ℕ → ℕ
bytes_written j text image = bytes_of (text_in j text) image
