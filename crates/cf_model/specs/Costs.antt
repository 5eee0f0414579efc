-- How many bytes the device is given by a change and by a commit.
use Rattle.std.specs.Prelude.{◌≡◌, ℕ, Bool, true, false, List, length, All, Contains, ◌+◌, ◌*◌}
use Rattle.cf_base.specs.declared.changes.Change.{Change}
use Rattle.cf_model.specs.Blocks.{puts_into}
use Rattle.cf_model.specs.Formats.{Image, Payload, after_payload, spell_image, spell_payload}
use Rattle.cf_model.specs.Items.{Item}

-- what a change writes at most: the blocks into which it puts bytes; a commit for room before it is not counted
abbrev pub most_of_change : List Item → Change → ℕ
most_of_change items c = 4096 * length (puts_into items c)

-- what a commit writes: a record with the payload where it fits, and a whole image where it does not
abbrev pub of_commit : Bool → Payload → Image → ℕ
of_commit true p i = length (spell_payload p) + 6
of_commit false p i = length (spell_image i) + 30

-- The payload leads from the one image to the other, and has no row and no record that both have.
pub record IsDifference (old new : Image) (p : Payload) : Type 0 where
  pub leads : after_payload old p ≡ new
  pub rows : All (λ r. Contains old.rows r → ⊥) p.rows
  pub records : All (λ r. Contains old.records r → ⊥) p.records
