-- Removals, which leave a tombstone where that is wanted and the identity names a target.
use Rattle.std.specs.Prelude.{◌≡◌, ◌<◌, ◌^◌, ◌&&◌, Bool, true, false, not, ℕ, List, Option, Some, None}
use Rattle.cf_base.specs.declared.changes.Change.TheVariants as change
use Rattle.cf_base.specs.declared.ids.ItemId.{ItemId}
use Rattle.cf_model.specs.Books.{tombstone_record}
use Rattle.cf_model.specs.Calls.{buried, tombstone_for}
use Rattle.cf_model.specs.Changes.{next_number, put_with_book}
use Rattle.cf_model.specs.Identities.{is_untargeted}
use Rattle.cf_model.specs.Items.{Item}
use Rattle.cf_model.specs.Numbers.{no_usn}
use Rattle.cf_model.specs.State.{Volume}

-- what a removal makes of the volume
abbrev pub gone : Bool → ItemId → Item → Volume → Volume
gone bury id i v = put_with_book (buried bury i (next_number v)) (change.Remove id) v

-- the numbers of its tombstone have room in the record
abbrev pub FitsGrave : Item → Type 0
FitsGrave i = ((tombstone_for i no_usn).rid.0 < 2 ^ 64) × ((tombstone_for i no_usn).version.0 < 2 ^ 64)

-- the value of the record of its tombstone, which fits, and none where it leaves none
abbrev pub IsGraveOf : Bool → Item → Option (List ℕ) → Type 0
IsGraveOf bury i None = (bury && not (is_untargeted i)) ≡ false
IsGraveOf bury i (Some value) = ((bury && not (is_untargeted i)) ≡ true) × (value ≡ (tombstone_record (tombstone_for i no_usn)).value) × FitsGrave i
