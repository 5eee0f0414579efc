-- Whether changes have room.
use Rattle.std.specs.Prelude.{◌≡◌, ◌≤◌, ◌<◌, ◌&&◌, ◌||◌, All, MatchOption, length, not, List, [], ◌∷◌}
use Rattle.cf_base.specs.declared.answers.AuxRecord.{AuxRecord}
use Rattle.cf_base.specs.declared.changes.Change.{Change}
use Rattle.cf_base.specs.declared.changes.Change.TheVariants as change
use Rattle.cf_base.specs.declared.limits.TheConstants.{MOST_FILE_BYTES}
use Rattle.cf_model.specs.Books.{Book, aux_records}
use Rattle.cf_model.specs.Changes.{lacks_numbers, no_blocks, no_table, put_change, put_changes}
use Rattle.cf_model.specs.Formats.{with_records}
use Rattle.cf_model.specs.Images.{table_full}
use Rattle.cf_model.specs.Items.{Item, item_of}
use Rattle.cf_model.specs.State.{Volume}
use Rattle.cf_model.specs.Words.{is_empty}
use Rattle.cf_volume_points.specs.Keeping.{FitsBook}
use Rattle.cf_table.specs.Changing.{FitsItems}
use Rattle.cf_volume_changes.specs.Calls.{HasRecords}
use Rattle.cf_volume_changes.specs.declared.room.changes.Room.{Room}

-- What a change of a list meets in the items before it: it fits the table, whose book names a removed item by its key. A new
-- item has an id above all others; whether that is one of an item is a matter of room.
abbrev pub FitsAmong : Change → Book → List Item → Type 0
FitsAmong (change.Make item parent name kind size identity) b items = All (λ i. i.id.0 < item.0) items × (length name ≤ 255) × (length identity ≤ 65535) × (size ≤ MOST_FILE_BYTES)
FitsAmong (change.Copy item from parent name) b items = All (λ i. i.id.0 < item.0) items × (length name ≤ 255) × MatchOption (item_of items from) ⊥ (λ i. 8 ≤ length i.identity)
FitsAmong (change.Remove item) b items = Unit {0}
FitsAmong c b items = FitsItems c b items

-- each change meets it in the volume that those before it make
abbrev pub FitInTurn : List Change → Volume → Type 0
FitInTurn [] v = Unit {0}
FitInTurn (c ∷ cs) v = FitsAmong c v.book v.items × FitsBook c v.book × FitInTurn cs (put_change c v)

-- no change of the list is refused for want of numbers, of the table's room, and of clusters
pub record HasRoomFor (cs : List Change) (v : Volume) (r : Room) : Type 0 where
  pub places : r.places ≡ not (lacks_numbers v cs)
  pub table : r.table ≡ not (no_table v cs)
  pub blocks : r.blocks ≡ not (no_blocks v cs)

-- the new book has these records besides, and all else as before
abbrev pub HasBeside : Book → List AuxRecord → Book → Type 0
HasBeside b records new = HasRecords b (with_records records (aux_records b)) new

-- the same of a list with the last change of which the book becomes b
pub record HasRoomWith (cs : List Change) (b : Book) (v : Volume) (r : Room) : Type 0 where
  pub places : r.places ≡ not (lacks_numbers v cs)
  pub table : r.table ≡ not (no_table v cs || (not (is_empty cs) && table_full (put_changes cs v).items b))
  pub blocks : r.blocks ≡ not (no_blocks v cs)
