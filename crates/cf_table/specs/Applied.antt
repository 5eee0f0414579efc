-- What a change of one item that stays makes of it, and what it needs of the row.
use Rattle.std.specs.Prelude.{ℕ, Bool, true, false, List, [], length, Option, ◌+◌, ◌^◌, ◌≤◌, ◌≡◌}
use Rattle.cf_base.specs.declared.changes.Change.{Change}
use Rattle.cf_base.specs.declared.changes.Change.TheVariants as change
use Rattle.cf_base.specs.declared.ids.ItemId.{ItemId}
use Rattle.cf_base.specs.declared.ids.Usn.{Usn}
use Rattle.cf_base.specs.declared.items.Pin.{Pin}
use Rattle.cf_base.specs.declared.limits.TheConstants.{MOST_FILE_BYTES}
use Rattle.cf_model.specs.Effects.{converted, got, kept, left_out, marked, moved, pinned, populated, rebased, reverted, sized, took, unmarked, validated_in, wrote}
use Rattle.cf_model.specs.Items.{Item}
use Rattle.cf_ranges.specs.Pairs.{Puts}
use Rattle.cf_table.specs.Means.{is_rebase_point, KeepsPlace, KeepsRest, Means, StaysBefore}
use Rattle.cf_table.specs.declared.rows.Row.{Row}

-- what the change makes of its item, where that was there before and stays; `pin` is that of a Move's parent
abbrev pub item_effect : Change → Pin → Usn → Item → Item
item_effect (change.Make item parent name kind size identity) pin n i = i
item_effect (change.Remove item) pin n i = i
item_effect (change.Move item parent name) pin n i = moved parent name pin n i
item_effect (change.Write item at bytes) pin n i = wrote at bytes n i
item_effect (change.Size item size) pin n i = sized size n i
item_effect (change.Filled item start bytes) pin n i = got start bytes i
item_effect (change.Validated item start len) pin n i = validated_in start len i
item_effect (change.Emptied item start len) pin n i = left_out start len i
item_effect (change.SetPin item state) pin n i = pinned state i
item_effect (change.Mark item number) pin n i = marked i
item_effect (change.Clear item) pin n i = unmarked i
item_effect (change.Convert item identity) pin n i = converted identity n i
item_effect (change.Revert item) pin n i = reverted n i
item_effect (change.Rebase item identity len at) pin n i = rebased identity len at i
item_effect (change.Take item identity size) pin n i = took identity size n i
item_effect (change.Copy item from parent name) pin n i = i
item_effect (change.Populated item) pin n i = populated i
item_effect (change.Keep item on) pin n i = kept on i

-- The change is of an item that stays, and the row has room for what it says: names up to 255 bytes, identities up to
-- 65,535, files up to 16,777,216, spans up to 2 ^ 40.
abbrev pub FitsRow : Change → Row → Type 0
FitsRow (change.Make item parent name kind size identity) row = ⊥
FitsRow (change.Remove item) row = ⊥
FitsRow (change.Move item parent name) row = length name ≤ 255
FitsRow (change.Write item at bytes) row = at + length bytes ≤ MOST_FILE_BYTES
FitsRow (change.Size item size) row = size ≤ MOST_FILE_BYTES
FitsRow (change.Filled item start bytes) row = start + length bytes ≤ 2 ^ 40
FitsRow (change.Validated item start len) row = start + len ≤ 2 ^ 40
FitsRow (change.Emptied item start len) row = start + len ≤ 2 ^ 40
FitsRow (change.SetPin item state) row = Unit {0}
FitsRow (change.Mark item number) row = Unit {0}
FitsRow (change.Clear item) row = Unit {0}
FitsRow (change.Convert item identity) row = length identity ≤ 65535
FitsRow (change.Revert item) row = Unit {0}
FitsRow (change.Rebase item identity len at) row = (length identity ≤ 65535) × (len ≤ MOST_FILE_BYTES) × (is_rebase_point at row ≡ true)
FitsRow (change.Take item identity size) row = (length identity ≤ 65535) × (size ≤ MOST_FILE_BYTES)
FitsRow (change.Copy item from parent name) row = ⊥
FitsRow (change.Populated item) row = Unit {0}
FitsRow (change.Keep item on) row = Unit {0}

-- the item gets another place
abbrev pub moves : Change → Bool
moves (change.Move item parent name) = true
moves _ = false

-- a name and an identity that can be spelled
pub record IsSpellable (row : Row) : Type 0 where
  pub name : length row.name ≤ 255
  pub identity : length row.identity ≤ 65535

-- what the change makes of the row of its item
pub record Steps (c : Change) (pin : Pin) (n : Usn) (old new : Row) : Type 0 where
  pub means : (i : Item) → Means old i → Means new (item_effect c pin n i)
  pub rest : KeepsRest old new
  pub later : StaysBefore n old new
  pub place : moves c ≡ false → KeepsPlace old new
  pub spellable : IsSpellable old → IsSpellable new

-- another parent and name
pub record Moves (parent : ItemId) (name : List ℕ) (pin : Pin) (n : Usn) (old new : Row) : Type 0 where
  pub means : (i : Item) → Means old i → Means new (moved parent name pin n i)
  pub rest : KeepsRest old new
  pub later : StaysBefore n old new
  pub place : (new.parent ≡ parent) × (new.name ≡ name)
  pub identity : new.identity ≡ old.identity

-- another cluster for the block, or none
pub record SetsExtent (block : ℕ) (cluster : Option ℕ) (old new : Row) : Type 0 where
  pub means : (i : Item) → Means old i → Means new i
  pub puts : Puts old.extents new.extents block cluster
  pub rest : new ≡ record old { extents = new.extents }

-- the anchor becomes the number
pub record SetsAnchor (old new : Row) : Type 0 where
  pub means : (i : Item) → Means old i → Means new i
  pub rest : new ≡ record old { anchor = old.number; dirty_since = false; modified_since = [] }

-- another last access
pub record Touches (clock : ℕ) (old new : Row) : Type 0 where
  pub means : (i : Item) → Means old i → Means new i
  pub rest : new ≡ record old { last = clock }
