-- What a change needs of a table, and what it leaves beside its items.
use Rattle.std.specs.Prelude.{Bool, true, false, List, [], length, All, MatchOption, max, ◌+◌, ◌^◌, ◌||◌, ◌≤◌, ◌<◌, ◌≡◌, ◌∷◌, ◌++◌}
use Rattle.cf_base.specs.declared.changes.Change.{Change}
use Rattle.cf_base.specs.declared.changes.Change.TheVariants as change
use Rattle.cf_base.specs.declared.ids.ItemId.{ItemId}
use Rattle.cf_base.specs.declared.ids.Usn.{Usn}
use Rattle.cf_base.specs.declared.items.Pin.{Pin}
use Rattle.cf_base.specs.declared.items.Pin.TheVariants as pin
use Rattle.cf_base.specs.declared.limits.TheConstants.{MOST_FILE_BYTES}
use Rattle.cf_model.specs.Books.{Book, anchor_of}
use Rattle.cf_model.specs.Items.{Item, item_of}
use Rattle.cf_model.specs.Numbers.{no_usn, same_usn}
use Rattle.cf_table.specs.Applied.{FitsRow}
use Rattle.cf_table.specs.Means.{IsFresh, IsLater, KeepsRest}
use Rattle.cf_table.specs.Tables.{SetsRow, Table, pin_at, row_of, without_row}
use Rattle.cf_table.specs.declared.rows.Row.{Row}

-- the item that the change is of
abbrev pub item_of_change : Change → ItemId
item_of_change (change.Make item parent name kind size identity) = item
item_of_change (change.Remove item) = item
item_of_change (change.Move item parent name) = item
item_of_change (change.Write item at bytes) = item
item_of_change (change.Size item size) = item
item_of_change (change.Filled item start bytes) = item
item_of_change (change.Validated item start len) = item
item_of_change (change.Emptied item start len) = item
item_of_change (change.SetPin item state) = item
item_of_change (change.Mark item number) = item
item_of_change (change.Clear item) = item
item_of_change (change.Convert item identity) = item
item_of_change (change.Revert item) = item
item_of_change (change.Rebase item identity len at) = item
item_of_change (change.Take item identity size) = item
item_of_change (change.Copy item from parent name) = item
item_of_change (change.Populated item) = item
item_of_change (change.Keep item on) = item

-- a new item stands behind all others
abbrev pub IsNewItem : ItemId → List Row → Type 0
IsNewItem item rows = (item.0 < 18446744073709551615) × All (λ r. r.id.0 < item.0) rows

abbrev pub FitsRows : Change → List Row → Type 0
FitsRows c rows = All (λ r. r.id.0 ≡ (item_of_change c).0 → FitsRow c r) rows

-- the item was there before, and stays
abbrev pub stays : Change → Bool
stays (change.Make item parent name kind size identity) = false
stays (change.Remove item) = false
stays (change.Copy item from parent name) = false
stays _ = true

-- The table has room for the change: names up to 255 bytes, identities up to 65,535, files up to 16,777,216, spans up to
-- 2 ^ 40. The identity of what is copied has a place for its target.
abbrev pub Fits : Change → List Row → Type 0
Fits (change.Make item parent name kind size identity) rows = IsNewItem item rows × (length name ≤ 255) × (length identity ≤ 65535) × (size ≤ MOST_FILE_BYTES)
Fits (change.Copy item from parent name) rows = IsNewItem item rows × (length name ≤ 255) × MatchOption (row_of rows from) ⊥ (λ r. 8 ≤ length r.identity)
Fits (change.Remove item) rows = Unit {0}
Fits c rows = FitsRows c rows

-- the number comes after those of all rows, and after their anchors
abbrev pub IsNext : Usn → List Row → Type 0
IsNext n rows = All (λ r. IsLater n r) rows

-- the id that the next item gets is above all others
abbrev pub AreBelow : Table → Type 0
AreBelow t = All (λ r. r.id.0 < t.next.0) t.rows

-- one more row, of a new item
abbrev pub AddsRow : ItemId → List Row → List Row → Type 0
AddsRow item old new = (s : Row) × IsFresh s × (s.id ≡ item) × (new ≡ old ++ s ∷ [])

-- what the volume keeps beside the items stays in all other rows, and in that of an item that stays
abbrev pub Leaves : Change → List Row → List Row → Type 0
Leaves (change.Make item parent name kind size identity) old new = AddsRow item old new
Leaves (change.Copy item from parent name) old new = AddsRow item old new
Leaves (change.Remove item) old new = new ≡ without_row item old
Leaves c old new = SetsRow KeepsRest (item_of_change c) old new

-- the id that the next item gets after the change
abbrev pub next_after : Change → ItemId → ItemId
next_after (change.Make item parent name kind size identity) next = record { 0 = max next.0 (item.0 + 1) }
next_after (change.Copy item from parent name) next = record { 0 = max next.0 (item.0 + 1) }
next_after _ next = next

-- the pin of the parent that a Move names
abbrev pub pin_for : Change → List Row → Pin
pin_for (change.Move item parent name) rows = pin_at rows parent
pin_for _ rows = pin.Unspecified

-- What is said above of rows, of the items that they mean. The anchors are those of the book.

abbrev pub FitsItem : Change → Book → Item → Type 0
FitsItem (change.Make item parent name kind size identity) b i = ⊥
FitsItem (change.Remove item) b i = ⊥
FitsItem (change.Move item parent name) b i = length name ≤ 255
FitsItem (change.Write item at bytes) b i = at + length bytes ≤ MOST_FILE_BYTES
FitsItem (change.Size item size) b i = size ≤ MOST_FILE_BYTES
FitsItem (change.Filled item start bytes) b i = start + length bytes ≤ 2 ^ 40
FitsItem (change.Validated item start len) b i = start + len ≤ 2 ^ 40
FitsItem (change.Emptied item start len) b i = start + len ≤ 2 ^ 40
FitsItem (change.SetPin item state) b i = Unit {0}
FitsItem (change.Mark item number) b i = Unit {0}
FitsItem (change.Clear item) b i = Unit {0}
FitsItem (change.Convert item identity) b i = length identity ≤ 65535
FitsItem (change.Revert item) b i = Unit {0}
FitsItem (change.Rebase item identity len at) b i = (length identity ≤ 65535) × (len ≤ MOST_FILE_BYTES) × ((same_usn at no_usn || same_usn at (anchor_of b i.id) || same_usn at i.number) ≡ true)
FitsItem (change.Take item identity size) b i = (length identity ≤ 65535) × (size ≤ MOST_FILE_BYTES)
FitsItem (change.Copy item from parent name) b i = ⊥
FitsItem (change.Populated item) b i = Unit {0}
FitsItem (change.Keep item on) b i = Unit {0}

abbrev pub IsNewAmong : ItemId → List Item → Type 0
IsNewAmong item items = (item.0 < 18446744073709551615) × All (λ i. i.id.0 < item.0) items

abbrev pub FitsItems : Change → Book → List Item → Type 0
FitsItems c b items = All (λ i. i.id.0 ≡ (item_of_change c).0 → FitsItem c b i) items

abbrev pub ItemsFit : Change → Book → List Item → Type 0
ItemsFit (change.Make item parent name kind size identity) b items = IsNewAmong item items × (length name ≤ 255) × (length identity ≤ 65535) × (size ≤ MOST_FILE_BYTES)
ItemsFit (change.Copy item from parent name) b items = IsNewAmong item items × (length name ≤ 255) × MatchOption (item_of items from) ⊥ (λ i. 8 ≤ length i.identity)
ItemsFit (change.Remove item) b items = Unit {0}
ItemsFit c b items = FitsItems c b items
