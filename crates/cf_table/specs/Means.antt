-- What a row says of an item.
use Rattle.std.specs.Prelude.{ℕ, Bool, true, false, not, List, [], length, nat_lt, ◌&&◌, ◌||◌, ◌∷◌, ◌≡◌}
use Rattle.cf_base.specs.declared.ids.Usn.{Usn}
use Rattle.cf_base.specs.declared.items.Kind.{Kind}
use Rattle.cf_model.specs.Effects.{later_than, writes_made}
use Rattle.cf_model.specs.Items.{Item, is_dirty, is_here, is_modified, is_valid}
use Rattle.cf_model.specs.Numbers.{above, no_usn, same_usn}
use Rattle.cf_model.specs.Overlay.{Written, is_covered}
use Rattle.cf_model.specs.Words.{is_empty}
use Rattle.cf_ranges.specs.Positions.{contains}
use Rattle.cf_table.specs.declared.rows.Row.{Row}

-- each write has a number above 0.0, and none a number above the last
abbrev pub AreUpTo : Usn → List Written → Type 0
AreUpTo last [] = Unit {0}
AreUpTo last (w ∷ ws) = (above w.number no_usn ≡ true) × (above w.number last ≡ false) × AreUpTo last ws

-- a position below the size that a write above the anchor covers
abbrev pub is_modified_since : Usn → Item → ℕ → Bool
is_modified_since anchor i p = nat_lt p (length i.held) && is_covered (later_than anchor i.writes) p

-- The sets of the row have the positions that are here, valid, modified, and modified by the writes above the anchor. Of
-- the item it is known besides that it has a flag for each position and that its writes are numbered up to its own number.
pub record HasBytes (row : Row) (i : Item) : Type 0 where
  pub size : row.size ≡ length i.held
  pub even : length i.valid ≡ length i.held
  pub numbers : AreUpTo i.number i.writes
  pub dirty : row.dirty ≡ is_dirty i
  pub dirty_since : row.dirty_since ≡ not (is_empty (later_than row.anchor i.writes))
  pub here : (p : ℕ) → contains row.here p ≡ is_here i p
  pub valid : (p : ℕ) → contains row.valid p ≡ is_valid i p
  pub modified : (p : ℕ) → contains row.modified p ≡ is_modified i p
  pub modified_since : (p : ℕ) → contains row.modified_since p ≡ is_modified_since row.anchor i p

-- the row says what is said of the item, and where its bytes are
pub record Means (row : Row) (i : Item) : Type 0 where
  pub id : row.id ≡ i.id
  pub parent : row.parent ≡ i.parent
  pub name : row.name ≡ i.name
  pub directory : row.dir ≡ i.directory
  pub placeholder : row.placeholder ≡ i.placeholder
  pub populated : row.populated ≡ i.populated
  pub in_sync : row.in_sync ≡ i.in_sync
  pub keep : row.keep ≡ i.keep
  pub pin : row.pin ≡ i.pin
  pub base : row.base ≡ i.base
  pub number : row.number ≡ i.number
  pub identity : row.identity ≡ i.identity
  pub bytes : HasBytes row i

-- the number comes after the last change of the row and after its anchor
pub record IsLater (n : Usn) (row : Row) : Type 0 where
  pub number : above n row.number ≡ true
  pub anchor : above n row.anchor ≡ true

-- what comes after the old number and after n comes after the new one too
abbrev pub StaysBefore : Usn → Row → Row → Type 0
StaysBefore n old new = (m : Usn) → above m old.number ≡ true → above m n ≡ true → above m new.number ≡ true

-- a number up to which a base can take the writes in: none of them, those up to the anchor, or all
abbrev pub is_rebase_point : Usn → Row → Bool
is_rebase_point at row = same_usn at no_usn || same_usn at row.anchor || same_usn at row.number

-- what a change of the item leaves
pub record KeepsRest (old new : Row) : Type 0 where
  pub id : new.id ≡ old.id
  pub anchor : new.anchor ≡ old.anchor
  pub last : new.last ≡ old.last
  pub extents : new.extents ≡ old.extents

-- the place in the tree stays
pub record KeepsPlace (old new : Row) : Type 0 where
  pub parent : new.parent ≡ old.parent
  pub name : new.name ≡ old.name

-- and the identity too
pub record KeepsTexts (old new : Row) : Type 0 where
  pub parent : new.parent ≡ old.parent
  pub name : new.name ≡ old.name
  pub identity : new.identity ≡ old.identity

-- the row of an item that was never uploaded, never accessed, and has no cluster
pub record IsFresh (row : Row) : Type 0 where
  pub anchor : row.anchor ≡ no_usn
  pub last : row.last ≡ 0
  pub extents : row.extents ≡ []

-- a new item of this kind has a write from the start
abbrev pub starts_dirty : Kind → Bool
starts_dirty kind = not (is_empty (writes_made kind no_usn))
