-- What must hold of an image so that it tells a volume of so many clusters.
use Rattle.std.specs.Prelude.{ℕ, zero, suc, Bool, true, not, List, [], length, None, Some, ◌||◌, ◌&&◌, ◌==◌, ◌≡◌, ◌≢◌, ◌≤◌, ◌+◌, ◌*◌, ◌/◌, ◌∷◌}
use Rattle.std.specs.List.{list_any}
use Rattle.cf_base.specs.declared.ids.ItemId.{ItemId}
use Rattle.cf_base.specs.declared.limits.TheConstants.{MOST_ITEMS}
use Rattle.cf_codec.specs.declared.formats.Format.{Format}
use Rattle.cf_codec.specs.declared.formats.Format.TheVariants.{First, Second}
use Rattle.cf_model.specs.FirstPlaces as first
use Rattle.cf_model.specs.Formats.{Image}
use Rattle.cf_model.specs.Images.{most_image}
use Rattle.cf_model.specs.Numbers.{no_item, root_id}
use Rattle.cf_model.specs.Rows.{Extent, Row, has_place}
use Rattle.cf_model.specs.Standing.{AreSound, are_apart, clusters_of}
use Rattle.cf_model.specs.Words.{same, says}
use Rattle.cf_volume_image.specs.Contents.{row_at}
use Rattle.cf_volume_image.specs.Spelled.{spell_image_in}

-- item 1 is a directory, and in no other
abbrev pub IsRoot : Row → Type 0
IsRoot r = (r.directory ≡ true) × (r.parent.0 ≡ 0)

abbrev pub HasRoot : List Row → Type 0
HasRoot rows = (r : Row) × (row_at rows root_id ≡ Some r) × IsRoot r

-- the way from the item to its parent, to the parent of that and so on comes to the root in so many steps
unfoldable pub reaches_root : List Row → ℕ → ItemId → Bool
reaches_root rows zero id = id.0 == 1
reaches_root rows (suc n) id = (id.0 == 1) || says (λ r. reaches_root rows n r.parent) (row_at rows id)

-- the item is there, a directory whose entries have come
abbrev pub takes_children : List Row → ItemId → Bool
takes_children rows id = says (λ r. r.directory && r.populated) (row_at rows id)

-- Each item but the root is in a directory, at most 32 steps from the root.
abbrev pub IsPlaced : List Row → Row → Type 0
IsPlaced rows r = r.id.0 ≢ 1 → (takes_children rows r.parent ≡ true) × (reaches_root rows 32 r.id ≡ true)

abbrev pub ArePlaced : List Row → List Row → Type 0
ArePlaced rows [] = Unit {0}
ArePlaced rows (r ∷ rs) = IsPlaced rows r × ArePlaced rows rs

abbrev pub is_namesake : Row → Row → Bool
is_namesake r s = (r.parent.0 == s.parent.0) && same r.name s.name

-- no two items of one directory have one name
abbrev pub are_named : List Row → Bool
are_named [] = true
are_named (r ∷ rs) = not (list_any (is_namesake r) rs) && are_named rs

abbrev pub has_block : List Extent → ℕ → Bool
has_block es b = list_any (λ e. e.block == b) es

-- there is a cluster just for each block that holds a byte
pub record HoldsBytes (r : Row) : Type 0 where
  pub each_byte : (p : ℕ) → has_place r.here p ≡ true → has_block r.extents (p / 4096) ≡ true
  pub each_block : (b : ℕ) → has_block r.extents b ≡ true → (p : ℕ) × (has_place r.here p ≡ true) × (p / 4096 ≡ b)

abbrev pub AllHoldBytes : List Row → Type 0
AllHoldBytes [] = Unit {0}
AllHoldBytes (r ∷ rs) = HoldsBytes r × AllHoldBytes rs

-- the most bytes of an image
abbrev pub most_image_in : Format → ℕ
most_image_in First = first.most_image
most_image_in Second = most_image

-- the most bytes in format 2 of an image that is within the limit of its format: format 1 spells no clock and no accesses
abbrev pub most_image_of : Format → ℕ → ℕ
most_image_of First rows = first.most_image + 8 + 8 * rows
most_image_of Second rows = most_image

-- An image of a volume of so many clusters in this format.
pub record IsSoundIn (f : Format) (clusters : ℕ) (i : Image) : Type 0 where
  pub rows : AreSound i.header i.rows
  pub root : HasRoot i.rows
  -- what the root names as its parent is no item
  pub top : row_at i.rows no_item ≡ None
  pub placed : ArePlaced i.rows i.rows
  pub named : are_named i.rows ≡ true
  pub blocks : AllHoldBytes i.rows
  pub apart : are_apart clusters (clusters_of i.rows) ≡ true
  pub few : length i.rows ≤ MOST_ITEMS
  pub short : length (spell_image_in f i) ≤ most_image_in f

-- in format 2, which is written
abbrev pub IsSound : ℕ → Image → Type 0
IsSound clusters i = IsSoundIn Second clusters i
