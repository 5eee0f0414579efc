-- Rows of new items.
use Rattle.std.specs.Prelude.{◌≡◌, ◌+◌, ◌*◌, ◌||◌, ◌++◌, ◌∷◌, ℕ, Bool, false, [], None, length, min, nat_lt, replicate}
use Rattle.cf_base.specs.declared.changes.Change.{Change}
use Rattle.cf_base.specs.declared.changes.Change.TheVariants as change
use Rattle.cf_base.specs.declared.ids.ItemId.{ItemId}
use Rattle.cf_base.specs.declared.limits.TheConstants.{MOST_IMAGE_BYTES, MOST_ITEMS}
use Rattle.cf_volume_image.specs.Contents.{image_of}
use Rattle.cf_volume_image.specs.declared.contents.Contents.{Contents}
use Rattle.cf_model.specs.Blocks.{blocks_holding, held_of, puts_into}
use Rattle.cf_model.specs.Books.{book_after}
use Rattle.cf_model.specs.Changes.{needs_id, next_number}
use Rattle.cf_model.specs.Effects.{effect}
use Rattle.cf_model.specs.Formats.{spell_image}
use Rattle.cf_model.specs.Images.{never_longer}
use Rattle.cf_model.specs.Items.{Item}
use Rattle.cf_model.specs.Logs.{next_by}
use Rattle.cf_model.specs.Numbers.{most_items}
use Rattle.cf_model.specs.State.{Volume}
use Rattle.cf_volume_points.specs.Lengths.{len_with}
use Rattle.cf_ranges.specs.Positions.{IsBelow, touched}
use Rattle.cf_table.specs.Means.{Means}
use Rattle.cf_table.specs.declared.rows.Row.{Row}

abbrev pub IsMake : Change → Type 0
IsMake (change.Make item parent name kind size identity) = Unit {0}
IsMake _ = ⊥

abbrev pub IsCopy : Change → Type 0
IsCopy (change.Copy item from parent name) = Unit {0}
IsCopy _ = ⊥

-- The change makes one more item, which the row means. It may make the table longer, and needs an id.
pub record Arrives (c : Change) (v : Volume) (row : Row) (i : Item) : Type 0 where
  pub means : Means row i
  pub items : effect v.items c (next_number v) ≡ v.items ++ i ∷ []
  pub book : book_after c v.book ≡ v.book
  pub next : next_by c ≡ row.id.0 + 1
  pub longer : never_longer c ≡ false
  pub id : needs_id c ≡ nat_lt most_items row.id.0

-- none of the n positions of the item is held
pub record IsMade (c : Change) (v : Volume) (row : Row) (i : Item) (n : ℕ) : Type 0 where
  pub arrives : Arrives c v row i
  pub held : i.held ≡ replicate n None
  pub puts : puts_into v.items c ≡ []

-- the item holds what another does
pub record IsCopied (c : Change) (v : Volume) (row : Row) (i : Item) (from : ItemId) : Type 0 where
  pub arrives : Arrives c v row i
  pub held : i.held ≡ held_of v.items from
  pub puts : puts_into v.items c ≡ blocks_holding (held_of v.items from)

-- the test whether the table has no room for one more row, each block with a byte of which has a cluster
abbrev pub TestsRow : Contents → Row → Bool → Type 0
TestsRow c row result =
    (n : ℕ) → IsBelow row.here (4096 * n)
    → result ≡ (nat_lt MOST_ITEMS (length c.rows.rows + 1) || nat_lt MOST_IMAGE_BYTES (min (length (spell_image (image_of c))) 18446744073709551615 + len_with row (touched row.here 0 n)))
