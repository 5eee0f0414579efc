-- The table as changes would leave it that are not made.
use Rattle.std.specs.Prelude.{◌≡◌, ◌≤◌, ◌<◌, ◌+◌, ◌-◌, ◌^◌, ◌&&◌, ◌==◌, ℕ, All, Bool, cond, nat_lt, List, [], ◌∷◌, length, map, Option, None, Some}
use Rattle.std.specs.List.{list_any}
use Rattle.cf_base.specs.declared.answers.AuxRecord.{AuxRecord}
use Rattle.cf_base.specs.declared.ids.ItemId.{ItemId}
use Rattle.cf_base.specs.declared.ids.Usn.{Usn}
use Rattle.cf_base.specs.declared.items.Pin.{Pin}
use Rattle.cf_base.specs.declared.items.Pin.TheVariants as pin
use Rattle.cf_volume_image.specs.declared.contents.Contents.{Contents}
use Rattle.cf_model.specs.Blocks.{blocks_used}
use Rattle.cf_model.specs.Books.{Book, anchor_of, aux_records}
use Rattle.cf_model.specs.Changes.{next_number}
use Rattle.cf_model.specs.Formats.{without_record}
use Rattle.cf_model.specs.Images.{image_len}
use Rattle.cf_model.specs.Items.{Item, item_of}
use Rattle.cf_model.specs.Numbers.{most}
use Rattle.cf_model.specs.Overlay.{Written}
use Rattle.cf_model.specs.State.{Volume}
use Rattle.cf_volume_points.specs.Known.{or_now}
use Rattle.cf_volume_points.specs.Lengths.{len_with}
use Rattle.cf_volume_points.specs.Standing.{IsBookOf}
use Rattle.cf_table.specs.Means.{IsLater, Means}
use Rattle.cf_table.specs.Tables.{row_of}
use Rattle.cf_table.specs.declared.rows.Row.{Row}
use Rattle.cf_volume_changes.specs.Keys.{seen_key}
use Rattle.cf_volume_changes.specs.declared.room.drafts.Draft.{Draft}
use Rattle.cf_volume_changes.specs.declared.room.drafts.Sizes.{Sizes}

-- numbers past the last place of an epoch stand for ones of the next, which have room in their fields

abbrev pub shifted : ℕ → Usn → Usn
shifted e n = cond (n.epoch == e && nat_lt most n.place) (record { epoch = e + 1; place = n.place - 4294967296 }) n

abbrev pub shifted_write : ℕ → Written → Written
shifted_write e w = record w { number = shifted e w.number }

abbrev pub shifted_item : ℕ → Item → Item
shifted_item e i = record i { number = shifted e i.number; writes = map (shifted_write e) i.writes }

-- of the epoch, but none past its last place, or of one before
abbrev pub IsLow : ℕ → Usn → Type 0
IsLow e n = (n.epoch ≤ e) × (n.epoch ≡ e → n.place ≤ most)

-- sizes

abbrev pub added : Sizes → Sizes → Sizes
added a b = record { bytes = a.bytes + b.bytes; items = a.items + b.items; blocks = a.blocks + b.blocks }

-- of a row with so many blocks that hold a byte
abbrev pub row_sizes : Row → ℕ → Sizes
row_sizes r n = record { bytes = len_with r n; items = 1; blocks = n }

-- look-ups

abbrev pub is_gone : List ItemId → ItemId → Bool
is_gone gone id = list_any (λ g. g.0 == id.0) gone

-- one that changed or was made, or else one of the table that is not gone
abbrev pub row_in : Draft → List Row → ItemId → Option Row
row_in d rows id = or_now (row_of d.changed.rows id) (cond (is_gone d.gone.items id) None (row_of rows id))

abbrev pub pin_in : Option Row → Pin
pin_in None = pin.Unspecified
pin_in (Some r) = r.pin

-- the records without those of the paths seen of these items
abbrev pub records_in : List ItemId → List AuxRecord → List AuxRecord
records_in [] records = records
records_in (id ∷ ids) records = records_in ids (without_record (seen_key id) records)

-- the ids rise, from low on
abbrev pub AreInOrder : ℕ → List Item → Type 0
AreInOrder low [] = Unit {0}
AreInOrder low (i ∷ is) = (low ≤ i.id.0) × AreInOrder (i.id.0 + 1) is

-- the row means the item, but for numbers past the last place, and the next number comes after it
pub record DrawsRow (e : ℕ) (n : Usn) (b : Book) (r : Row) (i : Item) : Type 0 where
  pub means : Means r (shifted_item e i)
  pub anchor : r.anchor ≡ anchor_of b i.id
  pub later : IsLater (shifted e n) r
  pub low : IsLow e r.anchor
  pub numbered : i.number.epoch ≤ e

abbrev pub Draws : ℕ → Usn → Book → Option Row → Option Item → Type 0
Draws e n b None None = Unit {0}
Draws e n b None (Some i) = ⊥
Draws e n b (Some r) None = ⊥
Draws e n b (Some r) (Some i) = DrawsRow e n b r i

-- the draft of a table is that of the volume's items
pub record Drafts (c : Contents) (d : Draft) (w : Volume) : Type 0 where
  pub rise : AreInOrder 0 w.items
  pub gone : All (λ g. g.0 < 2 ^ 64) d.gone.items
  pub rows : (id : ItemId) → Draws w.epoch (next_number w) w.book (row_in d c.rows.rows id) (item_of w.items id)
  pub book : IsBookOf w.items w.book
  pub records : aux_records w.book ≡ records_in d.gone.items c.records
  pub bytes : d.more.bytes ≡ image_len w.items w.book + d.less.bytes
  pub items : d.more.items ≡ length w.items + d.less.items
  pub blocks : d.more.blocks ≡ blocks_used w.items + d.less.blocks
