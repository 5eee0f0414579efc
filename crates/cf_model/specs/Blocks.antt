-- Blocks of 4,096 bytes, and the room that changes need.
use Rattle.std.specs.Prelude.{ℕ, zero, suc, Bool, false, not, List, [], length, filter, Option, is_some, max, min, nat_lt, slice_range, sum_by, ◌+◌, ◌-◌, ◌*◌, ◌/◌}
use Rattle.std.specs.List.{list_all, list_any}
use Rattle.cf_base.specs.declared.changes.Change.{Change}
use Rattle.cf_base.specs.declared.changes.Change.TheVariants as change
use Rattle.cf_base.specs.declared.ids.ItemId.{ItemId}
use Rattle.cf_model.specs.Items.{Item, item_of}
use Rattle.cf_model.specs.Words.{counting, part}

-- the blocks that a span touches, and none where it is empty
abbrev pub blocks_of : ℕ → ℕ → List ℕ
blocks_of start zero = []
blocks_of start (suc n) = counting (start / 4096) ((start + n) / 4096 + 1 - start / 4096)

-- how many blocks a file of this size has
abbrev pub blocks_in : ℕ → ℕ
blocks_in size = (size + 4095) / 4096

abbrev pub block_has_byte : List (Option ℕ) → ℕ → Bool
block_has_byte held b = list_any is_some (slice_range held (4096 * b) (4096 * b + 4096))

-- the blocks that hold a byte
abbrev pub blocks_holding : List (Option ℕ) → List ℕ
blocks_holding held = filter (block_has_byte held) (counting 0 (blocks_in (length held)))

abbrev pub blocks_held : List (Option ℕ) → ℕ
blocks_held held = length (blocks_holding held)

-- how many blocks hold a byte in all
abbrev pub blocks_used : List Item → ℕ
blocks_used items = sum_by (λ i. blocks_held i.held) items

abbrev pub held_of : List Item → ItemId → List (Option ℕ)
held_of items item = part (λ i. i.held) [] (item_of items item)

abbrev pub size_at : List Item → ItemId → ℕ
size_at items item = length (held_of items item)

-- the block has a byte of the span below the size that is not here
abbrev pub lacks_in : ℕ → ℕ → List (Option ℕ) → ℕ → Bool
lacks_in start end held b = not (list_all is_some (slice_range held (max start (4096 * b)) (min end (4096 * b + 4096))))

-- the blocks into which a change puts bytes: of a write from the lesser of its start and the old size on, of a growth from
-- the old size on, of a fill those that lack a byte of it, of a copy those of its source; others have none
abbrev pub puts_into : List Item → Change → List ℕ
puts_into items (change.Write item at bytes) = blocks_of (min at (size_at items item)) (at + length bytes - min at (size_at items item))
puts_into items (change.Size item size) = blocks_of (size_at items item) (size - size_at items item)
puts_into items (change.Filled item start bytes) = filter (lacks_in start (start + length bytes) (held_of items item)) (blocks_of start (length bytes))
puts_into items (change.Copy item from parent name) = blocks_holding (held_of items from)
puts_into items _ = []

-- a change that needs so many blocks would pass the clusters
abbrev pub passes_clusters : ℕ → List Item → ℕ → Bool
passes_clusters clusters items zero = false
passes_clusters clusters items (suc n) = nat_lt clusters (blocks_used items + suc n)

-- the change is refused as Full
abbrev pub is_full : ℕ → List Item → Change → Bool
is_full clusters items c = passes_clusters clusters items (length (puts_into items c))
