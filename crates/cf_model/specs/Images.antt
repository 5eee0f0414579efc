-- The image of a volume: how its items and its book are spelled, and how long that is.
use Rattle.std.specs.Prelude.{ℕ, Bool, true, false, cond, List, [], length, nat_lt, sum_by, ◌+◌, ◌*◌, ◌&&◌, ◌||◌, ◌∷◌, ◌==◌}
use Rattle.cf_base.specs.declared.answers.AuxRecord.{AuxRecord}
use Rattle.cf_base.specs.declared.changes.Change.{Change}
use Rattle.cf_base.specs.declared.changes.Change.TheVariants as change
use Rattle.cf_base.specs.declared.limits.TheConstants.{MOST_IMAGE_BYTES, MOST_ITEMS}
use Rattle.cf_base.specs.declared.spans.Span.{Span}
use Rattle.cf_model.specs.Blocks.{blocks_holding, blocks_in}
use Rattle.cf_model.specs.Books.{Book, anchor_of, aux_records}
use Rattle.cf_model.specs.Effects.{later_than}
use Rattle.cf_model.specs.Items.{Item, covered_flags, here_flags, modified_flags, size_of}
use Rattle.cf_model.specs.Overlay.{Written}

-- runs

-- the run that begins at `at` with one place, in front of the runs after it
abbrev pub with_place : ℕ → List Span → List Span
with_place at [] = record { start = at; len = 1 } ∷ []
with_place at (r ∷ rs) = cond (r.start == at + 1) (record { start = at; len = r.len + 1 } ∷ rs) (record { start = at; len = 1 } ∷ r ∷ rs)

-- the maximal runs of the places whose flag is set, the first place being at
abbrev pub runs_from : ℕ → List Bool → List Span
runs_from at [] = []
runs_from at (false ∷ bs) = runs_from (at + 1) bs
runs_from at (true ∷ bs) = with_place at (runs_from (at + 1) bs)

abbrev pub runs_of : List Bool → List Span
runs_of flags = runs_from 0 flags

-- how many runs there are; `before` says whether the place before is in one
abbrev pub count_runs : Bool → List Bool → ℕ
count_runs before [] = 0
count_runs before (true ∷ bs) = cond before 0 1 + count_runs true bs
count_runs before (false ∷ bs) = count_runs false bs

-- the writes that were made since the item was last pushed
abbrev pub writes_since : Book → Item → List Written
writes_since b i = later_than (anchor_of b i.id) i.writes

-- lengths

abbrev pub row_len : Book → Item → ℕ
row_len b i = 74 + length i.name + length i.identity + 8 * (count_runs false (here_flags i) + count_runs false i.valid
    + count_runs false (modified_flags i) + count_runs false (covered_flags (writes_since b i) i) + length (blocks_holding i.held))

abbrev pub aux_len : AuxRecord → ℕ
aux_len r = 3 + length r.key + length r.value

abbrev pub aux_len_of : Book → ℕ
aux_len_of b = sum_by aux_len (aux_records b)

-- the length of the image: 41 bytes besides rows and auxiliary records
abbrev pub image_len : List Item → Book → ℕ
image_len items b = 41 + sum_by (row_len b) items + aux_len_of b

-- no set of n places has more than (n + 1) / 2 runs: this bound settles most cases at once
abbrev pub most_row_len : Item → ℕ
most_row_len i = 74 + length i.name + length i.identity + 16 * (size_of i + 1) + 8 * blocks_in (size_of i)

abbrev pub most_len : List Item → Book → ℕ
most_len items b = 41 + sum_by most_row_len items + aux_len_of b

abbrev pub most_image : ℕ
most_image = MOST_IMAGE_BYTES

abbrev pub is_too_long : List Item → Book → Bool
is_too_long items b = nat_lt most_image (most_len items b) && nat_lt most_image (image_len items b)

-- the table would have too many items, or too many bytes
abbrev pub table_full : List Item → Book → Bool
table_full items b = nat_lt MOST_ITEMS (length items) || is_too_long items b

-- what never makes the image longer is never refused as TableFull
abbrev pub never_longer : Change → Bool
never_longer (change.Remove item) = true
never_longer (change.Mark item number) = true
never_longer (change.Clear item) = true
never_longer (change.SetPin item pin) = true
never_longer (change.Keep item on) = true
never_longer _ = false

-- the change, which would make these items, is refused as TableFull
abbrev pub is_table_full : Change → List Item → Book → Bool
is_table_full c after b = cond (never_longer c) false (table_full after b)
