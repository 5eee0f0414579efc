-- How much longer a change makes the row of its item.
use Rattle.std.specs.Prelude.{◌≡◌, ◌≤◌, ◌+◌, ℕ, true, length}
use Rattle.cf_base.specs.declared.changes.Change.{Change}
use Rattle.cf_base.specs.declared.ids.Usn.{Usn}
use Rattle.cf_base.specs.declared.items.Pin.{Pin}
use Rattle.cf_model.specs.Books.{Book, anchor_of}
use Rattle.cf_model.specs.Images.{row_len}
use Rattle.cf_model.specs.Items.{Item}
use Rattle.cf_model.specs.Numbers.{above}
use Rattle.cf_table.specs.Applied.{item_effect}
use Rattle.cf_volume_blocks.specs.Bytes.{puts_in}

-- at most that many bytes, where the change puts bytes into so many blocks under a number after the last push
abbrev pub AddsAtMost : Change → ℕ → ℕ → Type 0
AddsAtMost c blocks more =
    (i : Item) (pin : Pin) (n : Usn) (b : Book) → above n (anchor_of b i.id) ≡ true → length (puts_in c i.held) ≡ blocks → row_len b (item_effect c pin n i) ≤ row_len b i + more
