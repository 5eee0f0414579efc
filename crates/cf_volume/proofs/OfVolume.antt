-- What the calls of a volume ask of its parts, and what they make of it.
use Rattle.std.proofs.Common.{◌≡◌, ℕ, ◌<◌, ◌≤◌, true, List, length, subst, Option, Some, None}
use Rattle.std.specs.Prelude.{map, slice_range}
use Rattle.std.proofs.lemmas.Option.{same_Some}
use Rattle.cf_base.specs.declared.ids.ItemId.{ItemId}
use Rattle.cf_disk.specs.Disk.{State}
use Rattle.cf_model.specs.Items.{Item, item_of}
use Rattle.cf_model.specs.State.{Volume}
use Rattle.cf_volume_points.specs.At.{At}
use Rattle.cf_volume_points.specs.Known.{Known}
use Rattle.cf_ranges.specs.Pairs.{cluster_at}
use Rattle.cf_ranges.specs.Positions.{contains}
use Rattle.cf_table.specs.Tables.{row_of}
use Rattle.cf_table.specs.declared.rows.Row.{Row}
use Rattle.cf_volume.proofs.FileReads.{item_read}
use Rattle.cf_volume_changes.proofs.Puts.{found_inside, named_inside}
use Rattle.cf_volume_changes.specs.Calls.{IsHere}
use Rattle.cf_volume.specs.Reads.{HasRead}
use Rattle.cf_volume_changes.specs.Steady.{Steady}

pub here_all : (o : Option Row) (r : Row) (start end : ℕ) → IsHere o start end → o ≡ Some r → (p : ℕ) → start ≤ p → p < end → contains r.here p ≡ true
here_all None r start end h e p low high = absurd h
here_all (Some x) r start end h e p low high = subst (λ (y : Row). contains y.here p ≡ true) (same_Some x r e) (h p low high)

pub row_inside : (size : ℕ) (k : Known) (id : ItemId) → Steady size k → (r : Row) → row_of k.table.rows id ≡ Some r → (b n : ℕ) → cluster_at r.extents b ≡ Some n → n < length k.uses
row_inside size k id steady r found b n e = named_inside (λ j. j < length k.uses) r.extents b n (found_inside (λ j. j < length k.uses) k.table.rows id r steady.inside found) e

pub bytes_read : (s t : State) (k : Known) (v : Volume) (id : ItemId) (i : Item) (start end : ℕ) (bytes : List ℕ) → At s k v → item_of v.items id ≡ Some i → IsHere (row_of k.table.rows id) start end
    → ((r : Row) × (row_of k.table.rows id ≡ Some r) × HasRead r.extents start end end bytes s t) → map Some bytes ≡ slice_range i.held start end
bytes_read s t k v id i start end bytes at is here read = item_read s t k v id i read.0 start end bytes at is read.1 (here_all (row_of k.table.rows id) read.0 start end here read.1) read.2
