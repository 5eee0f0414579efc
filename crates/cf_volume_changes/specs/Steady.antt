-- What the parts of a volume know of it, and what holds of them until a call breaks it.
use Rattle.std.specs.Prelude.{◌≡◌, ◌≤◌, ◌<◌, ◌+◌, ◌-◌, ◌*◌, ◌/◌, ℕ, Bool, false, All, length, min, nat_lt}
use Rattle.cf_base.specs.declared.limits.TheConstants.{MOST_IMAGE_BYTES}
use Rattle.cf_volume_image.specs.Contents.{image_of}
use Rattle.cf_volume_image.specs.declared.contents.Contents.{Contents}
use Rattle.cf_model.specs.Formats.{spell_image}
use Rattle.cf_model.specs.Numbers.{usn_after}
use Rattle.cf_volume_points.specs.Clusters.{IsGroundSize, clusters_in_rows}
use Rattle.cf_volume_points.specs.Known.{Known}
use Rattle.cf_volume_points.specs.Lengths.{len_with}
use Rattle.cf_ranges.specs.Positions.{IsBelow, touched}
use Rattle.cf_table.specs.Changing.{IsNext}
use Rattle.cf_table.specs.Spelling.{HasRoom}
use Rattle.cf_table.specs.declared.rows.Row.{Row}
use Rattle.cf_volume_changes.specs.declared.parts.Parts.{Parts}

abbrev pub known_of : Parts → Known
known_of p = record {
  journal = p.journal;
  uses = p.held;
  table = p.contents.rows;
  records = p.contents.records;
  epoch = p.contents.last.epoch;
  place = p.contents.last.place;
  count = p.contents.count;
  clock = p.contents.clock;
  rows_then = p.then.rows.rows;
  next_then = p.then.next;
  records_then = p.then.records;
  keys_made = p.then.made;
  kept = p.kept;
  clock_then = p.clock_then;
  limit = p.limit;
  used_then = p.used_then;
  put_since = p.put_since;
  broken = p.broken;
}

-- A ground of this size has room for the clusters, each cluster of a row is one of them, each row has room in its spelling, the
-- next number comes after those of all rows, the next item after those of the last point, and the journal has not failed.
pub record Steady (size : ℕ) (k : Known) : Type 0 where
  pub fit : IsGroundSize size
  pub clusters : length k.uses ≡ (size - 3145728) / 4096
  pub inside : All (λ j. j < length k.uses) (clusters_in_rows k.table.rows)
  pub room : All HasRoom k.table.rows
  pub later : IsNext (usn_after k.epoch k.place) k.table.rows
  pub earlier : k.next_then.0 ≤ k.table.next.0
  pub usable : k.journal.broken ≡ false

-- the test whether the image would be too long with a row in place of another, each block with a byte of which has a cluster
abbrev pub TestsLength : Contents → Row → Row → Bool → Type 0
TestsLength c old new result =
    (n m : ℕ) → IsBelow old.here (4096 * n) → IsBelow new.here (4096 * m)
    → result ≡ nat_lt (MOST_IMAGE_BYTES + len_with old (touched old.here 0 n)) (min (length (spell_image (image_of c))) 18446744073709551615 + len_with new (touched new.here 0 m))
