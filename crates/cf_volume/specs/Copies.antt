-- Copies of files, with clusters of their own.
use Rattle.std.specs.Prelude.{◌≡◌, ◌<◌, ◌≤◌, ◌*◌, ℕ, false, List, [], None, Option, Some, length, map}
use Rattle.cf_base.specs.declared.ids.ItemId.{ItemId}
use Rattle.cf_volume_blocks.specs.Bytes.{HoldsBlock, is_among}
use Rattle.cf_clusters.specs.Area.{KeepsWhere}
use Rattle.cf_clusters.specs.Roles.{IsCommitted}
use Rattle.cf_clusters.specs.declared.uses.Use.{Use}
use Rattle.cf_disk.specs.Disk.{Leaves, State}
use Rattle.cf_volume_points.specs.Runs.{Ran}
use Rattle.cf_volume_points.specs.Staging.{AreBlocks, Moves}
use Rattle.cf_volume_points.specs.Standing.{cluster_on}
use Rattle.cf_ranges.specs.Pairs.{IsRising, cluster_at}
use Rattle.cf_table.specs.Spelling.{HasRoom}
use Rattle.cf_table.specs.Tables.{Table, row_of, with_row}
use Rattle.cf_table.specs.declared.rows.Row.{Row}

abbrev pub blocks_of : List (ℕ × ℕ) → List ℕ
blocks_of es = map (λ (e : ℕ × ℕ). e.0) es

-- the state holds the clusters of the extents, which hold the blocks of a file
abbrev pub AreSources : (ℕ → ℕ) → List (Option ℕ) → List (ℕ × ℕ) → List ℕ → Type 0
AreSources rest held es disk = (b k : ℕ) → cluster_at es b ≡ Some k → (1 ≤ rest k) × HoldsBlock held b (cluster_on disk k)

-- The first of a file's extents are copied: their blocks have clusters of their own, with the same bytes.
pub record CopiesAll (source done : List (ℕ × ℕ)) (s t : State) (old new : List Use) (fs : List (ℕ × ℕ)) : Type 0 where
  pub moves : Moves (length done) s t old new
  pub leaves : Leaves s t (KeepsWhere IsCommitted old s)
  pub ran : Ran (4096 * length done) s t
  pub rising : IsRising fs
  pub inside : (b k : ℕ) → cluster_at fs b ≡ Some k → k < length new
  pub only : (b : ℕ) → is_among (blocks_of done) b ≡ false → cluster_at fs b ≡ None
  pub each : (rest : ℕ → ℕ) (held : List (Option ℕ)) → IsRising source → AreSources rest held source s.seen → AreBlocks rest (cluster_on s.seen) [] held [] old [] (cluster_on s.seen)
      → AreBlocks rest (cluster_on s.seen) [] held (blocks_of done) new fs (cluster_on t.seen)

-- The planned row of a copy is put, its blocks with clusters of their own, and has room in its spelling.
pub record Duplicates (from : ItemId) (planned : Row) (s t : State) (old new : List Use) (before after : Table) : Type 0 where
  pub source : Row
  pub found : row_of before.rows from ≡ Some source
  pub extents : List (ℕ × ℕ)
  pub table : after ≡ record { rows = with_row (record planned { extents = extents }) before.rows; next = before.next }
  pub room : HasRoom (record planned { extents = extents })
  pub all : CopiesAll source.extents source.extents s t old new extents
