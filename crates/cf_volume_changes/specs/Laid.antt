-- The bytes that a block gets by a change.
use Rattle.std.specs.Prelude.{ℕ, Bool, true, false, cond, not, List, [], ◌∷◌, Option, Some, MatchOption, filter, length, map, ◌≡◌, ◌<◌, ◌≤◌, ◌+◌, ◌*◌}
use Rattle.cf_base.specs.declared.changes.Change.{Change}
use Rattle.cf_base.specs.declared.changes.Change.TheVariants as change
use Rattle.cf_base.specs.declared.ids.Usn.{Usn}
use Rattle.cf_base.specs.declared.items.Pin.{Pin}
use Rattle.cf_volume_blocks.specs.Bytes.{HoldsBlock, holds_at, is_among, puts_in}
use Rattle.cf_clusters.specs.Area.{KeepsWhere}
use Rattle.cf_clusters.specs.Roles.{IsCommitted}
use Rattle.cf_clusters.specs.declared.uses.Use.{Use}
use Rattle.cf_disk.specs.Disk.{Leaves, State}
use Rattle.cf_model.specs.Items.{Item}
use Rattle.cf_base.specs.declared.spans.Span.{Span}
use Rattle.cf_volume_points.specs.Staging.{AreBlocks, Drops, Moves}
use Rattle.cf_ranges.specs.Pairs.{cluster_at}
use Rattle.cf_ranges.specs.Positions.{touches}
use Rattle.cf_volume_points.specs.Runs.{Ran}
use Rattle.cf_volume_points.specs.Standing.{cluster_on}
use Rattle.cf_table.specs.Applied.{IsSpellable, item_effect}
use Rattle.cf_table.specs.Means.{KeepsRest, Means, StaysBefore}
use Rattle.cf_base.specs.declared.ids.ItemId.{ItemId}
use Rattle.cf_table.specs.Spelling.{HasRoom}
use Rattle.cf_table.specs.Tables.{IsStored, Table, row_of, with_row}
use Rattle.cf_table.specs.declared.rows.Row.{Row}

-- no byte of the block is held
abbrev pub HoldsNone : List (Option ℕ) → ℕ → Type 0
HoldsNone held b = (q v : ℕ) → q < 4096 → holds_at held (4096 * b + q) v ≡ true → ⊥

-- the block's cluster holds its bytes, if there is one
abbrev pub HoldsIn : List ℕ → List (Option ℕ) → ℕ → Option ℕ → Type 0
HoldsIn disk held b cluster = MatchOption cluster (HoldsNone held b) (λ k. HoldsBlock held b (cluster_on disk k))

-- from the bytes before, these are what the block holds after the change
abbrev pub Lays : Change → Row → ℕ → List ℕ → Option ℕ → List ℕ → Type 0
Lays c row b disk cluster bytes = (i : Item) (pin : Pin) (n : Usn) → Means row i → HoldsIn disk i.held b cluster → HoldsBlock (item_effect c pin n i).held b bytes

-- numbers that rise, from low on
abbrev pub AreRising : ℕ → List ℕ → Type 0
AreRising low [] = Unit {0}
AreRising low (b ∷ bs) = (low ≤ b) × AreRising (b + 1) bs

-- The first of the blocks are staged.
pub record StagesAll (c : Change) (row : Row) (blocks done : List ℕ) (s t : State) (old new : List Use) (es fs : List (ℕ × ℕ)) : Type 0 where
  pub moves : Moves (length done) s t old new
  pub leaves : Leaves s t (KeepsWhere IsCommitted old s)
  pub ran : Ran (4096 * length done) s t
  pub inside : (b k : ℕ) → cluster_at fs b ≡ Some k → k < length new
  pub others : (b : ℕ) → is_among done b ≡ false → cluster_at fs b ≡ cluster_at es b
  pub each : (rest : ℕ → ℕ) (was : ℕ → List ℕ) (i : Item) (pin : Pin) (n : Usn) → Means row i → AreRising 0 blocks → AreBlocks rest was i.held (item_effect c pin n i).held [] old es (cluster_on s.seen)
      → AreBlocks rest was i.held (item_effect c pin n i).held done new fs (cluster_on t.seen)

-- bytes may leave a file by the change
abbrev pub takes_bytes : Change → Bool
takes_bytes (change.Size item size) = true
takes_bytes (change.Emptied item start len) = true
takes_bytes (change.Take item identity size) = true
takes_bytes _ = false

-- of these blocks some may hold no byte after the change: of all that have an extent where bytes may leave, and else of those into
-- which it put bytes
abbrev pub may_be_gone : Change → List ℕ → List (ℕ × ℕ) → List ℕ
may_be_gone c blocks es = cond (takes_bytes c) (map (λ (e : ℕ × ℕ). e.0) es) blocks

-- All blocks of a change are staged, and the extents whose block holds no byte any more are dropped.
pub record Settles (c : Change) (row : Row) (blocks : List ℕ) (here : List Span) (s t : State) (old new : List Use) (es fs : List (ℕ × ℕ)) : Type 0 where
  pub mid : List Use
  pub between : List (ℕ × ℕ)
  pub all : StagesAll c row blocks blocks s t old mid es between
  pub drops : Drops (filter (λ b. not (touches here b)) (may_be_gone c blocks between)) mid new between fs

-- The planned row stands in place of the one with the id, with its blocks settled, and has room in its spelling.
pub record Carries (c : Change) (id : ItemId) (planned : Row) (blocks : List ℕ) (s t : State) (old new : List Use) (before after : Table) : Type 0 where
  pub row : Row
  pub found : row_of before.rows id ≡ Some row
  pub extents : List (ℕ × ℕ)
  pub table : after ≡ record { rows = with_row (record planned { extents = extents }) before.rows; next = before.next }
  pub room : HasRoom (record planned { extents = extents })
  pub settles : Settles c row blocks planned.here s t old new planned.extents extents

-- What a planned change makes of the row of its item, and into which blocks it puts bytes. The extents are those before.
pub record Plans (c : Change) (pin : Pin) (n : Usn) (row planned : Row) (blocks : List ℕ) : Type 0 where
  pub means : (i : Item) → Means row i → Means planned (item_effect c pin n i)
  pub rest : KeepsRest row planned
  pub later : StaysBefore n row planned
  pub stored : IsStored planned
  pub spellable : IsSpellable planned
  pub puts : (i : Item) → Means row i → blocks ≡ puts_in c i.held
