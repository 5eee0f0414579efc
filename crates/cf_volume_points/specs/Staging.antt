-- Blocks staged into clusters, and others dropped, as a change goes on.
use Rattle.std.specs.Prelude.{◌≡◌, ◌≢◌, ◌≤◌, ◌<◌, ◌+◌, ◌*◌, ℕ, true, false, cond, List, length, map, Option, Some, None, MatchOption}
use Rattle.cf_volume_blocks.specs.Bytes.{HoldsBlock, holds_at, is_among}
use Rattle.cf_clusters.specs.Area.{SameWhere}
use Rattle.cf_clusters.specs.Roles.{IsCommitted, IsUsed, dropped_at, how_many, is_free, staged_at, use_of}
use Rattle.cf_clusters.specs.declared.uses.Use.{Use}
use Rattle.cf_clusters.specs.declared.uses.Use.TheVariants.{Free}
use Rattle.cf_disk.specs.Disk.{State, size_of}
use Rattle.cf_volume_points.specs.Clusters.{once, times}
use Rattle.cf_volume_points.specs.Standing.{cluster_on}
use Rattle.cf_base.specs.declared.spans.Span.{Span}
use Rattle.cf_ranges.specs.Positions.{touches}
use Rattle.cf_ranges.specs.Pairs.{IsRising, Puts, cluster_at}

abbrev pub names : List (ℕ × ℕ) → List ℕ
names es = map (λ (e : ℕ × ℕ). e.1) es

-- The journal's halves and the clusters of the last commit stay, as they read too, and at most n free clusters are taken.
pub record Moves (n : ℕ) (s t : State) (old new : List Use) : Type 0 where
  pub size : size_of t ≡ size_of s
  pub long : length new ≡ length old
  pub same : SameWhere IsCommitted old s.seen t.seen
  pub committed : (k : ℕ) → IsCommitted (use_of old k) → IsCommitted (use_of new k)
  pub free : how_many is_free old ≤ how_many is_free new + n

-- A block is staged: a free cluster takes its bytes, in place of the one that the block had.
pub record StagesBlock (number : ℕ) (bytes : List ℕ) (s t : State) (old new : List Use) (es fs : List (ℕ × ℕ)) : Type 0 where
  pub cluster : ℕ
  pub in_range : cluster < length old
  pub was_free : use_of old cluster ≡ Free
  pub uses : new ≡ staged_at cluster (cluster_at es number) old
  pub puts : Puts es fs number (Some cluster)
  pub before : IsRising es
  pub rising : IsRising fs
  pub size : size_of t ≡ size_of s
  pub same : SameWhere IsUsed old s.seen t.seen
  pub holds : cluster_on t.seen cluster ≡ bytes

-- The extents of one file while blocks are staged: those of the blocks that are done hold the bytes afterwards, the others
-- those before. The state holds their clusters and those that other rows name, `rest` times each; these are as they were.
pub record AreBlocks (rest : ℕ → ℕ) (was : ℕ → List ℕ) (before after : List (Option ℕ)) (done : List ℕ) (uses : List Use) (es : List (ℕ × ℕ)) (cluster : ℕ → List ℕ) : Type 0 where
  pub rising : IsRising es
  pub owns : (k : ℕ) → rest k + times k (names es) ≡ once uses k
  pub others : (k : ℕ) → 1 ≤ rest k → cluster k ≡ was k
  pub laid : (b k : ℕ) → cluster_at es b ≡ Some k → is_among done b ≡ true → HoldsBlock after b (cluster k)
  pub kept : (b k : ℕ) → cluster_at es b ≡ Some k → is_among done b ≡ false → HoldsBlock before b (cluster k)
  pub has : (b : ℕ) → is_among done b ≡ true → cluster_at es b ≢ None
  pub none : (b : ℕ) → is_among done b ≡ false → cluster_at es b ≡ None → (q v : ℕ) → q < 4096 → holds_at before (4096 * b + q) v ≡ true → ⊥

-- The extents whose block holds no byte any more are dropped.
pub record DropsGone (here : List Span) (old new : List Use) (es fs : List (ℕ × ℕ)) : Type 0 where
  pub rising : IsRising fs
  pub each : (b : ℕ) → cluster_at fs b ≡ cond (touches here b) (cluster_at es b) None
  pub owns : (rest : ℕ → ℕ) → ((k : ℕ) → rest k + times k (names es) ≡ once old k) → (k : ℕ) → rest k + times k (names fs) ≡ once new k
  pub committed : (k : ℕ) → IsCommitted (use_of old k) → IsCommitted (use_of new k)
  pub long : length new ≡ length old
  pub free : how_many is_free old ≤ how_many is_free new

-- The extents of some blocks are taken out, and their clusters dropped.
pub record Drops (done : List ℕ) (old new : List Use) (es fs : List (ℕ × ℕ)) : Type 0 where
  pub rising : IsRising fs
  pub each : (b : ℕ) → cluster_at fs b ≡ cond (is_among done b) None (cluster_at es b)
  pub owns : (rest : ℕ → ℕ) → ((k : ℕ) → rest k + times k (names es) ≡ once old k) → (k : ℕ) → rest k + times k (names fs) ≡ once new k
  pub committed : (k : ℕ) → IsCommitted (use_of old k) → IsCommitted (use_of new k)
  pub long : length new ≡ length old
  pub free : how_many is_free old ≤ how_many is_free new

-- one of them, if it is there
pub record DropsOne (number : ℕ) (old new : List Use) (es fs : List (ℕ × ℕ)) : Type 0 where
  pub before : IsRising es
  pub rising : IsRising fs
  pub puts : Puts es fs number None
  pub uses : MatchOption (cluster_at es number) (new ≡ old) (λ k. new ≡ dropped_at k old)

-- All clusters of a list are dropped.
pub record DropsAll (clusters : List ℕ) (old new : List Use) : Type 0 where
  pub owns : (rest : ℕ → ℕ) → ((k : ℕ) → rest k + times k clusters ≡ once old k) → (k : ℕ) → rest k ≡ once new k
  pub committed : (k : ℕ) → IsCommitted (use_of old k) → IsCommitted (use_of new k)
  pub long : length new ≡ length old
  pub free : how_many is_free old ≤ how_many is_free new
