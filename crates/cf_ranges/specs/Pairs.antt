-- A finite map, as its pairs in order of the first part.
use Rattle.std.specs.Prelude.{◌≡◌, ℕ, ◌+◌, ◌<◌, ◌≤◌, ◌==◌, cond, List, [], ◌∷◌, Option, None, Some, length, slice_index_or}

-- what the map has at the block
abbrev pub cluster_at : List (ℕ × ℕ) → ℕ → Option ℕ
cluster_at [] b = None
cluster_at (p ∷ ps) b = cond (p.0 == b) (Some p.1) (cluster_at ps b)

-- the blocks rise, from low on
abbrev pub IsRisingFrom : ℕ → List (ℕ × ℕ) → Type 0
IsRisingFrom low [] = Unit {0}
IsRisingFrom low (p ∷ ps) = (low ≤ p.0) × IsRisingFrom (p.0 + 1) ps

-- the pairs of a map: in order of block, each block once
abbrev pub IsRising : List (ℕ × ℕ) → Type 0
IsRising pairs = IsRisingFrom 0 pairs

-- new is old, but for what it has at the block
abbrev pub Puts : List (ℕ × ℕ) → List (ℕ × ℕ) → ℕ → Option ℕ → Type 0
Puts old new block value = (b : ℕ) → cluster_at new b ≡ cond (b == block) value (cluster_at old b)

-- the pair at place i has the block
pub record IsAt (pairs : List (ℕ × ℕ)) (block i : ℕ) : Type 0 where
  pub in_range : i < length pairs
  pub has_block : (slice_index_or pairs i (0, 0)).0 ≡ block

-- the block has no pair, and would go at place i
pub record IsGapFor (pairs : List (ℕ × ℕ)) (block i : ℕ) : Type 0 where
  pub in_range : i ≤ length pairs
  pub lower_before : (k : ℕ) → k < i → (slice_index_or pairs k (0, 0)).0 < block
  pub higher_after : (k : ℕ) → i ≤ k → k < length pairs → block < (slice_index_or pairs k (0, 0)).0
