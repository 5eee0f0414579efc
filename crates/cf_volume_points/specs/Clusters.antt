-- Which clusters rows name, and whose they are.
use Rattle.std.specs.Prelude.{◌≡◌, ◌<◌, ◌≤◌, ◌+◌, ◌==◌, ℕ, cond, List, [], ◌∷◌, Option, Some, None, length, map, All, slice_index_or}
use Rattle.std.specs.List.{flat_map}
use Rattle.cf_clusters.specs.declared.uses.Use.{Use}
use Rattle.cf_clusters.specs.declared.uses.Use.TheVariants.{Free}
use Rattle.cf_clusters.specs.Roles.{IsCommitted, is_now, use_of}
use Rattle.cf_table.specs.declared.rows.Row.{Row}

-- how often a list has the number
abbrev pub times : ℕ → List ℕ → ℕ
times k [] = 0
times k (j ∷ js) = cond (j == k) 1 0 + times k js

-- the clusters of a row, of one that may be there, and of all rows
abbrev pub clusters_in_row : Row → List ℕ
clusters_in_row r = map (λ (e : ℕ × ℕ). e.1) r.extents

abbrev pub named_in : Option Row → List ℕ
named_in None = []
named_in (Some r) = clusters_in_row r

abbrev pub clusters_in_rows : List Row → List ℕ
clusters_in_rows rows = flat_map clusters_in_row rows

-- 1 where the state now holds the cluster
abbrev pub once : List Use → ℕ → ℕ
once uses k = cond (is_now (slice_index_or uses k Free)) 1 0

-- The list has each cluster once that the state now holds, and no other number.
abbrev pub Owns : List Use → List ℕ → Type 0
Owns uses clusters = (k : ℕ) → times k clusters ≡ once uses k

-- the last commit holds each of them
abbrev pub HoldsCommitted : List Use → List ℕ → Type 0
HoldsCommitted uses clusters = All (λ k. (k < length uses) × IsCommitted (use_of uses k)) clusters

-- A size, in bytes, of what a volume may stand on: the two halves of a journal, and at most 196,608 clusters behind them, three
-- for each that a volume may use.
abbrev pub IsGroundSize : ℕ → Type 0
IsGroundSize n = (3145728 ≤ n) × (n ≤ 808452096)
