-- How the uses of the clusters are kept: the numbers stand in an order, by use.
use Rattle.std.specs.Prelude.{◌≡◌, ℕ, zero, suc, [], ◌∷◌, ◌-◌, ◌<◌, ◌≤◌, ◌^◌, ◌==◌, Bool, cond, nat_lt, List, length, map, slice_index_or}
use Rattle.cf_clusters.specs.declared.uses.Use.{Use}
use Rattle.cf_clusters.specs.declared.uses.Use.TheVariants.{Free, Held, Staged, Dropped}
use Rattle.cf_clusters.specs.Roles.{how_many, is_free, is_dropped}

-- the use of a cluster whose number stands at place p: dropped ones come first, then free, staged and held ones
abbrev pub use_at : ℕ → ℕ → ℕ → ℕ → Use
use_at free staged held p = cond (nat_lt p free) Dropped (cond (nat_lt p staged) Free (cond (nat_lt p held) Staged Held))

-- the uses by number, from the places of the numbers
abbrev pub uses_from : ℕ → ℕ → ℕ → List ℕ → List Use
uses_from free staged held places = map (use_at free staged held) places

-- the numbers below n, from the greatest down
abbrev pub descending : ℕ → List ℕ
descending zero = []
descending (suc n) = n ∷ descending n

-- the two lists are each other's inverse
pub record AreInverse (order places : List ℕ) : Type 0 where
  pub size : length places ≡ length order
  pub numbers : (i : ℕ) → i < length order → slice_index_or order i 0 < length order
  pub back : (i : ℕ) → i < length order → slice_index_or places (slice_index_or order i 0) 0 ≡ i
  pub places_in : (k : ℕ) → k < length order → slice_index_or places k 0 < length order
  pub there : (k : ℕ) → k < length order → slice_index_or order (slice_index_or places k 0) 0 ≡ k

-- the place of what stood at p, when the numbers at i and j are swapped
abbrev pub moved : ℕ → ℕ → ℕ → ℕ
moved i j p = cond (p == i) j (cond (p == j) i p)

-- the order with its bounds
pub record IsLayout (order places : List ℕ) (free staged held : ℕ) : Type 0 where
  pub inverse : AreInverse order places
  pub small : length order < 2 ^ 32
  pub first : free ≤ staged
  pub second : staged ≤ held
  pub third : held ≤ length order
  pub free_count : how_many is_free (uses_from free staged held places) ≡ staged - free
  pub dropped_count : how_many is_dropped (uses_from free staged held places) ≡ free

-- the same beside the set of those that are free
pub record IsKept (order places : List ℕ) (free_numbers : List Bool) (free staged held : ℕ) : Type 0 where
  pub layout : IsLayout order places free staged held
  pub free_ones : free_numbers ≡ map is_free (uses_from free staged held places)
