-- Who holds a cluster, and how that changes.
use Rattle.std.specs.Prelude.{◌≡◌, ℕ, ◌+◌, ◌<◌, ◌==◌, Bool, true, false, cond, List, [], ◌∷◌, Option, Some, None, length, slice_set, slice_index_or}
use Rattle.std.specs.List.{list_any}
use Rattle.cf_clusters.specs.declared.uses.Use.{Use}
use Rattle.cf_clusters.specs.declared.uses.Use.TheVariants.{Free, Held, Staged, Dropped}

abbrev pub is_free : Use → Bool
is_free Free = true
is_free Held = false
is_free Staged = false
is_free Dropped = false

abbrev pub is_dropped : Use → Bool
is_dropped Free = false
is_dropped Held = false
is_dropped Staged = false
is_dropped Dropped = true

-- somebody holds it
abbrev pub IsUsed : Use → Type 0
IsUsed Free = ⊥
IsUsed Held = Unit {0}
IsUsed Staged = Unit {0}
IsUsed Dropped = Unit {0}

-- the last commit holds it
abbrev pub IsCommitted : Use → Type 0
IsCommitted Free = ⊥
IsCommitted Held = Unit {0}
IsCommitted Staged = ⊥
IsCommitted Dropped = Unit {0}

-- the state now holds it
abbrev pub is_now : Use → Bool
is_now Free = false
is_now Held = true
is_now Staged = true
is_now Dropped = false

abbrev pub IsNow : Use → Type 0
IsNow u = is_now u ≡ true

-- a use when the state drops the cluster
abbrev pub dropped : Use → Use
dropped Free = Free
dropped Held = Dropped
dropped Staged = Free
dropped Dropped = Dropped

-- a use when the state is committed
abbrev pub committed : Use → Use
committed Free = Free
committed Held = Held
committed Staged = Held
committed Dropped = Free

-- the use of a cluster; no cluster past the end is free
abbrev pub use_of : List Use → ℕ → Use
use_of uses k = slice_index_or uses k Held

-- the uses when the state drops a cluster
abbrev pub dropped_at : ℕ → List Use → List Use
dropped_at k uses = slice_set uses k (dropped (use_of uses k))

-- the uses when k is staged, in place of another
abbrev pub staged_at : ℕ → Option ℕ → List Use → List Use
staged_at k None uses = slice_set uses k Staged
staged_at k (Some old) uses = dropped_at old (slice_set uses k Staged)

-- how many of the uses pass the test
abbrev pub how_many : (Use → Bool) → List Use → ℕ
how_many test [] = 0
how_many test (u ∷ us) = cond (test u) 1 0 + how_many test us

-- no number is there twice
abbrev pub AreApart : List ℕ → Type 0
AreApart [] = Unit {0}
AreApart (k ∷ ks) = (list_any (λ j. j == k) ks ≡ false) × AreApart ks

-- those of the list are held, all others free
pub record Opens (clusters : ℕ) (held : List ℕ) (uses : List Use) : Type 0 where
  pub size : length uses ≡ clusters
  pub each : (k : ℕ) → k < clusters → use_of uses k ≡ cond (list_any (λ j. j == k) held) Held Free

-- those of the list are staged, all others as before
pub record HoldsAll (clusters : List ℕ) (old new : List Use) : Type 0 where
  pub size : length new ≡ length old
  pub each : (k : ℕ) → k < length old → use_of new k ≡ cond (list_any (λ j. j == k) clusters) Staged (use_of old k)
