-- How far a tree of the least numbers has come.
use Rattle.std.proofs.Common.{◌≡◌, ◌≢◌, ℕ, ◌+◌, ◌*◌, ◌/◌, ◌<◌, ◌≤◌, min, List, get_or}
use Rattle.cf_clusters.specs.LeastNumbers.{HasLeaves, Puts}

-- a place has the least of the two below it
abbrev pub IsNode : List ℕ → ℕ → Type 0
IsNode least i = get_or least i 0 ≡ min (get_or least (2 * i) 0) (get_or least (2 * i + 1) 0)

-- the places from one on have the least below them
pub record AreFilled (from width : ℕ) (l : List ℕ) : Type 0 where
  pub low : from ≤ width
  pub leaves : HasLeaves width l
  pub nodes : (i : ℕ) → from ≤ i → 0 < i → i < width → IsNode l i

-- on the way up from a place: all have it but for the place above
pub record IsRising (at width leaf value : ℕ) (old l : List ℕ) : Type 0 where
  pub some : 0 < at
  pub under : at < 2 * width
  pub puts : Puts width leaf value old l
  pub nodes : (i : ℕ) → 0 < i → i < width → i ≢ at / 2 → IsNode l i
