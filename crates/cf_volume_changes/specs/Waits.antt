-- When a change is refused for want of clusters, and when it may wait for a commit.
use Rattle.std.specs.Prelude.{◌≡◌, ◌≤◌, ◌<◌, ◌+◌, ◌⊎◌, ◌&&◌, ℕ, Bool, nat_lt}
use Rattle.cf_clusters.specs.Roles.{how_many, is_free}
use Rattle.cf_volume_points.specs.Known.{Known}

-- so many more clusters than are used would pass the limit; none never would
abbrev pub passes : ℕ → ℕ → ℕ → Bool
passes limit used more = nat_lt 0 more && nat_lt limit (used + more)

-- A change that puts so many blocks may wait: too few clusters are free, or with those of the last point and what changes
-- put since it would pass the limit.
abbrev pub MayWait : Known → ℕ → Type 0
MayWait k n = (how_many is_free k.uses < n) ⊎ ((0 < n) × (k.limit < k.used_then + k.put_since + n))

-- A change that puts so many blocks needs no commit: it puts none, or with those of the last point and what changes put
-- since it does not pass the limit. Then the count of what changes put has not come to its greatest.
abbrev pub IsLight : Known → ℕ → Type 0
IsLight k n = (n ≡ 0) ⊎ ((k.put_since < 18446744073709551615) × (k.used_then + k.put_since + n ≤ k.limit))
