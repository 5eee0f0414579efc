-- What laws over the remote's bytes rest on.
use Rattle.std.specs.Prelude.{ℕ, true, List, [], length, Some, ◌≡◌, ◌<◌}
use Rattle.cf_base.specs.declared.ids.Rid.{Rid}
use Rattle.cf_base.specs.declared.ids.Version.{Version}
use Rattle.cf_model.specs.Growth.{IsCounted}
use Rattle.cf_model.specs.State.{Link}
use Rattle.cf_model.specs.Store.{Held, bytes_of}

-- The numbers of the remote's items, which count from 1, and of their versions are below 2^64, so that an identity can name
-- them.
abbrev pub IsSmall : Held → Type 0
IsSmall held = (length held.items < 18446744073709551616) × ((rid : Rid) (version : Version) (bytes : List ℕ) → bytes_of held rid version ≡ Some bytes → (rid.0 < 18446744073709551616) × (version.0 < 18446744073709551616))

-- each reply so far was the one that the remote's rules give, and the remote is small
abbrev pub IsFair : Link → Type 0
IsFair l = (l.honest ≡ true) × IsSmall l.remote

-- a remote as it is handed in: rids count from 1, and no token has a record
abbrev pub IsFresh : Held → Type 0
IsFresh held = IsCounted held × (held.tokens ≡ [])
