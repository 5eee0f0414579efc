-- The identities of the items of two devices.
use Rattle.std.specs.Prelude.{Bool, ◌||◌}
use Rattle.cf_model.specs.Plans.{is_full_population}
use Rattle.cf_model.specs.State.{items_now, State}
use Rattle.cf_pair_identities.specs.Named.{AreNamed, NamedState}
use Rattle.cf_pair_traces.specs.Pairs.{Pair}

-- a policy of FULL population stands
abbrev pub stands_full : State → Bool
stands_full s = is_full_population s.filter.policy.population

-- for one of the devices
abbrev pub either_stands_full : Pair → Bool
either_stands_full p = stands_full p.first || stands_full p.second

abbrev pub NamedPair : Bool → Pair → Type 0
NamedPair full p = NamedState full p.first × NamedState full p.second

-- of the items as they are now
abbrev pub HasNamed : Bool → Pair → Type 0
HasNamed full p = AreNamed full (items_now p.first) × AreNamed full (items_now p.second)
