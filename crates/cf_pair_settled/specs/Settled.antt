-- When a device is settled as a whole, and what else its state has.
use Rattle.std.specs.Prelude.{◌≡◌, ◌&&◌, Bool, true, false, not, [], None, Some}
use Rattle.std.specs.List.{list_all}
use Rattle.cf_model.specs.Items.{Item, item_of}
use Rattle.cf_model.specs.LookUp.{is_excluded}
use Rattle.cf_model.specs.Settled.{is_settled}
use Rattle.cf_model.specs.Skips.{in_use}
use Rattle.cf_model.specs.State.{State, items_now}
use Rattle.cf_model_convergence.specs.Trees.{AreTrees}
use Rattle.cf_model_laws.specs.Invariant.{All}
use Rattle.cf_pair_events.specs.declared.answers.PairAnswer.{PairAnswer}
use Rattle.cf_pair_events.specs.declared.answers.PairAnswer.TheVariants as answer
use Rattle.cf_pair_events.specs.declared.comparisons.Comparison.TheVariants as comparison
use Rattle.cf_pair_identities.specs.Named.{AreNamed}
use Rattle.cf_pair_model.specs.Seen.{held_seen}
use Rattle.cf_pair_model.specs.declared.devices.Device.{Device}
use Rattle.cf_pair_model.specs.declared.devices.Device.TheVariants as device
use Rattle.cf_pair_traces.specs.Pairs.{Pair, facing, no_comparison, path_rows, state_of}
use Rattle.cf_pair_trees.specs.Trees.{AreApart}

-- the item is neither excluded nor in use
abbrev pub is_free : State → Item → Bool
is_free s i = not (is_excluded (items_now s) i.id) && not (in_use s i.id)

-- Settled, with each live item of the remote here, as it is where the population is always full; and no item is excluded or in use.
abbrev pub is_settled_whole : State → Bool
is_settled_whole s = is_settled true s && list_all (is_free s) (items_now s)

-- so is the device on the remote that it shares, as it sees it now
abbrev pub is_settled_on : Device → Pair → Bool
is_settled_on d p = is_settled_whole (facing (held_seen d p.held) (state_of d p))

-- both devices are
abbrev pub AreSettled : Pair → Type 0
AreSettled p = (is_settled_on device.First p ≡ true) × (is_settled_on device.Second p ≡ true)

-- A comparison says equal where both devices are settled, and no device is off or broken.
abbrev pub SaysEqual : PairAnswer → Pair → Type 0
SaysEqual (answer.Event a) p = Unit {0}
SaysEqual (answer.Comparison c) p = AreSettled p → no_comparison p.first.power p.second.power ≡ None → c ≡ comparison.Equal

-- Each item is found by its id, items are trees, no path stands twice, identities are spelled as an engine spells them, and the entries
-- of each directory have come. An item that is no placeholder has no identity.
pub record IsOrderly (s : State) : Type 0 where
  pub found : All (λ i. item_of (items_now s) i.id ≡ Some i) (items_now s)
  pub trees : AreTrees (items_now s)
  pub apart : AreApart (path_rows s)
  pub plain : All (λ i. i.placeholder ≡ false → i.identity ≡ []) (items_now s)
  pub named : AreNamed false (items_now s)
