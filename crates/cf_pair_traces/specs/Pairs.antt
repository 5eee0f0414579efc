-- Two devices on one remote, and which answers to their events are lawful.
use Rattle.std.specs.Prelude.{◌≡◌, ◌&&◌, ℕ, zero, suc, true, not, cond, List, [], ◌∷◌, ◌++◌, ◌==◌, filter, map, Option, Some, None}
use Rattle.cf_base.specs.declared.codes.Code.{Code}
use Rattle.cf_base.specs.declared.codes.Code.TheVariants as code
use Rattle.cf_base.specs.declared.events.Event.TheVariants as event
use Rattle.cf_base.specs.declared.policies.Mode.TheVariants as mode
use Rattle.cf_model.specs.Items.{Item, is_dirty, item_of, kind_of}
use Rattle.cf_model.specs.Lawful.{IsStep}
use Rattle.cf_model.specs.State.{Broken, Off, On, Power, State, items_now, start}
use Rattle.cf_model.specs.Store.{Held}
use Rattle.cf_pair_compare.specs.First.{IsFirst}
use Rattle.cf_pair_compare.specs.declared.path_rows.PathRow.{PathRow}
use Rattle.cf_pair_events.specs.OfDevices.{is_of_device}
use Rattle.cf_pair_events.specs.declared.answers.PairAnswer.{PairAnswer}
use Rattle.cf_pair_events.specs.declared.answers.PairAnswer.TheVariants as answer
use Rattle.cf_pair_events.specs.declared.comparisons.Comparison.{Comparison}
use Rattle.cf_pair_events.specs.declared.comparisons.Comparison.TheVariants as comparison
use Rattle.cf_pair_events.specs.declared.events.PairEvent.{PairEvent}
use Rattle.cf_pair_events.specs.declared.events.PairEvent.TheVariants as pair
use Rattle.cf_pair_model.specs.Seen.{held_seen}
use Rattle.cf_pair_model.specs.declared.devices.Device.{Device}
use Rattle.cf_pair_model.specs.declared.devices.Device.TheVariants as device

-- The state of each device, that of a third one that acts on the remote alone, and what the remote holds. What the link of a state
-- has of the remote is what it held when that device last acted.
pub record Pair : Type 0 where
  pub first : State
  pub second : State
  pub third : State
  pub held : Held

-- two fresh volumes of so many clusters, and the remote as it is handed in
abbrev pub start_pair : Held → ℕ → ℕ → Pair
start_pair held first second = record {
  first = start mode.Replay held first;
  second = start mode.Replay held second;
  third = start mode.Replay held 0;
  held = held;
}

abbrev pub state_of : Device → Pair → State
state_of device.First p = p.first
state_of device.Second p = p.second

abbrev pub with_state : Device → State → Pair → Pair
with_state device.First s p = record p { first = s }
with_state device.Second s p = record p { second = s }

-- the state over what the remote holds now
abbrev pub facing : Held → State → State
facing held s = record s { link = record s.link { remote = held } }

-- the device acted, and left the remote so
abbrev pub after_device : Device → State → Pair → Pair
after_device d t p = record (with_state d t p) { held = held_seen d t.link.remote }

-- the comparison

-- the path of an item that has so many names at most
abbrev pub path_in : ℕ → List Item → Option Item → List ℕ
path_in zero items i = []
path_in (suc fuel) items None = []
path_in (suc fuel) items (Some i) = cond (i.id.0 == 1) [] (path_in fuel items (item_of items i.parent) ++ 47 ∷ i.name)

abbrev pub path_row : List Item → Item → PathRow
path_row items i = record { path = path_in 33 items (Some i); kind = kind_of i; identity = i.identity; dirty = not i.directory && is_dirty i }

-- what stands at each path but the root
abbrev pub path_rows : State → List PathRow
path_rows s = map (path_row (items_now s)) (filter (λ i. not (i.id.0 == 1)) (items_now s))

-- Off where a device is off, else Broken where one is broken
abbrev pub no_comparison : Power → Power → Option Code
no_comparison Off p = Some code.Off
no_comparison Broken Off = Some code.Off
no_comparison Broken Broken = Some code.Broken
no_comparison Broken On = Some code.Broken
no_comparison On Off = Some code.Off
no_comparison On Broken = Some code.Broken
no_comparison On On = None

abbrev pub ComparesBy : Option Code → List PathRow → List PathRow → Comparison → Type 0
ComparesBy (Some c) as' bs result = result ≡ comparison.Refused c
ComparesBy None as' bs comparison.Equal = IsFirst as' bs None
ComparesBy None as' bs (comparison.Unequal path) = IsFirst as' bs (Some path)
ComparesBy None as' bs (comparison.Refused c) = ⊥

abbrev pub Compares : State → State → Comparison → Type 0
Compares s t result = ComparesBy (no_comparison s.power t.power) (path_rows s) (path_rows t) result

-- One event. What a device does is a step of its own over the remote as it sees it, and the remote is left as that step leaves it.
abbrev pub IsPairStep : Pair → PairEvent → PairAnswer → Pair → Type 0
IsPairStep p (pair.Of d e) (answer.Event a) q = (is_of_device e ≡ true) × (t : State) × IsStep mode.Replay (facing (held_seen d p.held) (state_of d p)) e a t × (q ≡ after_device d t p)
IsPairStep p (pair.Peer e) (answer.Event a) q = (t : State) × IsStep mode.Replay (facing p.held p.third) (event.Peer e) a t × (q ≡ record p { third = t; held = t.link.remote })
IsPairStep p pair.Compare (answer.Comparison c) q = Compares p.first p.second c × (q ≡ p)
IsPairStep p (pair.Of d e) (answer.Comparison c) q = ⊥
IsPairStep p (pair.Peer e) (answer.Comparison c) q = ⊥
IsPairStep p pair.Compare (answer.Event a) q = ⊥

-- the events with these answers lead from the one pair to the other
abbrev pub PairRuns : Pair → List (PairEvent × PairAnswer) → Pair → Type 0
PairRuns p [] q = q ≡ p
PairRuns p (e ∷ es) q = (mid : Pair) × IsPairStep p e.0 e.1 mid × PairRuns mid es q

-- a trace of two devices over fresh volumes, with this remote: each answer is one that the rules give
abbrev pub PairLawful : Held → ℕ → ℕ → List (PairEvent × PairAnswer) → Type 0
PairLawful held first second trace = (q : Pair) × PairRuns (start_pair held first second) trace q
