-- The identities of two devices stay named.
use Rattle.std.proofs.Common.{◌≡◌, ℕ, Bool, true, false, List, [], ◌∷◌, refl, sym, subst}
use Rattle.std.specs.Prelude.{◌||◌}
use Rattle.cf_model.specs.Items.{root}
use Rattle.cf_model.specs.State.{items_now, State}
use Rattle.cf_model.specs.Store.{Held}
use Rattle.cf_model_laws.proofs.RightItems.{no_way}
use Rattle.cf_pair_events.specs.declared.answers.PairAnswer.{PairAnswer}
use Rattle.cf_pair_events.specs.declared.answers.PairAnswer.TheVariants as answer
use Rattle.cf_pair_events.specs.declared.events.PairEvent.{PairEvent}
use Rattle.cf_pair_events.specs.declared.events.PairEvent.TheVariants as pair
use Rattle.cf_pair_identities.specs.Named.{AreNamed, Named, NamedState}
use Rattle.cf_pair_identities.specs.NamedPairs.{either_stands_full, HasNamed, NamedPair, stands_full}
use Rattle.cf_pair_identities.proofs.EventsNamed.{start_named, step_named}
use Rattle.cf_pair_identities.proofs.NamedItems.{along_now}
use Rattle.cf_pair_model.specs.Seen.{held_seen}
use Rattle.cf_pair_model.specs.declared.devices.Device.{Device}
use Rattle.cf_pair_model.specs.declared.devices.Device.TheVariants as device
use Rattle.cf_pair_traces.specs.Pairs.{after_device, facing, IsPairStep, Pair, PairRuns, start_pair, state_of}

-- a state that faces what the remote holds now
face : (full : Bool) (held : Held) (s : State) → (full ≡ false → stands_full s ≡ false) → NamedState full s → Named full (facing held s)
face full held s stands h = ((h.0, stands), h.1)

pub neither : (a b : Bool) → (a || b) ≡ false → (a ≡ false) × (b ≡ false)
neither false b e = (refl, e)
neither true b e = no_way (sym e)

one_acts : (full : Bool) (d : Device) (t : State) (p : Pair) → NamedPair full p → NamedState full t → NamedPair full (after_device d t p)
one_acts full device.First t p h k = (k, h.1)
one_acts full device.Second t p h k = (h.0, k)

own : (full : Bool) (d : Device) (p : Pair) → NamedPair full p → NamedState full (state_of d p)
own full device.First p h = h.0
own full device.Second p h = h.1

own_stands : (full : Bool) (d : Device) (p : Pair) → (full ≡ false → either_stands_full p ≡ false) → full ≡ false → stands_full (state_of d p) ≡ false
own_stands full device.First p stands none = (neither (stands_full p.first) (stands_full p.second) (stands none)).0
own_stands full device.Second p stands none = (neither (stands_full p.first) (stands_full p.second) (stands none)).1

-- one event, before which no policy of FULL population stands
pub pair_step_named : (full : Bool) (p : Pair) (e : PairEvent) (a : PairAnswer) (q : Pair) → IsPairStep p e a q → (full ≡ false → either_stands_full p ≡ false) → NamedPair full p → NamedPair full q
pair_step_named full p (pair.Of d e) (answer.Event a) q h stands k =
    subst (NamedPair full) (sym h.3) (one_acts full d h.1 p k (step_named full (facing (held_seen d p.held) (state_of d p)) e a h.1 h.2 (face full (held_seen d p.held) (state_of d p) (own_stands full d p stands) (own full d p k))))
pair_step_named full p (pair.Peer e) (answer.Event a) q h stands k = subst (NamedPair full) (sym h.2) k
pair_step_named full p pair.Compare (answer.Comparison c) q h stands k = subst (NamedPair full) (sym h.1) k
pair_step_named full p (pair.Of d e) (answer.Comparison c) q h stands k = absurd h
pair_step_named full p (pair.Peer e) (answer.Comparison c) q h stands k = absurd h
pair_step_named full p pair.Compare (answer.Event a) q h stands k = absurd h

pub start_pair_named : (full : Bool) (held : Held) (first second : ℕ) → NamedPair full (start_pair held first second)
start_pair_named full held first second = (start_named full held first, start_named full held second)

now_named : (full : Bool) (s : State) → NamedState full s → AreNamed full (items_now s)
now_named full s h = subst (AreNamed full) (sym h.0.1) (along_now full (root ∷ []) s.filter.volume.log h.0.0)

pub pair_now_named : (full : Bool) (p : Pair) → NamedPair full p → HasNamed full p
pair_now_named full p h = (now_named full p.first h.0, now_named full p.second h.1)

runs_named : (p : Pair) (trace : List (PairEvent × PairAnswer)) (q : Pair) → PairRuns p trace q → NamedPair true p → NamedPair true q
runs_named p [] q h k = subst (NamedPair true) (sym h) k
runs_named p (x ∷ xs) q h k = runs_named h.0 xs q h.2 (pair_step_named true p x.0 x.1 h.0 h.1 (λ none. no_way (sym none)) k)

pub runs_now_named : (held : Held) (first second : ℕ) (trace : List (PairEvent × PairAnswer)) (q : Pair) → PairRuns (start_pair held first second) trace q → HasNamed true q
runs_now_named held first second trace q h = pair_now_named true q (runs_named (start_pair held first second) trace q h (start_pair_named true held first second))
