-- Small scripts of two devices over an empty remote, and what they leave.
use Rattle.std.specs.Prelude.{◌≡◌, ℕ, true, false, List, [], ◌∷◌, ◌++◌, codes}
use Rattle.cf_base.specs.declared.calls.Call.TheVariants as call
use Rattle.cf_base.specs.declared.events.EngineEvent.TheVariants as engine
use Rattle.cf_base.specs.declared.events.Event.{Event}
use Rattle.cf_base.specs.declared.events.Event.TheVariants as event
use Rattle.cf_base.specs.declared.ids.Handle.{Handle}
use Rattle.cf_base.specs.declared.ids.Token.{Token}
use Rattle.cf_base.specs.declared.items.Kind.TheVariants as kind
use Rattle.cf_model.specs.Events.{on_event}
use Rattle.cf_model.specs.Identities.{identity_for}
use Rattle.cf_model.specs.State.{State}
use Rattle.cf_model.specs.Store.{Recorded, RecordedDone, empty_remote}
use Rattle.cf_model.specs.Trees.{plainly}
use Rattle.cf_pair_compare.specs.declared.path_rows.PathRow.{PathRow}
use Rattle.cf_pair_events.specs.OfDevices.{is_of_device}
use Rattle.cf_pair_events.specs.declared.answers.PairAnswer.{PairAnswer}
use Rattle.cf_pair_events.specs.declared.answers.PairAnswer.TheVariants as answer
use Rattle.cf_pair_events.specs.declared.comparisons.Comparison.TheVariants as comparison
use Rattle.cf_pair_events.specs.declared.events.PairEvent.{PairEvent}
use Rattle.cf_pair_events.specs.declared.events.PairEvent.TheVariants as pair
use Rattle.cf_pair_model.specs.Seen.{held_seen}
use Rattle.cf_pair_model.specs.declared.devices.Device.TheVariants as device
use Rattle.cf_pair_traces.specs.Pairs.{Pair, after_device, facing, start_pair, state_of}

-- what an event leaves where all goes as usual
abbrev pub acted : Pair → PairEvent → Pair
acted p (pair.Of d e) = after_device d (on_event plainly (facing (held_seen d p.held) (state_of d p)) e).0 p
acted p (pair.Peer e) = let t : State = (on_event plainly (facing p.held p.third) (event.Peer e)).0 in record p { third = t; held = t.link.remote }
acted p pair.Compare = p

abbrev pub played : Pair → List PairEvent → Pair
played p [] = p
played p (e ∷ es) = played (acted p e) es

-- its answer; a comparison is not played
abbrev pub answered : Pair → PairEvent → PairAnswer
answered p (pair.Of d e) = answer.Event (on_event plainly (facing (held_seen d p.held) (state_of d p)) e).1
answered p (pair.Peer e) = answer.Event (on_event plainly (facing p.held p.third) (event.Peer e)).1
answered p pair.Compare = answer.Comparison comparison.Equal

abbrev pub reported : Pair → List PairEvent → List (PairEvent × PairAnswer)
reported p [] = []
reported p (e ∷ es) = (e, answered p e) ∷ reported (acted p e) es

-- an event that a device may have, or one of a third device
abbrev pub IsPlayable : PairEvent → Type 0
IsPlayable (pair.Of d e) = is_of_device e ≡ true
IsPlayable (pair.Peer e) = Unit {0}
IsPlayable pair.Compare = ⊥

abbrev pub ArePlayable : List PairEvent → Type 0
ArePlayable [] = Unit {0}
ArePlayable (e ∷ es) = IsPlayable e × ArePlayable es

abbrev pub left_by : List PairEvent → Pair
left_by events = played (start_pair empty_remote 15616 15616) events

abbrev pub first_does : Event → PairEvent
first_does e = pair.Of device.First e

abbrev pub second_does : Event → PairEvent
second_does e = pair.Of device.Second e

abbrev pub first_handle : Handle
first_handle = record { 0 = record { epoch = 1; number = 1 } }

-- the device makes a file of these bytes
abbrev pub makes : (Event → PairEvent) → List ℕ → List PairEvent
makes does bytes =
    does (event.Call (call.Create (codes "/n"))) ∷ does (event.Call (call.Open (codes "/n"))) ∷ does (event.Call (call.Write first_handle 0 bytes)) ∷ does (event.Call (call.Close first_handle)) ∷ []

-- the first device makes a file of two bytes, and both devices sync
abbrev pub new_file : List PairEvent
new_file = makes first_does (codes "ab") ++ first_does (event.Engine engine.Sync) ∷ second_does (event.Engine engine.Sync) ∷ []

-- the second device makes a directory
abbrev pub new_d : List PairEvent
new_d = second_does (event.Call (call.Mkdir (codes "/d"))) ∷ []

-- and the second and the first sync
abbrev pub alike : List PairEvent
alike = new_file ++ new_d ++ second_does (event.Engine engine.Sync) ∷ first_does (event.Engine engine.Sync) ∷ []

-- version 1 of item 2 of the remote
abbrev pub file_n : PathRow
file_n = record { path = codes "/n"; kind = kind.PlaceholderFile; identity = identity_for false (record { 0 = 2 }) (record { 0 = 1 }); dirty = false }

-- item 3 of the remote
abbrev pub dir_d : PathRow
dir_d = record { path = codes "/d"; kind = kind.PlaceholderDir; identity = identity_for true (record { 0 = 3 }) (record { 0 = 0 }); dirty = false }

-- a directory of a device that the remote does not have yet
abbrev pub plain_d : PathRow
plain_d = record { path = codes "/d"; kind = kind.Dir; identity = []; dirty = false }

-- both devices make a file of one name, and sync in turn
abbrev pub conflict : List PairEvent
conflict =
    makes first_does (codes "a") ++ makes second_does (codes "b") ++ first_does (event.Engine engine.Sync) ∷ second_does (event.Engine engine.Sync) ∷ first_does (event.Engine engine.Sync) ∷ []

-- version 1 of item 3 of the remote, under the name of a conflict
abbrev pub kept_n : PathRow
kept_n = record { path = codes "/n (conflict 1)"; kind = kind.PlaceholderFile; identity = identity_for false (record { 0 = 3 }) (record { 0 = 1 }); dirty = false }

abbrev pub token_of : ℕ → Token
token_of epoch = record { 0 = record { epoch = epoch; number = 1 } }

-- token 1.1 of the second device, and of the first
abbrev pub tokens_of_both : List (Token × Recorded)
tokens_of_both = (token_of 2147483649, RecordedDone (record { 0 = 3 }) (record { 0 = 0 })) ∷ (token_of 1, RecordedDone (record { 0 = 2 }) (record { 0 = 1 })) ∷ []
