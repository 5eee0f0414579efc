-- Small scripts that end with a `sync`, quiet or not.
use Rattle.std.specs.Prelude.{ℕ, Bool, true, false, List, [], codes, ◌∷◌, ◌++◌, map}
use Rattle.cf_base.specs.declared.calls.Call.TheVariants as call
use Rattle.cf_base.specs.declared.events.EngineEvent.TheVariants as engine
use Rattle.cf_base.specs.declared.events.Event.{Event}
use Rattle.cf_base.specs.declared.events.Event.TheVariants as event
use Rattle.cf_base.specs.declared.events.PeerEvent.TheVariants as peer
use Rattle.cf_base.specs.declared.events.DeviceEvent.TheVariants as device
use Rattle.cf_base.specs.declared.policies.Choice.TheVariants as choice
use Rattle.cf_base.specs.declared.policies.Mode.TheVariants as mode
use Rattle.cf_base.specs.declared.policies.Population.TheVariants as population
use Rattle.cf_model.specs.Books.{with_cursor}
use Rattle.cf_model.specs.Effects.{changed, populated as with_all}
use Rattle.cf_model.specs.Events.{on_event}
use Rattle.cf_model.specs.Identities.{identity_for}
use Rattle.cf_model.specs.Items.{Item}
use Rattle.cf_model.specs.Lawful.{after, answers, trace_by, usual}
use Rattle.cf_model.specs.Skips.{with_book}
use Rattle.cf_model.specs.State.{State, book_now, first_policy, items_now, start, with_filter, with_volume}
use Rattle.cf_model.specs.Store.{empty_remote}
use Rattle.cf_model.specs.Trees.{Choices, Faults, plainly}
use Rattle.cf_model_convergence.specs.Lapses.{Clause, lapses, lapses_in}
use Rattle.cf_model_convergence.specs.Quiet.{is_always_populated, is_count, is_quiet}
use Rattle.cf_model_convergence.specs.Hearing.{is_heard}
use Rattle.std.specs.List.{list_any}
use Rattle.std.specs.Prelude.{not, ◌&&◌}

abbrev pub put_a : Event
put_a = event.Peer (peer.Put (codes "/a") (97 ∷ []))

abbrev pub make_b : Event
make_b = event.Call (call.Create (codes "/b"))

abbrev pub sync : Event
sync = event.Engine engine.Sync

abbrev pub full : Event
full = event.Call (call.Policy (record first_policy { population = population.Full }))

abbrev pub from_start : State
from_start = start mode.Replay empty_remote 15616

-- which of the answers are those of a quiet `sync`
abbrev pub quiet : List (Choices × Event) → List Bool
quiet events = map is_quiet (answers from_start events)

-- which of the answers are a count with no line that is heard
abbrev pub silent : List (Choices × Event) → List Bool
silent events = map (λ a. is_count a.shown && not (list_any is_heard a.notes)) (answers from_start events)

abbrev pub populated : List Event → Bool
populated events = is_always_populated (trace_by from_start (map usual events))

abbrev pub left_by : List Event → State
left_by events = after from_start (map usual events)

-- the remote fails at the first request
abbrev pub failing : Choices
failing = record plainly { tellings = Faults ∷ [] }

-- worked scripts

abbrev pub work : Event
work = event.Engine engine.Work

abbrev pub put_a_again : Event
put_a_again = event.Peer (peer.Put (codes "/a") (98 ∷ 99 ∷ []))

abbrev pub peer_dir : Event
peer_dir = event.Peer (peer.MakeDir (codes "/d"))

abbrev pub peer_into : Event
peer_into = event.Peer (peer.Move (codes "/a") (codes "/d/a"))

abbrev pub peer_removes_b : Event
peer_removes_b = event.Peer (peer.Remove (codes "/b"))

abbrev pub peer_moves_b : Event
peer_moves_b = event.Peer (peer.Move (codes "/b") (codes "/e"))

abbrev pub make_a : Event
make_a = event.Call (call.Create (codes "/a"))

abbrev pub make_c : Event
make_c = event.Call (call.Mkdir (codes "/c"))

abbrev pub rename_b : Event
rename_b = event.Call (call.Rename (codes "/b") (codes "/c/b"))

abbrev pub delete_a : Event
delete_a = event.Call (call.Delete (codes "/a"))

abbrev pub delete_c : Event
delete_c = event.Call (call.Delete (codes "/c"))

abbrev pub hydrate_a : Event
hydrate_a = event.Call (call.Hydrate (codes "/a"))

abbrev pub list_d : Event
list_d = event.Call (call.List (codes "/d"))

abbrev pub queued : Event
queued = event.Engine (engine.Link false)

abbrev pub inline : Event
inline = event.Engine (engine.Link true)

abbrev pub arrive : ℕ → Event
arrive m = event.Engine (engine.Arrive m)

abbrev pub deliver : ℕ → Event
deliver m = event.Engine (engine.Deliver m)

abbrev pub crash : Event
crash = event.Device (device.Crash choice.Drop)

abbrev pub restart : Event
restart = event.Device device.Restart

-- the lapses after each event
abbrev pub lapses_along : Bool → State → List (Choices × Event) → List Clause
lapses_along populated s [] = []
lapses_along populated s (p ∷ ps) = let t : State = (on_event p.0 s p.1).0 in lapses_in populated t ++ lapses_along populated t ps

abbrev pub lapsed : List Event → List Clause
lapsed events = lapses_along (populated events) from_start (map usual events)

-- what wrong engines would leave

abbrev pub lapses_now : Bool → State → List Clause
lapses_now populated s = lapses populated s.link.remote (items_now s) (book_now s)

-- one leaves an entry of a feed out, and moves the cursor
abbrev pub passing_over : State
passing_over = with_book (with_cursor 1) (left_by (put_a ∷ []))

abbrev pub with_items : List Item → State → State
with_items items s = with_filter (with_volume (record s.filter.volume { items = items }) s.filter) s

abbrev pub uploaded : Item → Item
uploaded i = record i { placeholder = true; identity = identity_for false (record { 0 = 2 }) (record { 0 = 1 }); writes = []; in_sync = true }

-- one takes an upload that a power cut stopped for done
abbrev pub believing : State
believing = with_items (changed (record { 0 = 2 }) uploaded (items_now (left_by (make_b ∷ [])))) (left_by (make_b ∷ []))

-- one leaves an entry of a listing out: the directory is populated without it
abbrev pub listing_less : State
listing_less = with_items (changed (record { 0 = 2 }) with_all (items_now (left_by (full ∷ peer_dir ∷ put_a ∷ peer_into ∷ sync ∷ [])))) (left_by (full ∷ peer_dir ∷ put_a ∷ peer_into ∷ sync ∷ []))

-- one never uploads a file that it made of a conflict
abbrev pub keeping_back : State
keeping_back = left_by (make_b ∷ sync ∷ make_a ∷ [])
