-- Scripts: the events that a text spells.
use Rattle.std.specs.Prelude.{ℕ, Bool, true, false, not, List, [], Option, Some, None, nat_le, codes, ◌+◌, ◌-◌, ◌&&◌, ◌∷◌, ◌++◌, ◌==◌, if◌then◌else◌}
use Rattle.std.specs.List.{list_all}
use Rattle.std.specs.Str.{bytes_eq}
use Rattle.cf_base.specs.declared.calls.Call.TheVariants as call
use Rattle.cf_base.specs.declared.events.DeviceEvent.TheVariants as device
use Rattle.cf_base.specs.declared.events.EngineEvent.TheVariants as engine
use Rattle.cf_base.specs.declared.events.Event.{Event}
use Rattle.cf_base.specs.declared.events.Event.TheVariants as event
use Rattle.cf_base.specs.declared.events.PeerEvent.TheVariants as peer
use Rattle.cf_base.specs.declared.events.ProviderEvent.TheVariants as provider
use Rattle.cf_base.specs.declared.ids.Key.{Key}
use Rattle.cf_base.specs.declared.items.Pin.{Pin}
use Rattle.cf_base.specs.declared.items.Pin.TheVariants as pin
use Rattle.cf_base.specs.declared.items.Reach.{Reach}
use Rattle.cf_base.specs.declared.items.Reach.TheVariants as reach
use Rattle.cf_base.specs.declared.policies.Choice.{Choice}
use Rattle.cf_base.specs.declared.policies.Choice.TheVariants as choice
use Rattle.cf_base.specs.declared.policies.Class.{Class}
use Rattle.cf_base.specs.declared.policies.Class.TheVariants as class
use Rattle.cf_base.specs.declared.policies.Hydration.{Hydration}
use Rattle.cf_base.specs.declared.policies.Hydration.TheVariants as hydration
use Rattle.cf_base.specs.declared.policies.Mode.{Mode}
use Rattle.cf_base.specs.declared.policies.Mode.TheVariants.{Replay, Filter}
use Rattle.cf_base.specs.declared.policies.Population.{Population}
use Rattle.cf_base.specs.declared.policies.Population.TheVariants as population
use Rattle.cf_model.specs.Texts.{is_text}
use Rattle.cf_examples.specs.Operations.{operation_of}
use Rattle.cf_examples.specs.Words.{Form, bytes, four, handle, identity, is_empty, key, none, num, one, only, or_else, path, positive, split_at, takes, then_some, three, two, under, usn, wait, word_of}

-- words that stand for a value

abbrev pub pin_word : List ℕ → Option Pin
pin_word = word_of ((codes "unspecified", pin.Unspecified) ∷ (codes "pinned", pin.Pinned) ∷ (codes "unpinned", pin.Unpinned) ∷ (codes "excluded", pin.Excluded) ∷ (codes "inherit", pin.Inherit) ∷ [])

abbrev pub reach_word : List ℕ → Option Reach
reach_word = word_of ((codes "recurse", reach.Recurse) ∷ (codes "recurse-only", reach.RecurseOnly) ∷ [])

abbrev pub class_word : List ℕ → Option Class
class_word = word_of ((codes "ondisk", class.OnDisk) ∷ (codes "validated", class.Validated) ∷ (codes "modified", class.Modified) ∷ [])

abbrev pub hydration_word : List ℕ → Option Hydration
hydration_word = word_of ((codes "partial", hydration.Partial) ∷ (codes "progressive", hydration.Progressive) ∷ (codes "full", hydration.Full) ∷ (codes "always-full", hydration.AlwaysFull) ∷ [])

abbrev pub population_word : List ℕ → Option Population
population_word = word_of ((codes "partial", population.Partial) ∷ (codes "full", population.Full) ∷ (codes "always-full", population.AlwaysFull) ∷ [])

abbrev pub yes_word : List ℕ → Option Bool
yes_word = word_of ((codes "yes", true) ∷ (codes "no", false) ∷ [])

abbrev pub choice_word : List ℕ → Option Choice
choice_word = word_of ((codes "drop", choice.Drop) ∷ (codes "keep", choice.Keep) ∷ [])

-- lines of several forms

abbrev pub policy_line : Form Event
policy_line (h ∷ p ∷ ws) =
    let a : Bool × List (List ℕ) = takes (codes "validate") ws in
    let b : Bool × List (List ℕ) = takes (codes "restart") a.1 in
    let c : Bool × List (List ℕ) = takes (codes "auto") b.1 in
    then_some (hydration_word h) (λ x. then_some (population_word p) (λ y.
    only (is_empty c.1) (Some (event.Call (call.Policy (record { hydration = x; population = y; validate = a.0; restart = b.0; auto = c.0 }))))))
policy_line _ = None

abbrev pub pin_line : Form Event
pin_line = or_else (two path pin_word (λ p s. event.Call (call.Pin p s reach.One))) (three path pin_word reach_word (λ p s r. event.Call (call.Pin p s r)))

abbrev pub dehydrate_line : Form Event
dehydrate_line = or_else (one path (λ p. event.Call (call.Dehydrate p None))) (three path num num (λ p s n. event.Call (call.Dehydrate p (Some (s, n)))))

abbrev pub crash_line : Form Event
crash_line = or_else (one choice_word (λ c. event.Device (device.Crash c))) (under ((codes "mix", one num (λ n. event.Device (device.Crash (choice.Mix n)))) ∷ []))

abbrev pub no_key : Key
no_key = record { epoch = 0; number = 0 }

abbrev pub do_line : Form Event
do_line (w ∷ k ∷ ws) = then_some (key k) (λ n. then_some (operation_of w n ws) (λ op. Some (event.Provider (provider.Do op))))
do_line _ = None

-- `self` stands for the key of the callback
abbrev pub plan_line : Form Event
plan_line (w ∷ k ∷ ws) =
    if bytes_eq k (codes "self") then then_some (operation_of w no_key ws) (λ op. Some (event.Provider (provider.Plan true op)))
    else then_some (key k) (λ n. then_some (operation_of w n ws) (λ op. Some (event.Provider (provider.Plan false op))))
plan_line _ = None

abbrev pub in_sync_word : List ℕ → Option Bool
in_sync_word = word_of ((codes "insync", true) ∷ [])

abbrev pub place_line : Form Event
place_line = or_else (three path num identity (λ p n i. event.Provider (provider.Place p n i false))) (four path num identity in_sync_word (λ p n i s. event.Provider (provider.Place p n i s)))

abbrev pub place_dir_line : Form Event
place_dir_line = or_else (two path identity (λ p i. event.Provider (provider.PlaceDir p i false))) (three path identity in_sync_word (λ p i s. event.Provider (provider.PlaceDir p i s)))

abbrev pub update_line : Form Event
update_line = or_else (two path identity (λ p i. event.Provider (provider.Update p i None))) (three path identity num (λ p i n. event.Provider (provider.Update p i (Some n))))

-- the table of lines

abbrev pub both_lines : List (List ℕ × Form Event)
both_lines =
    (codes "open", one path (λ p. event.Call (call.Open p)))
    ∷ (codes "close", one handle (λ h. event.Call (call.Close h)))
    ∷ (codes "cancel", one wait (λ w. event.Call (call.Cancel w)))
    ∷ (codes "tick", one positive (λ n. event.Call (call.Tick n)))
    ∷ (codes "read", three handle num num (λ h s n. event.Call (call.Read h s n)))
    ∷ (codes "get", three path num num (λ p s n. event.Call (call.Get p s n)))
    ∷ (codes "write", three handle num bytes (λ h s bs. event.Call (call.Write h s bs)))
    ∷ (codes "size", two handle num (λ h n. event.Call (call.Size h n)))
    ∷ (codes "flush", none (event.Call call.Flush))
    ∷ (codes "create", one path (λ p. event.Call (call.Create p)))
    ∷ (codes "mkdir", one path (λ p. event.Call (call.Mkdir p)))
    ∷ (codes "delete", one path (λ p. event.Call (call.Delete p)))
    ∷ (codes "rename", two path path (λ p q. event.Call (call.Rename p q)))
    ∷ (codes "list", one path (λ p. event.Call (call.List p)))
    ∷ (codes "pin", pin_line)
    ∷ (codes "hydrate", one path (λ p. event.Call (call.Hydrate p)))
    ∷ (codes "dehydrate", dehydrate_line)
    ∷ (codes "info", one path (λ p. event.Call (call.Info p)))
    ∷ (codes "ranges", two path class_word (λ p c. event.Call (call.Ranges p c)))
    ∷ (codes "df", none (event.Call call.Df))
    ∷ (codes "policy", policy_line)
    ∷ (codes "keep", two path yes_word (λ p on. event.Call (call.Keep p on)))
    ∷ (codes "used", one path (λ p. event.Call (call.Used p)))
    ∷ (codes "connect", none (event.Call (call.Connect true)))
    ∷ (codes "disconnect", none (event.Call (call.Connect false)))
    ∷ (codes "stop", one num (λ n. event.Device (device.Stop n)))
    ∷ (codes "crash", crash_line)
    ∷ (codes "restart", none (event.Device device.Restart)) ∷ []

abbrev pub peer_lines : List (List ℕ × Form Event)
peer_lines =
    (codes "put", two path bytes (λ p bs. event.Peer (peer.Put p bs)))
    ∷ (codes "mkdir", one path (λ p. event.Peer (peer.MakeDir p)))
    ∷ (codes "move", two path path (λ p q. event.Peer (peer.Move p q)))
    ∷ (codes "remove", one path (λ p. event.Peer (peer.Remove p)))
    ∷ (codes "stat", one path (λ p. event.Peer (peer.Stat p)))
    ∷ (codes "keep", one positive (λ n. event.Peer (peer.Keep n))) ∷ []

abbrev pub replay_lines : List (List ℕ × Form Event)
replay_lines =
    (codes "peer", under peer_lines)
    ∷ (codes "link", one (word_of ((codes "inline", true) ∷ (codes "queued", false) ∷ [])) (λ inline. event.Engine (engine.Link inline)))
    ∷ (codes "work", none (event.Engine engine.Work))
    ∷ (codes "sync", none (event.Engine engine.Sync))
    ∷ (codes "deliver", one num (λ m. event.Engine (engine.Deliver m)))
    ∷ (codes "arrive", one num (λ m. event.Engine (engine.Arrive m)))
    ∷ (codes "space", one num (λ n. event.Engine (engine.Space n))) ∷ []

abbrev pub filter_lines : List (List ℕ × Form Event)
filter_lines =
    (codes "place", place_line)
    ∷ (codes "placedir", place_dir_line)
    ∷ (codes "convert", two path identity (λ p i. event.Provider (provider.Convert p i)))
    ∷ (codes "revert", one path (λ p. event.Provider (provider.Revert p)))
    ∷ (codes "update", update_line)
    ∷ (codes "mark", two path usn (λ p n. event.Provider (provider.Mark p n)))
    ∷ (codes "unmark", one path (λ p. event.Provider (provider.Unmark p)))
    ∷ (codes "do", do_line)
    ∷ (codes "plan", plan_line) ∷ []

abbrev pub lines_in : Mode → List (List ℕ × Form Event)
lines_in Replay = both_lines ++ replay_lines
lines_in Filter = both_lines ++ filter_lines

-- UTF-8 without a control byte
abbrev pub is_line : List ℕ → Bool
is_line line = list_all (λ b. nat_le 32 b && not (b == 127)) line && is_text line

abbrev pub event_of : Mode → List ℕ → Option Event
event_of mode line = only (is_line line) (under (lines_in mode) (split_at 32 line))

-- an empty line and a comment are no events
abbrev pub is_event_line : List ℕ → Bool
is_event_line [] = false
is_event_line (b ∷ bs) = not (b == 35)

-- the events of a script, or the number of its first bad line
pub data Script : Type 0 where
  Events : (events : List Event) → Script
  BadLine : (number : ℕ) → Script

abbrev pub with_event : Event → Script → Script
with_event e (Events es) = Events (e ∷ es)
with_event e (BadLine n) = BadLine n

-- the lines from this number on, where so many events may still come
abbrev pub read_lines : Mode → ℕ → ℕ → List (List ℕ) → Script
read_lines mode number left [] = Events []
read_lines mode number left (line ∷ lines) =
    if not (is_event_line line) then read_lines mode (number + 1) left lines
    else (if left == 0 then BadLine number
    else (elim (event_of mode line) as (λ _. Script) [ None ↦ BadLine number | Some e ↦ with_event e (read_lines mode (number + 1) (left - 1) lines) ]))

abbrev pub read : Mode → List ℕ → Script
read mode text = read_lines mode 1 100000 (split_at 10 text)
