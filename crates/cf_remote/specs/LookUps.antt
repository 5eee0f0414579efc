-- Parts of a peer event, step by step.
use Rattle.std.specs.Prelude.{◌≡◌, ℕ, ◌+◌, ◌<◌, ◌^◌, List, [], Bool, Option, Some, None, option_map, true, false, ◌∷◌, Result, Ok, Err, length}
use Rattle.cf_base.specs.declared.answers.Answer.{Answer}
use Rattle.cf_base.specs.declared.answers.Shown.{Shown}
use Rattle.cf_base.specs.declared.answers.Shown.TheVariants as shown
use Rattle.cf_base.specs.declared.codes.Code.TheVariants as code
use Rattle.cf_base.specs.declared.events.PeerEvent.{PeerEvent}
use Rattle.cf_base.specs.declared.events.PeerEvent.TheVariants as event
use Rattle.cf_base.specs.declared.memory.OutOfMemory.{OutOfMemory}
use Rattle.cf_base.specs.declared.messages.Entry.{Entry}
use Rattle.cf_base.specs.declared.messages.Reply.{Reply}
use Rattle.cf_base.specs.declared.messages.Reply.TheVariants as reply
use Rattle.cf_model.specs.Arrows.{Arrow, ret}
use Rattle.cf_base.specs.declared.ids.Token.{Token}
use Rattle.cf_model.specs.Peers.{code_of, in_dir, look, on_done, peer_event, refused, root_entry, send_request}
use Rattle.cf_model.specs.State.{State}
use Rattle.cf_model.specs.Trees.{Ret}
use Rattle.cf_model.specs.Words.{but_last, last_of}
use Rattle.cf_remote.specs.Peers.{Begins, Leads, Stands}
use Rattle.cf_remote.specs.Told.{Told}
use Rattle.cf_remote.specs.declared.ask_errors.AskError.{AskError}
use Rattle.cf_remote.specs.declared.ask_errors.AskError.TheVariants as ask
use Rattle.cf_remote.specs.declared.stops.Plan.{Plan}
use Rattle.cf_remote.specs.declared.stops.Plan.TheVariants as plan
use Rattle.cf_remote.specs.declared.stops.Stop.{Stop}
use Rattle.cf_remote.specs.declared.stops.Stop.TheVariants as stop
use Rattle.cf_wire.specs.Spelled.{HasRoom}

-- all that the event is answered in the rest it is answered from here on
abbrev pub Goes : Arrow State Shown → Arrow State Shown → State → Told → State → Told → Type 0
Goes f g s old t new = (b : Shown) (u : State) (last : Told) → Leads (g t) new b u last → Leads (f s) old b u last

-- where the rest is begun from here on the event is begun
abbrev pub GoesOn : Arrow State Shown → Arrow State Shown → State → Told → State → Told → Type 0
GoesOn f g s old t new = (last : Told) → Begins (g t) new last → Begins (f s) old last

-- the event ends here
abbrev pub Ends : Arrow State Shown → State → Told → Shown → State → Told → Type 0
Ends f s old b t new = Leads (f s) old b t new

-- The part was done and the rest follows, or the event ended in it. A fault and a stray reply use a token up. Without memory it
-- is begun.
abbrev pub Comes : {A : Type 0} → Arrow State Shown → (A → Arrow State Shown) → ℕ → State → Told → Result A Stop → Told → Type 0
Comes f rest next s old (Ok a) new = (t : State) × Stands next new t × (t.running ≡ s.running) × Goes f (rest a) s old t new × GoesOn f (rest a) s old t new
Comes f rest next s old (Err (stop.Refused c)) new = (t : State) × Stands next new t × (t.running ≡ s.running) × Ends f s old (shown.Refused c) t new
Comes f rest next s old (Err stop.Fault) new = (t : State) × Stands (next + 1) new t × (t.running ≡ s.running) × Ends f s old (shown.Refused code.RemoteFault) t new
Comes f rest next s old (Err (stop.Stray r)) new = (t : State) × Stands (next + 1) new t × (t.running ≡ record s.running { stray = Some r }) × Ends f s old (shown.Refused code.Stale) t new
Comes f rest next s old (Err stop.OutOfMemory) new = Begins (f s) old new

-- what a function does to the remote that has this contract is the part of the event, whatever comes before and after
abbrev pub DoesPart : {A B : Type 0} → ((B → Arrow State Shown) → Arrow State Shown) → (A → B) → Told → Result A Stop → Told → Type 0
DoesPart {A} {B} part value old result new =
    (f : B → Arrow State Shown) (next : ℕ) (s : State) → Stands next old s → Comes (part f) (λ a. f (value a)) next s old result new

-- what is left of an event once it has looked up its paths
abbrev pub finish : Plan → Arrow State Shown
finish (plan.Send q) = send_request q
finish (plan.Tell rid version) = ret (shown.Remote rid version)

abbrev pub PlanHasRoom : Plan → Type 0
PlanHasRoom (plan.Send q) = HasRoom q
PlanHasRoom (plan.Tell rid version) = Unit {0}

-- the bytes of the event have room in a frame
abbrev pub EventHasRoom : PeerEvent → Type 0
EventHasRoom (event.Put path bytes) = length bytes < 2 ^ 32
EventHasRoom _ = Unit {0}

-- what a reply is answered, if it fits and is one that is known
abbrev pub verdict : Reply → Bool → Option Shown
verdict r false = None
verdict (reply.Done token rid version) true = Some (shown.Remote rid version)
verdict (reply.Refused token w version) true = option_map shown.Refused (code_of w)
verdict r true = None

-- the event ends with the answer, in a state that differs in its stray reply at most
abbrev pub Shows : Reply → Bool → Answer → Type 0
Shows r fit a = (t : State) → t.running.stray ≡ None
    → (u : State) × (on_done r fit t ≡ Ret a.shown u) × (u.link ≡ t.link) × (u.peer_tokens ≡ t.peer_tokens) × (a ≡ record { notes = []; shown = a.shown; stray = u.running.stray })

-- what is done with the plan is the event
abbrev pub Plans : PeerEvent → Token → Told → Result Plan Stop → Told → Type 0
Plans e token old result new = (next : ℕ) (s : State) → token.0 ≡ record { epoch = 0; number = next } → Stands next old s → Comes (peer_event e) finish next s old result new

-- the way from an entry to the directory of a path that is good, by the names that are left
abbrev pub parent_from : (Entry × List ℕ → Arrow State Shown) → Entry → List ℕ → List (List ℕ) → Arrow State Shown
parent_from f at n ns = look (λ d. in_dir d (f (d, last_of n ns))) at (but_last n ns)

abbrev pub parent_of : (Entry × List ℕ → Arrow State Shown) → List (List ℕ) → Arrow State Shown
parent_of f [] = refused code.BadPath
parent_of f (n ∷ ns) = parent_from f root_entry n ns

-- what is left once all paths are looked up
abbrev pub PlansAt : Arrow State Shown → Token → Result Plan Stop → Type 0
PlansAt f token result = (next : ℕ) (s : State) (told : Told) → token.0 ≡ record { epoch = 0; number = next } → Stands next told s → Comes f finish next s told result told

-- what a peer event is answered, with the reply that cannot be
abbrev pub answered : Shown → Option Reply → Answer
answered b stray = record { notes = []; shown = b; stray = stray }

-- the answer to a request that got no reply
abbrev pub IsFailed : AskError → Result Answer OutOfMemory → Type 0
IsFailed ask.Fault (Ok a) = a ≡ answered (shown.Refused code.RemoteFault) None
IsFailed ask.Fault (Err e) = ⊥
IsFailed ask.OutOfMemory (Ok a) = ⊥
IsFailed ask.OutOfMemory (Err e) = Unit {0}

-- the answer to an event that ended in a look-up, and the next token then, which without memory is as before
abbrev pub EndsBy : Stop → ℕ → Result Answer OutOfMemory → ℕ → Type 0
EndsBy (stop.Refused c) next (Ok a) after = (a ≡ answered (shown.Refused c) None) × (after ≡ next)
EndsBy stop.Fault next (Ok a) after = (a ≡ answered (shown.Refused code.RemoteFault) None) × (after ≡ next + 1)
EndsBy (stop.Stray r) next (Ok a) after = (a ≡ answered (shown.Refused code.Stale) (Some r)) × (after ≡ next + 1)
EndsBy stop.OutOfMemory next (Ok a) after = ⊥
EndsBy stop.OutOfMemory next (Err e) after = after ≡ next
EndsBy s next (Err e) after = ⊥
