-- What a program has of the engine as a provider, the states for which that stands, and parts of an event that it plays.
use Rattle.std.specs.Prelude.{◌≡◌, ℕ, ◌+◌, Bool, true, List, [], ◌∷◌, Result, is_ok}
use Rattle.cf_base.specs.declared.memory.OutOfMemory.{OutOfMemory as NoMemory}
use Rattle.cf_base.specs.declared.policies.Mode.TheVariants as mode
use Rattle.cf_link.specs.Faults.{AsksFailed, fault_of}
use Rattle.cf_link.specs.Linked.{IsLink, Linked, linked_to}
use Rattle.cf_model.specs.Arrows.{Arrow, unit}
use Rattle.cf_model.specs.Ports.{Act, Acts, Did, Failed, HasFailed, Noted}
use Rattle.cf_model.specs.State.{Filter, State}
use Rattle.cf_model.specs.Trees.{Ends, Stops}
use Rattle.cf_remote.specs.Told.{Told}

-- the link to the remote; and of the running event whether lines of steps that are left out stand in it, and how many were
pub record Agency (R : Type 0) : Type 0 where
  pub link : Linked R
  pub shows_skips : Bool
  pub skips : ℕ

-- the same provider with another remote
abbrev pub agency_to : {R S : Type 0} → S → Agency R → Agency S
agency_to remote p = record { link = linked_to remote p.link; shows_skips = p.shows_skips; skips = p.skips }

-- it stands for a state in the command replay
pub record Sees {R : Type 0} (told : R → Told) (p : Agency R) (z : State) : Type 0 where
  pub replays : z.mode ≡ mode.Replay
  pub link : IsLink told p.link z.link
  pub shows_skips : p.shows_skips ≡ z.running.shows_skips
  pub skips : p.skips ≡ z.running.skips

-- a state of this kind has this filter, and the provider stands for it
pub record Leaves {R : Type 0} (told : R → Told) (Is : State → Type 0) (f : Filter) (q : Agency R) : Type 0 where
  pub state : State
  pub is : Is state
  pub filter : state.filter ≡ f
  pub sees : Sees told q state

-- the lines among acts that report that the remote failed
abbrev pub faults_among : List Act → ℕ
faults_among [] = 0
faults_among (Did seen op answer ∷ acts) = faults_among acts
faults_among (Failed seen op ∷ acts) = faults_among acts
faults_among (Noted n ∷ acts) = fault_of n + faults_among acts

-- These acts are this part of an event: from each state with a filter of this kind for which the provider stands the part ends in
-- one that they lead to, and for which the provider then stands. Where one of them met the device the part stops there. Of the asks
-- of the remote as many failed as there are lines of a fault. So no reply is passed off as a fault, and a remote that tells what it
-- holds, which `IsLink` says has kept its rules, gave the replies that stand among the messages.
pub record Plays {R : Type 0} (told : R → Told) (Holds : Filter → Type 0) (f : Arrow State (Unit {0})) (p : Agency R) (acts : List Act) (q : Agency R) : Type 0 where
  pub ends : (z : State) (g : Filter) → Sees told p z → Holds z.filter → Acts z.filter acts g → (HasFailed acts → ⊥) → Leaves told (Ends (f z) unit) g q
  pub stops : (z : State) (g : Filter) → Sees told p z → Holds z.filter → Acts z.filter acts g → HasFailed acts → Leaves told (Stops (f z)) g q
  pub faults : AsksFailed (faults_among acts) (told p.link.remote) (told q.link.remote)

-- a filter of any kind
abbrev pub Any : Filter → Type 0
Any f = Unit {0}

-- Acts led the port from the one state to the other, and are of this kind where memory did not run out.
abbrev pub Performs : {X A : Type 0} → (X → List Act → X → Type 0) → (List Act → Type 0) → X → Result A NoMemory → X → Type 0
Performs goes Is old r new = (acts : List Act) × goes old acts new × (is_ok r ≡ true → Is acts)
