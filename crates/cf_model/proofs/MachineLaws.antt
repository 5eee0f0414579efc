-- What each step that is not made of others keeps, the whole machine keeps.
use Rattle.std.proofs.Common.{List, [], ◌∷◌, sym, subst}
use Rattle.std.specs.Prelude.{Option, Some, None}
use Rattle.cf_base.specs.declared.answers.Answer.{Answer}
use Rattle.cf_base.specs.declared.answers.Shown.{Shown}
use Rattle.cf_base.specs.declared.codes.Code.{Code}
use Rattle.cf_base.specs.declared.events.Event.{Event}
use Rattle.cf_base.specs.declared.policies.Mode.{Mode}
use Rattle.cf_model.specs.Events.{answered, begun, broken, choices_in, may_stop, needs_volume, no_volume, on_event, outcome, tree_of}
use Rattle.cf_model.specs.Lawful.{Runs}
use Rattle.cf_model.specs.State.{State}
use Rattle.cf_model.specs.Trees.{Choices, play}
use Rattle.cf_model.proofs.Closed.{Closed, ClosedToPeers}
use Rattle.cf_model.proofs.EventsKeep.{event_now_keeps}
use Rattle.cf_model.proofs.TreeLaws.{kept_by_walk}

outcome_keeps : (P : State → Type 0) → ((s : State) → P s → P (broken s)) → (x : Option Shown × State) → P x.1 → P (outcome x).0
outcome_keeps P breaks (Some r, s) h = h
outcome_keeps P breaks (None, s) h = breaks s h

answered_keeps : (P : State → Type 0) → Closed P → ClosedToPeers P → ((s : State) → P s → P (broken s)) → (why : Option Code) (c : Choices) (s : State) (e : Event) → P s → P (answered why c s e).0
answered_keeps P closed peers breaks (Some r) c s e h = h
answered_keeps P closed peers breaks None c s e h =
    let d : Choices = choices_in (may_stop e) c in
    outcome_keeps P breaks (play d (tree_of e s)) (kept_by_walk P d.stop d.forks d.tellings (tree_of e s) ((event_now_keeps P closed peers e).keeps (begun s) (closed.keeps_begun s h)))

-- an event, whatever is chosen of what the rules leave open
pub on_event_keeps : (P : State → Type 0) → Closed P → ClosedToPeers P → ((s : State) → P s → P (broken s)) → (c : Choices) (s : State) (e : Event) → P s → P (on_event c s e).0
on_event_keeps P closed peers breaks c s e h = answered_keeps P closed peers breaks (no_volume (needs_volume e) s.power) c s e h

-- a run
pub runs_keep : (P : State → Type 0) → Closed P → ClosedToPeers P → ((s : State) → P s → P (broken s)) → (m : Mode) (s : State) (trace : List (Event × Answer)) (t : State) → Runs m s trace t → P s → P t
runs_keep P closed peers breaks m s [] t h i = subst (λ (x : State). P x) (sym h) i
runs_keep P closed peers breaks m s (p ∷ ps) t h i =
    let mid : P h.0 = subst (λ (x : State × Answer). P x.0) h.1.2 (on_event_keeps P closed peers breaks h.1.1 s p.0 i) in
    runs_keep P closed peers breaks m h.0 ps t h.2 mid
