-- An event of another device that asks the remote nothing is never answered as RemoteFault.
use Rattle.std.proofs.Common.{◌≡◌, not, ℕ, Bool, true, false, List, [], ◌∷◌, ◌∙◌, ap, inl, inr}
use Rattle.std.specs.Prelude.{None, is_some, length, nat_lt}
use Rattle.std.specs.List.{list_all}
use Rattle.cf_base.specs.declared.answers.Answer.{Answer}
use Rattle.cf_base.specs.declared.answers.Shown.{Shown}
use Rattle.cf_base.specs.declared.codes.Code.TheVariants as code
use Rattle.cf_base.specs.declared.events.Event.TheVariants as event
use Rattle.cf_base.specs.declared.events.PeerEvent.{PeerEvent}
use Rattle.cf_base.specs.declared.events.PeerEvent.TheVariants as peer
use Rattle.cf_base.specs.declared.limits.TheConstants.{MOST_PATH_NAMES}
use Rattle.cf_base.specs.declared.messages.Entry.{Entry}
use Rattle.cf_base.specs.declared.policies.Mode.{Mode}
use Rattle.cf_model.specs.Arrows.{Arrow}
use Rattle.cf_model.specs.Events.{begun}
use Rattle.cf_model.specs.Lawful.{IsStep}
use Rattle.cf_model.specs.LookUp.{bad_names, names_of}
use Rattle.cf_model.specs.Peers.{at_parent, at_path, below_root, move_at, peer_event, remove_at, stat_at, unless_bad}
use Rattle.cf_model.specs.State.{State}
use Rattle.cf_model.specs.Texts.{is_name}
use Rattle.cf_model.specs.Trees.{Ends}
use Rattle.cf_model.specs.Words.{first_of}
use Rattle.cf_check_compare.specs.Alone.{asks_none, is_unplaced}
use Rattle.cf_check_ways.proofs.StepsSure.{StepOf, step_of}
use Rattle.cf_check_ways.specs.Ways.{is_fault}

-- no end of it is RemoteFault
abbrev NeverFails : Arrow State Shown → Type 0
NeverFails f = (s : State) (a : Shown) (t : State) → Ends (f s) a t → is_fault a ≡ false

bad_never : (deep bad : Bool) (f : Arrow State Shown) → is_some (first_of ((deep, code.TooDeep) ∷ (bad, code.BadPath) ∷ [])) ≡ true → NeverFails (unless_bad (first_of ((deep, code.TooDeep) ∷ (bad, code.BadPath) ∷ [])) f)
bad_never true bad f h s a t ends = ap is_fault ends.0
bad_never false true f h s a t ends = ap is_fault ends.0
bad_never false false f h s a t ends = let z : false ≡ true = h in absurd cc

names_never : (names : List (List ℕ)) (f : Arrow State Shown) → is_some (bad_names names) ≡ true → NeverFails (unless_bad (bad_names names) f)
names_never names f h = bad_never (nat_lt MOST_PATH_NAMES (length names)) (not (list_all is_name names)) f h

parent_never : (names : List (List ℕ)) (f : Entry → List ℕ → Arrow State Shown) → is_unplaced names ≡ true → NeverFails (at_parent names f)
parent_never [] f h = λ s a t ends. ap is_fault ends.0
parent_never (n ∷ ns) f h = names_never (n ∷ ns) _ h

below_never : (names : List (List ℕ)) (f : Entry → Arrow State Shown) → is_unplaced names ≡ true → NeverFails (below_root names f)
below_never [] f h = λ s a t ends. ap is_fault ends.0
below_never (n ∷ ns) f h = names_never (n ∷ ns) _ h

stat_never : (names : List (List ℕ)) → is_unplaced names ≡ true → NeverFails (at_path names stat_at)
stat_never [] h = λ s a t ends. ap is_fault ends.0
stat_never (n ∷ ns) h = names_never (n ∷ ns) _ h

event_never : (e : PeerEvent) → asks_none e ≡ true → NeverFails (peer_event e)
event_never (peer.Put path bytes) h = parent_never (names_of path) _ h
event_never (peer.MakeDir path) h = parent_never (names_of path) _ h
event_never (peer.Move from to) h = below_never (names_of from) (λ e. at_parent (names_of to) (move_at e)) h
event_never (peer.Remove path) h = below_never (names_of path) remove_at h
event_never (peer.Stat path) h = stat_never (names_of path) h
event_never (peer.Keep count) h = let z : false ≡ true = h in absurd cc

-- so from any state
pub never_fails : (m : Mode) (e : PeerEvent) (s : State) (a : Answer) (t : State) → asks_none e ≡ true → IsStep m s (event.Peer e) a t → is_fault a.shown ≡ false
never_fails m e s a t h step = by (step_of m s (event.Peer e) a t step)
  where
    by : StepOf None s (event.Peer e) a t → is_fault a.shown ≡ false
    by (inl x) = ap (λ (z : Answer). is_fault z.shown) x.2 ∙ event_never e h (begun s) x.0 t x.1
    by (inr x) = let z : false ≡ true = x.0 in absurd cc
