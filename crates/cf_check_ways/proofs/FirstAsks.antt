-- Where an event of another device asks the remote at all, a remote that fails at once makes it RemoteFault.
use Rattle.std.proofs.Common.{◌≡◌, ◌⊎◌, not, ℕ, Bool, true, false, List, [], ◌∷◌, refl, sym, ◌∙◌, ap, subst, inl, inr}
use Rattle.std.specs.Prelude.{Option, Some, None, length, nat_lt}
use Rattle.std.specs.List.{list_all}
use Rattle.cf_base.specs.declared.answers.Answer.{Answer}
use Rattle.cf_base.specs.declared.answers.Shown.{Shown}
use Rattle.cf_base.specs.declared.answers.Shown.TheVariants as shown
use Rattle.cf_base.specs.declared.codes.Code.TheVariants as code
use Rattle.cf_base.specs.declared.events.Event.TheVariants as event
use Rattle.cf_base.specs.declared.events.PeerEvent.{PeerEvent}
use Rattle.cf_base.specs.declared.events.PeerEvent.TheVariants as peer
use Rattle.cf_base.specs.declared.ids.Rid.{Rid}
use Rattle.cf_base.specs.declared.ids.Token.{Token}
use Rattle.cf_base.specs.declared.limits.TheConstants.{MOST_PATH_NAMES}
use Rattle.cf_base.specs.declared.messages.Entry.{Entry}
use Rattle.cf_base.specs.declared.messages.Request.{Request}
use Rattle.cf_base.specs.declared.messages.Request.TheVariants as request
use Rattle.cf_base.specs.declared.policies.Mode.{Mode}
use Rattle.cf_model.specs.Arrows.{Arrow, choose, ret}
use Rattle.cf_model.specs.Events.{begun, on_event, outcome, tree_of}
use Rattle.cf_model.specs.Lawful.{IsStep}
use Rattle.cf_model.specs.LookUp.{names_of}
use Rattle.cf_model.specs.Peers.{at_parent, at_path, at_place, below_root, if_found, in_dir, listing, look, make_at, move_at, named, peer_event, put_at, refused, remove_at, request_with, root_entry, stat_at, unless_bad}
use Rattle.cf_model.specs.State.{State}
use Rattle.cf_model.specs.Texts.{is_name}
use Rattle.cf_model.specs.Trees.{Asked, Ends, Faults, Ret, Telling, Tree, walk}
use Rattle.cf_model.specs.Words.{but_last, first_of, last_of}
use Rattle.cf_check_ways.specs.Ways.{Alike, fixed_state, is_fault, of_state}
use Rattle.cf_check_ways.proofs.StepsSure.{StepOf, never_stops, step_of, walk_ends}

-- it asks first, and where that fails it is RemoteFault
abbrev Fails : Tree State Shown → Type 0
Fails p = (k : Telling → Tree State Shown) × (p ≡ Asked k) × ((a : Shown) (t : State) → Ends (k Faults) a t → is_fault a ≡ true)

abbrev FirstAsk : Tree State Shown → Tree State Shown → Type 0
FirstAsk p q = ((r : Shown) × (t : State) × (u : State) × (p ≡ Ret r t) × (q ≡ Ret r u)) ⊎ (Fails p × Fails q)

-- from alike states both ask first, or neither asks and both have one result
record AsksAlike (f : Arrow State Shown) : Type 0 where
  first : (s o : State) → Alike of_state s o → FirstAsk (f s) (f o)

asks_ret : (a : Shown) → AsksAlike (ret a)
asks_ret a = record { first = λ s o e. inl (a, s, o, refl, refl) }

asks_choose : (b : Bool) (f g : Arrow State Shown) → AsksAlike f → AsksAlike g → AsksAlike (choose b f g)
asks_choose true f g h k = h
asks_choose false f g h k = k

asks_listing : (rid : Rid) (f : List Entry → Arrow State Shown) → AsksAlike (listing rid f)
asks_listing rid f = record { first = λ s o e. inr ((_, refl, λ a t h. ap is_fault h.0), (_, refl, λ a t h. ap is_fault h.0)) }

asks_request : (q : Token → Request) → AsksAlike (request_with q)
asks_request q = record { first = λ s o e. inr ((_, refl, λ a t h. ap is_fault h.0), (_, refl, λ a t h. ap is_fault h.0)) }

asks_dir : (at : Entry) (f : Arrow State Shown) → AsksAlike f → AsksAlike (in_dir at f)
asks_dir at f h = asks_choose at.dir f (refused code.NotDirectory) h (asks_ret (shown.Refused code.NotDirectory))

asks_look : (f : Entry → Arrow State Shown) → ((e : Entry) → AsksAlike (f e)) → (at : Entry) (names : List (List ℕ)) → AsksAlike (look f at names)
asks_look f h at [] = h at
asks_look f h at (n ∷ ns) = asks_dir at (listing at.rid (λ es. if_found (λ e. look f e ns) (named n es))) (asks_listing at.rid (λ es. if_found (λ e. look f e ns) (named n es)))

asks_unless : (deep bad : Bool) (f : Arrow State Shown) → AsksAlike f → AsksAlike (unless_bad (first_of ((deep, code.TooDeep) ∷ (bad, code.BadPath) ∷ [])) f)
asks_unless true bad f h = asks_ret (shown.Refused code.TooDeep)
asks_unless false true f h = asks_ret (shown.Refused code.BadPath)
asks_unless false false f h = h

asks_path : (names : List (List ℕ)) (f : Entry → Arrow State Shown) → ((e : Entry) → AsksAlike (f e)) → AsksAlike (at_path names f)
asks_path names f h = asks_unless (nat_lt MOST_PATH_NAMES (length names)) (not (list_all is_name names)) (look f root_entry names) (asks_look f h root_entry names)

asks_below : (names : List (List ℕ)) (f : Entry → Arrow State Shown) → ((e : Entry) → AsksAlike (f e)) → AsksAlike (below_root names f)
asks_below [] f h = asks_ret (shown.Refused code.BadPath)
asks_below (n ∷ ns) f h = asks_path (n ∷ ns) f h

asks_parent : (names : List (List ℕ)) (f : Entry → List ℕ → Arrow State Shown) → ((e : Entry) (name : List ℕ) → AsksAlike (f e name)) → AsksAlike (at_parent names f)
asks_parent [] f h = asks_ret (shown.Refused code.BadPath)
asks_parent (n ∷ ns) f h =
    asks_unless (nat_lt MOST_PATH_NAMES (length (n ∷ ns))) (not (list_all is_name (n ∷ ns))) (look (λ d. in_dir d (f d (last_of n ns))) root_entry (but_last n ns))
    (asks_look (λ d. in_dir d (f d (last_of n ns))) (λ d. asks_dir d (f d (last_of n ns)) (h d (last_of n ns))) root_entry (but_last n ns))

asks_place : (names : List (List ℕ)) (f : Entry → List ℕ → Option Entry → Arrow State Shown) → AsksAlike (at_place names f)
asks_place names f = asks_parent names (λ d name. listing d.rid (λ es. f d name (named name es))) (λ d name. asks_listing d.rid (λ es. f d name (named name es)))

asks_peer : (e : PeerEvent) → AsksAlike (peer_event e)
asks_peer (peer.Put path bytes) = asks_place (names_of path) (put_at bytes)
asks_peer (peer.MakeDir path) = asks_place (names_of path) make_at
asks_peer (peer.Move from to) = asks_below (names_of from) (λ e. at_parent (names_of to) (move_at e)) (λ e. asks_parent (names_of to) (move_at e) (λ d name. asks_request (λ token. request.Move token e.rid d.rid name)))
asks_peer (peer.Remove path) = asks_below (names_of path) remove_at (λ e. asks_request (λ token. request.Remove token e.rid e.version))
asks_peer (peer.Stat path) = asks_path (names_of path) stat_at (λ e. asks_ret (shown.Remote e.rid e.version))
asks_peer (peer.Keep count) = asks_request (λ token. request.Keep token count)

-- a way on which the remote fails at once is RemoteFault, or nothing is asked and there is one result
told_by_first : (p q : Tree State Shown) → FirstAsk p q → (r b : Shown) (t u : State) → ◌≡◌ {A = Option Shown × State} (walk None [] (Faults ∷ []) p) (Some r, t) → is_fault r ≡ false → Ends q b u → is_fault b ≡ false
told_by_first p q (inl x) r b t u h no_fault ends =
    let w : ◌≡◌ {A = Option Shown × State} (Some x.0, x.1) (Some r, t) = sym (ap (λ (z : Tree State Shown). walk None [] (Faults ∷ []) z) x.3) ∙ h in
    let same : x.0 ≡ r = some_is x.0 r (ap (λ (z : Option Shown × State). z.0) w) in
    let end : Ends (Ret x.0 x.2) b u = subst (λ (z : Tree State Shown). Ends z b u) x.4 ends in
    ap is_fault (end.0 ∙ same) ∙ no_fault
  where
    some_is : (y z : Shown) → Some y ≡ Some z → y ≡ z
    some_is y z e = cc
told_by_first p q (inr x) r b t u h no_fault ends =
    let w : ◌≡◌ {A = Option Shown × State} (walk None [] [] (x.0.0 Faults)) (Some r, t) = sym (ap (λ (z : Tree State Shown). walk None [] (Faults ∷ []) z) x.0.1) ∙ h in
    let fault : is_fault r ≡ true = x.0.2 r t (walk_ends None [] [] (x.0.0 Faults) r t w) in
    let z : true ≡ false = sym fault ∙ no_fault in
    absurd cc

-- an event of another device that has another result though the remote would fail at once never is RemoteFault
pub never_asks : (m : Mode) (e : PeerEvent) (s o : State) → Alike of_state s o → is_fault (on_event (record { stop = None; forks = []; tellings = Faults ∷ [] }) s (event.Peer e)).1.shown ≡ false
    → (b : Answer) (u : State) → IsStep m o (event.Peer e) b u → is_fault b.shown ≡ false
never_asks m e s o alike no_fault b u step = by (step_of m o (event.Peer e) b u step)
  where
    shown_is : (x : Option Shown × State) → ◌≡◌ {A = Option Shown × State} (walk None [] (Faults ∷ []) (tree_of (event.Peer e) s)) x → is_fault (outcome x).1.shown ≡ false → (q : Shown) → Ends (tree_of (event.Peer e) o) q u → is_fault q ≡ false
    shown_is (Some r, t) is h q ends = told_by_first (tree_of (event.Peer e) s) (tree_of (event.Peer e) o) ((asks_peer e).first (begun s) (begun o) (ap (λ (z : State). fixed_state (begun z)) alike)) r q t u is h ends
    shown_is (None, t) is h q ends = absurd (never_stops [] (Faults ∷ []) (tree_of (event.Peer e) s) t is)

    by : StepOf None o (event.Peer e) b u → is_fault b.shown ≡ false
    by (inl x) = ap (λ (z : Answer). is_fault z.shown) x.2 ∙ shown_is (walk None [] (Faults ∷ []) (tree_of (event.Peer e) s)) refl no_fault x.0 x.1
    by (inr x) = let z : false ≡ true = x.0 in absurd cc
