-- The request of a peer event, once its paths are looked up.
use Rattle.std.proofs.Common.{◌≡◌, ℕ, List, subst}
use Rattle.std.specs.Prelude.{Option, Result, Ok, Err}
use Rattle.cf_base.specs.declared.answers.Shown.{Shown}
use Rattle.cf_base.specs.declared.messages.Entry.{Entry}
use Rattle.cf_model.specs.Arrows.{Arrow}
use Rattle.cf_model.specs.Peers.{at_place}
use Rattle.cf_model.specs.State.{State}
use Rattle.cf_remote.specs.LookUps.{Comes, DoesPart, finish}
use Rattle.cf_remote.specs.Peers.{Stands}
use Rattle.cf_remote.specs.Told.{Told}
use Rattle.cf_remote.specs.declared.stops.Plan.{Plan}
use Rattle.cf_remote.specs.declared.stops.Stop.{Stop}
use Rattle.cf_remote.proofs.PeerParts.{child_part, comes_ended, comes_on, comes_then}

-- what follows a directory and a name in it
module _ (f : Entry → List ℕ → Option Entry → Arrow State Shown) where
  abbrev pub at_name : Entry × List ℕ → Arrow State Shown
  at_name p = child_part p.0.rid p.1 (f p.0 p.1)

  module _ (d : Entry) (name : List ℕ) (names : List (List ℕ)) (next : ℕ) (s : State) (old mid : Told)
      (found : Comes {A = Unit {0}} (at_place names f) (λ u. at_name (d, name)) next s old (Ok (record {})) mid) (bytes : List ℕ) (same : bytes ≡ name) where
    named_so : (r : Result (Option Entry) Stop) (new : Told) (t : State) → Comes {A = Option Entry} (child_part d.rid bytes (f d name)) (f d name) next t mid r new
        → Comes {A = Option Entry} (at_name (d, name)) (f d name) next t mid r new
    named_so r new t h = subst (λ (n : List ℕ). Comes {A = Option Entry} (child_part d.rid n (f d name)) (f d name) next t mid r new) same h

    pub name_ended : (e : Stop) (new : Told) → DoesPart {A = Option Entry} {B = Option Entry} (child_part d.rid bytes) (λ o. o) mid (Err e) new
        → Comes {A = Plan} (at_place names f) finish next s old (Err e) new
    name_ended e new h = comes_then (at_place names f) (at_name (d, name)) finish next s old mid (Err e) new found
        (λ t u. comes_ended (at_name (d, name)) (f d name) finish next t mid e new (named_so (Err e) new t (h (f d name) next t u)))

    pub name_found : (o : Option Entry) (new : Told) (r : Result Plan Stop) → DoesPart {A = Option Entry} {B = Option Entry} (child_part d.rid bytes) (λ o. o) mid (Ok o) new
        → ((t : State) → Stands next new t → Comes {A = Plan} (f d name o) finish next t new r new) → Comes {A = Plan} (at_place names f) finish next s old r new
    name_found o new r h then' = comes_then (at_place names f) (at_name (d, name)) finish next s old mid r new found
        (λ t u. comes_on (at_name (d, name)) (f d name) finish next t mid o new r new (named_so (Ok o) new t (h (f d name) next t u)) then')
