use Rattle.std.proofs.Common.{ℕ, List, ap, sym, ◌∙◌}
use Rattle.std.specs.Prelude.{Err, Ok, Result}
use denote.Ref.{Bor}
use Rattle.cf_base.specs.declared.answers.Shown.{Shown}
use Rattle.cf_base.specs.declared.ids.Token.{Token}
use Rattle.cf_base.specs.declared.messages.Entry.{Entry}
use Rattle.cf_base.specs.declared.messages.Request.TheVariants as request
use Rattle.cf_model.specs.Arrows.{Arrow}
use Rattle.cf_model.specs.LookUp.{names_of}
use Rattle.cf_model.specs.Peers.{at_parent, below_root, move_at}
use Rattle.cf_model.specs.State.{State}
use Rattle.cf_remote.specs.LookUps.{Comes, finish}
use Rattle.cf_remote.specs.declared.stops.Plan.{Plan}
use Rattle.cf_remote.specs.declared.stops.Plan.TheVariants as plan
use Rattle.cf_remote.specs.declared.stops.Stop.{Stop}
use Rattle.cf_remote.specs.declared.stops.Stop.TheVariants as stop
use Rattle.cf_remote.proofs.PeerParts.{comes_as, comes_ended, comes_lost, comes_then, sends_as, with_stop}
use Rattle.cf_remote.proofs.plans.plan_move.Goals as goal

-- what follows the item that is moved, and the place that it is moved to
abbrev to_place : List ℕ → Entry → Arrow State Shown
to_place to e = at_parent (names_of to) (move_at e)

abbrev to_name : Entry → Entry × List ℕ → Arrow State Shown
to_name e p = move_at e p.0 p.1

pub returns-in_err-entry-clause-plans : goal.returns-in_err-entry-clause-plans
returns-in_err-entry-clause-plans g c next s e st =
    with_stop (λ (r : Result Plan Stop). Comes {A = Plan} (below_root (names_of c.args.from.now) (to_place c.args.to.now)) finish next s (g.R.Remote.told c.args.remote.now) r (g.R.Remote.told c.below_root.new.remote)) c.from_residual.result c.in_err-entry.field-0.0 c.from_residual.ensures.1
    (comes_as (below_root (names_of c.args.from.now) (to_place c.args.to.now)) (below_root (names_of c.as_str-from.result.now) (to_place c.args.to.now)) finish next s (g.R.Remote.told c.args.remote.now) (Err c.in_err-entry.field-0.0) (g.R.Remote.told c.below_root.new.remote) (ap (λ (p : List ℕ). below_root (names_of p) (to_place c.args.to.now)) (sym c.as_str-from.ensures))
    (comes_ended {A = Entry} (below_root (names_of c.as_str-from.result.now) (to_place c.args.to.now)) (to_place c.args.to.now) finish next s (g.R.Remote.told c.args.remote.now) c.in_err-entry.field-0.0 (g.R.Remote.told c.below_root.new.remote) (c.in_err-entry.ensures (to_place c.args.to.now) next s st)))

pub returns-in_err-place-clause-plans : goal.returns-in_err-place-clause-plans
returns-in_err-place-clause-plans g c next s e st =
    with_stop (λ (r : Result Plan Stop). Comes {A = Plan} (below_root (names_of c.args.from.now) (to_place c.args.to.now)) finish next s (g.R.Remote.told c.args.remote.now) r (g.R.Remote.told c.parent.new.remote)) c.from_residual-in_err-place.result c.in_err-place.field-0.0 c.from_residual-in_err-place.ensures.1
    (comes_as (below_root (names_of c.args.from.now) (to_place c.args.to.now)) (below_root (names_of c.as_str-from.result.now) (to_place c.args.to.now)) finish next s (g.R.Remote.told c.args.remote.now) (Err c.in_err-place.field-0.0) (g.R.Remote.told c.parent.new.remote) (ap (λ (p : List ℕ). below_root (names_of p) (to_place c.args.to.now)) (sym c.as_str-from.ensures))
    (comes_then (below_root (names_of c.as_str-from.result.now) (to_place c.args.to.now)) (to_place c.args.to.now c.in_ok-entry.entry) finish next s (g.R.Remote.told c.args.remote.now) (g.R.Remote.told c.below_root.new.remote) (Err c.in_err-place.field-0.0) (g.R.Remote.told c.parent.new.remote) (c.in_ok-entry.ensures (to_place c.args.to.now) next s st)
    (λ t u. comes_as (to_place c.args.to.now c.in_ok-entry.entry) (to_place c.as_str-to.result.now c.in_ok-entry.entry) finish next t (g.R.Remote.told c.below_root.new.remote) (Err c.in_err-place.field-0.0) (g.R.Remote.told c.parent.new.remote) (ap (λ (p : List ℕ). to_place p c.in_ok-entry.entry) (sym c.as_str-to.ensures))
    (comes_ended {A = Entry × Bor (List ℕ)} (to_place c.as_str-to.result.now c.in_ok-entry.entry) (λ (x : Entry × Bor (List ℕ)). to_name c.in_ok-entry.entry (x.0, x.1.now)) finish next t (g.R.Remote.told c.below_root.new.remote) c.in_err-place.field-0.0 (g.R.Remote.told c.parent.new.remote) (c.in_err-place.ensures.part (to_name c.in_ok-entry.entry) next t u)))))

pub returns-in_err-name-clause-plans : goal.returns-in_err-name-clause-plans
returns-in_err-name-clause-plans g c next s e st =
    with_stop (λ (r : Result Plan Stop). Comes {A = Plan} (below_root (names_of c.args.from.now) (to_place c.args.to.now)) finish next s (g.R.Remote.told c.args.remote.now) r (g.R.Remote.told c.parent.new.remote)) c.from_residual-in_err-name.result stop.OutOfMemory c.from_residual-in_err-name.ensures.1
    (comes_as (below_root (names_of c.args.from.now) (to_place c.args.to.now)) (below_root (names_of c.as_str-from.result.now) (to_place c.args.to.now)) finish next s (g.R.Remote.told c.args.remote.now) (Err stop.OutOfMemory) (g.R.Remote.told c.parent.new.remote) (ap (λ (p : List ℕ). below_root (names_of p) (to_place c.args.to.now)) (sym c.as_str-from.ensures))
    (comes_then (below_root (names_of c.as_str-from.result.now) (to_place c.args.to.now)) (to_place c.args.to.now c.in_ok-entry.entry) finish next s (g.R.Remote.told c.args.remote.now) (g.R.Remote.told c.below_root.new.remote) (Err stop.OutOfMemory) (g.R.Remote.told c.parent.new.remote) (c.in_ok-entry.ensures (to_place c.args.to.now) next s st)
    (λ t u. comes_as (to_place c.args.to.now c.in_ok-entry.entry) (to_place c.as_str-to.result.now c.in_ok-entry.entry) finish next t (g.R.Remote.told c.below_root.new.remote) (Err stop.OutOfMemory) (g.R.Remote.told c.parent.new.remote) (ap (λ (p : List ℕ). to_place p c.in_ok-entry.entry) (sym c.as_str-to.ensures))
    (comes_then (to_place c.as_str-to.result.now c.in_ok-entry.entry) (to_name c.in_ok-entry.entry (c.in_ok-place.place.0, c.in_ok-place.place.1.now)) finish next t (g.R.Remote.told c.below_root.new.remote) (g.R.Remote.told c.parent.new.remote) (Err stop.OutOfMemory) (g.R.Remote.told c.parent.new.remote) (c.in_ok-place.ensures.part (to_name c.in_ok-entry.entry) next t u)
    (λ v w. comes_lost (to_name c.in_ok-entry.entry (c.in_ok-place.place.0, c.in_ok-place.place.1.now)) finish next v (g.R.Remote.told c.parent.new.remote))))))

pub returns-clause-plans : goal.returns-clause-plans
returns-clause-plans g c next s e st =
    comes_as (below_root (names_of c.args.from.now) (to_place c.args.to.now)) (below_root (names_of c.as_str-from.result.now) (to_place c.args.to.now)) finish next s (g.R.Remote.told c.args.remote.now) (Ok (plan.Send (request.Move c.args.token c.in_ok-entry.entry.rid c.in_ok-place.place.0.rid c.in_ok-name.name))) (g.R.Remote.told c.parent.new.remote) (ap (λ (p : List ℕ). below_root (names_of p) (to_place c.args.to.now)) (sym c.as_str-from.ensures))
    (comes_then (below_root (names_of c.as_str-from.result.now) (to_place c.args.to.now)) (to_place c.args.to.now c.in_ok-entry.entry) finish next s (g.R.Remote.told c.args.remote.now) (g.R.Remote.told c.below_root.new.remote) (Ok (plan.Send (request.Move c.args.token c.in_ok-entry.entry.rid c.in_ok-place.place.0.rid c.in_ok-name.name))) (g.R.Remote.told c.parent.new.remote) (c.in_ok-entry.ensures (to_place c.args.to.now) next s st)
    (λ t u. comes_as (to_place c.args.to.now c.in_ok-entry.entry) (to_place c.as_str-to.result.now c.in_ok-entry.entry) finish next t (g.R.Remote.told c.below_root.new.remote) (Ok (plan.Send (request.Move c.args.token c.in_ok-entry.entry.rid c.in_ok-place.place.0.rid c.in_ok-name.name))) (g.R.Remote.told c.parent.new.remote) (ap (λ (p : List ℕ). to_place p c.in_ok-entry.entry) (sym c.as_str-to.ensures))
    (comes_then (to_place c.as_str-to.result.now c.in_ok-entry.entry) (to_name c.in_ok-entry.entry (c.in_ok-place.place.0, c.in_ok-place.place.1.now)) finish next t (g.R.Remote.told c.below_root.new.remote) (g.R.Remote.told c.parent.new.remote) (Ok (plan.Send (request.Move c.args.token c.in_ok-entry.entry.rid c.in_ok-place.place.0.rid c.in_ok-name.name))) (g.R.Remote.told c.parent.new.remote) (c.in_ok-place.ensures.part (to_name c.in_ok-entry.entry) next t u)
    (λ v w. sends_as (λ (k : Token). request.Move k c.in_ok-entry.entry.rid c.in_ok-place.place.0.rid c.in_ok-place.place.1.now) (request.Move c.args.token c.in_ok-entry.entry.rid c.in_ok-place.place.0.rid c.in_ok-name.name) c.args.token next v (g.R.Remote.told c.parent.new.remote)
    (ap (request.Move c.args.token c.in_ok-entry.entry.rid c.in_ok-place.place.0.rid) (c.in_ok-name.ensures ∙ c.as_bytes.ensures.value)) e w))))
