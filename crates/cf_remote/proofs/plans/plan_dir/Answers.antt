use Rattle.std.proofs.Common.{ℕ, List, ap, sym, ◌∙◌}
use Rattle.std.specs.Prelude.{Err, Ok, Result}
use denote.Ref.{Bor}
use Rattle.cf_base.specs.declared.messages.Entry.{Entry}
use Rattle.cf_base.specs.declared.ids.Token.{Token}
use Rattle.cf_base.specs.declared.messages.Request.TheVariants as request
use Rattle.cf_model.specs.LookUp.{names_of}
use Rattle.cf_model.specs.Peers.{at_place, make_at}
use Rattle.cf_remote.specs.LookUps.{Comes, finish}
use Rattle.cf_remote.specs.declared.stops.Plan.{Plan}
use Rattle.cf_remote.specs.declared.stops.Plan.TheVariants as plan
use Rattle.cf_remote.specs.declared.stops.Stop.{Stop}
use Rattle.cf_remote.specs.declared.stops.Stop.TheVariants as stop
use Rattle.cf_remote.proofs.PeerParts.{comes_as, comes_ended, comes_lost, sends_as, with_stop}
use Rattle.cf_remote.proofs.PeerPlans.{at_name, name_ended, name_found}
use Rattle.cf_remote.proofs.plans.plan_dir.Goals as goal

pub returns-in_err-place-clause-plans : goal.returns-in_err-place-clause-plans
returns-in_err-place-clause-plans g c next s e st =
    with_stop (λ (r : Result Plan Stop). Comes {A = Plan} (at_place (names_of c.args.path.now) make_at) finish next s (g.R.Remote.told c.args.remote.now) r (g.R.Remote.told c.parent.new.remote)) c.from_residual.result c.in_err-place.field-0.0 c.from_residual.ensures.1
    (comes_as (at_place (names_of c.args.path.now) make_at) (at_place (names_of c.as_str.result.now) make_at) finish next s (g.R.Remote.told c.args.remote.now) (Err c.in_err-place.field-0.0) (g.R.Remote.told c.parent.new.remote) (ap (λ (p : List ℕ). at_place (names_of p) make_at) (sym c.as_str.ensures))
    (comes_ended {A = Entry × Bor (List ℕ)} (at_place (names_of c.as_str.result.now) make_at) (λ (x : Entry × Bor (List ℕ)). at_name make_at (x.0, x.1.now)) finish next s (g.R.Remote.told c.args.remote.now) c.in_err-place.field-0.0 (g.R.Remote.told c.parent.new.remote) (c.in_err-place.ensures.part (at_name make_at) next s st)))

pub returns-in_err-child-clause-plans : goal.returns-in_err-child-clause-plans
returns-in_err-child-clause-plans g c next s e st =
    with_stop (λ (r : Result Plan Stop). Comes {A = Plan} (at_place (names_of c.args.path.now) make_at) finish next s (g.R.Remote.told c.args.remote.now) r (g.R.Remote.told c.child.new.remote)) c.from_residual-in_err-child.result c.in_err-child.field-0.0 c.from_residual-in_err-child.ensures.1
    (comes_as (at_place (names_of c.args.path.now) make_at) (at_place (names_of c.as_str.result.now) make_at) finish next s (g.R.Remote.told c.args.remote.now) (Err c.in_err-child.field-0.0) (g.R.Remote.told c.child.new.remote) (ap (λ (p : List ℕ). at_place (names_of p) make_at) (sym c.as_str.ensures))
    (name_ended make_at c.in_ok-place.place.0 c.in_ok-place.place.1.now (names_of c.as_str.result.now) next s (g.R.Remote.told c.args.remote.now) (g.R.Remote.told c.parent.new.remote) (c.in_ok-place.ensures.part (at_name make_at) next s st)
    c.as_bytes-name.result.now c.as_bytes-name.ensures.value
    c.in_err-child.field-0.0 (g.R.Remote.told c.child.new.remote) c.in_err-child.ensures))

pub returns-in_err-name-clause-plans : goal.returns-in_err-name-clause-plans
returns-in_err-name-clause-plans g c next s e st =
    with_stop (λ (r : Result Plan Stop). Comes {A = Plan} (at_place (names_of c.args.path.now) make_at) finish next s (g.R.Remote.told c.args.remote.now) r (g.R.Remote.told c.child.new.remote)) c.from_residual-in_err-name.result stop.OutOfMemory c.from_residual-in_err-name.ensures.1
    (comes_as (at_place (names_of c.args.path.now) make_at) (at_place (names_of c.as_str.result.now) make_at) finish next s (g.R.Remote.told c.args.remote.now) (Err stop.OutOfMemory) (g.R.Remote.told c.child.new.remote) (ap (λ (p : List ℕ). at_place (names_of p) make_at) (sym c.as_str.ensures))
    (name_found make_at c.in_ok-place.place.0 c.in_ok-place.place.1.now (names_of c.as_str.result.now) next s (g.R.Remote.told c.args.remote.now) (g.R.Remote.told c.parent.new.remote) (c.in_ok-place.ensures.part (at_name make_at) next s st)
    c.as_bytes-name.result.now c.as_bytes-name.ensures.value
    c.in_ok-child.field-0 (g.R.Remote.told c.child.new.remote) (Err stop.OutOfMemory) c.in_ok-child.ensures
    (λ t u. comes_lost (make_at c.in_ok-place.place.0 c.in_ok-place.place.1.now c.in_ok-child.field-0) finish next t (g.R.Remote.told c.child.new.remote))))

pub returns-clause-plans : goal.returns-clause-plans
returns-clause-plans g c next s e st =
    comes_as (at_place (names_of c.args.path.now) make_at) (at_place (names_of c.as_str.result.now) make_at) finish next s (g.R.Remote.told c.args.remote.now) (Ok (plan.Send (request.MakeDir c.args.token c.in_ok-place.place.0.rid c.in_ok-name.name))) (g.R.Remote.told c.child.new.remote) (ap (λ (p : List ℕ). at_place (names_of p) make_at) (sym c.as_str.ensures))
    (name_found make_at c.in_ok-place.place.0 c.in_ok-place.place.1.now (names_of c.as_str.result.now) next s (g.R.Remote.told c.args.remote.now) (g.R.Remote.told c.parent.new.remote) (c.in_ok-place.ensures.part (at_name make_at) next s st)
    c.as_bytes-name.result.now c.as_bytes-name.ensures.value
    c.in_ok-child.field-0 (g.R.Remote.told c.child.new.remote) (Ok (plan.Send (request.MakeDir c.args.token c.in_ok-place.place.0.rid c.in_ok-name.name))) c.in_ok-child.ensures
    (λ t u. sends_as (λ (k : Token). request.MakeDir k c.in_ok-place.place.0.rid c.in_ok-place.place.1.now) (request.MakeDir c.args.token c.in_ok-place.place.0.rid c.in_ok-name.name) c.args.token next t (g.R.Remote.told c.child.new.remote)
    (ap (request.MakeDir c.args.token c.in_ok-place.place.0.rid) (c.in_ok-name.ensures ∙ c.as_bytes-name.ensures.value)) e u))
