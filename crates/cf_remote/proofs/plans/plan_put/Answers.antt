use Rattle.std.proofs.Common.{ℕ, List, ap, sym}
use Rattle.std.specs.Prelude.{Err, None, Result, Some}
use denote.Ref.{Bor}
use Rattle.cf_base.specs.declared.messages.Entry.{Entry}
use Rattle.cf_model.specs.LookUp.{names_of}
use Rattle.cf_model.specs.Peers.{at_place, put_at}
use Rattle.cf_remote.specs.LookUps.{Comes, finish}
use Rattle.cf_remote.specs.declared.stops.Plan.{Plan}
use Rattle.cf_remote.specs.declared.stops.Stop.{Stop}
use Rattle.cf_remote.proofs.PeerParts.{comes_as, comes_ended, with_stop}
use Rattle.cf_remote.proofs.PeerPlans.{at_name, name_ended, name_found}
use Rattle.cf_remote.proofs.plans.plan_put.Goals as goal

pub returns-in_err-place-clause-plans : goal.returns-in_err-place-clause-plans
returns-in_err-place-clause-plans g c next s e st =
    with_stop (λ (r : Result Plan Stop). Comes {A = Plan} (at_place (names_of c.args.path.now) (put_at c.args.bytes.now)) finish next s (g.R.Remote.told c.args.remote.now) r (g.R.Remote.told c.parent.new.remote)) c.from_residual.result c.in_err-place.field-0.0 c.from_residual.ensures.1
    (comes_as (at_place (names_of c.args.path.now) (put_at c.args.bytes.now)) (at_place (names_of c.as_str.result.now) (put_at c.args.bytes.now)) finish next s (g.R.Remote.told c.args.remote.now) (Err c.in_err-place.field-0.0) (g.R.Remote.told c.parent.new.remote) (ap (λ (p : List ℕ). at_place (names_of p) (put_at c.args.bytes.now)) (sym c.as_str.ensures))
    (comes_ended {A = Entry × Bor (List ℕ)} (at_place (names_of c.as_str.result.now) (put_at c.args.bytes.now)) (λ (x : Entry × Bor (List ℕ)). at_name (put_at c.args.bytes.now) (x.0, x.1.now)) finish next s (g.R.Remote.told c.args.remote.now) c.in_err-place.field-0.0 (g.R.Remote.told c.parent.new.remote) (c.in_err-place.ensures.part (at_name (put_at c.args.bytes.now)) next s st)))

pub returns-in_err-found-clause-plans : goal.returns-in_err-found-clause-plans
returns-in_err-found-clause-plans g c next s e st =
    with_stop (λ (r : Result Plan Stop). Comes {A = Plan} (at_place (names_of c.args.path.now) (put_at c.args.bytes.now)) finish next s (g.R.Remote.told c.args.remote.now) r (g.R.Remote.told c.child.new.remote)) c.from_residual-in_err-found.result c.in_err-found.field-0.0 c.from_residual-in_err-found.ensures.1
    (comes_as (at_place (names_of c.args.path.now) (put_at c.args.bytes.now)) (at_place (names_of c.as_str.result.now) (put_at c.args.bytes.now)) finish next s (g.R.Remote.told c.args.remote.now) (Err c.in_err-found.field-0.0) (g.R.Remote.told c.child.new.remote) (ap (λ (p : List ℕ). at_place (names_of p) (put_at c.args.bytes.now)) (sym c.as_str.ensures))
    (name_ended (put_at c.args.bytes.now) c.in_ok-place.place.0 c.in_ok-place.place.1.now (names_of c.as_str.result.now) next s (g.R.Remote.told c.args.remote.now) (g.R.Remote.told c.parent.new.remote) (c.in_ok-place.ensures.part (at_name (put_at c.args.bytes.now)) next s st)
    c.as_bytes-name.result.now c.as_bytes-name.ensures.value
    c.in_err-found.field-0.0 (g.R.Remote.told c.child.new.remote) c.in_err-found.ensures))

pub returns-in-None-clause-plans : goal.returns-in-None-clause-plans
returns-in-None-clause-plans g c next s e st =
    comes_as (at_place (names_of c.args.path.now) (put_at c.args.bytes.now)) (at_place (names_of c.as_str.result.now) (put_at c.args.bytes.now)) finish next s (g.R.Remote.told c.args.remote.now) c.plan_file.result (g.R.Remote.told c.child.new.remote) (ap (λ (p : List ℕ). at_place (names_of p) (put_at c.args.bytes.now)) (sym c.as_str.ensures))
    (name_found (put_at c.args.bytes.now) c.in_ok-place.place.0 c.in_ok-place.place.1.now (names_of c.as_str.result.now) next s (g.R.Remote.told c.args.remote.now) (g.R.Remote.told c.parent.new.remote) (c.in_ok-place.ensures.part (at_name (put_at c.args.bytes.now)) next s st)
    c.as_bytes-name.result.now c.as_bytes-name.ensures.value
    c.in_ok-found.found (g.R.Remote.told c.child.new.remote) c.plan_file.result c.in_ok-found.ensures
    (λ t u. comes_as (put_at c.args.bytes.now c.in_ok-place.place.0 c.in_ok-place.place.1.now c.in_ok-found.found) (put_at c.args.bytes.now c.in_ok-place.place.0 c.as_bytes-name.result.now None) finish next t
    (g.R.Remote.told c.child.new.remote) c.plan_file.result (g.R.Remote.told c.child.new.remote)
    (λ i. put_at c.args.bytes.now c.in_ok-place.place.0 (sym c.as_bytes-name.ensures.value i) (c.in-None.is i))
    (c.plan_file.ensures.plans next t (g.R.Remote.told c.child.new.remote) e u)))

pub returns-in-Some-clause-plans : goal.returns-in-Some-clause-plans
returns-in-Some-clause-plans g c next s e st =
    comes_as (at_place (names_of c.args.path.now) (put_at c.args.bytes.now)) (at_place (names_of c.as_str.result.now) (put_at c.args.bytes.now)) finish next s (g.R.Remote.told c.args.remote.now) c.plan_version-plan.result (g.R.Remote.told c.child.new.remote) (ap (λ (p : List ℕ). at_place (names_of p) (put_at c.args.bytes.now)) (sym c.as_str.ensures))
    (name_found (put_at c.args.bytes.now) c.in_ok-place.place.0 c.in_ok-place.place.1.now (names_of c.as_str.result.now) next s (g.R.Remote.told c.args.remote.now) (g.R.Remote.told c.parent.new.remote) (c.in_ok-place.ensures.part (at_name (put_at c.args.bytes.now)) next s st)
    c.as_bytes-name.result.now c.as_bytes-name.ensures.value
    c.in_ok-found.found (g.R.Remote.told c.child.new.remote) c.plan_version-plan.result c.in_ok-found.ensures
    (λ t u. comes_as (put_at c.args.bytes.now c.in_ok-place.place.0 c.in_ok-place.place.1.now c.in_ok-found.found) (put_at c.args.bytes.now c.in_ok-place.place.0 c.as_bytes-name.result.now (Some c.in-Some.entry)) finish next t
    (g.R.Remote.told c.child.new.remote) c.plan_version-plan.result (g.R.Remote.told c.child.new.remote)
    (λ i. put_at c.args.bytes.now c.in_ok-place.place.0 (sym c.as_bytes-name.ensures.value i) (c.in-Some.is i))
    (c.plan_version-plan.ensures.plans next t (g.R.Remote.told c.child.new.remote) e u)))
