use Rattle.std.proofs.Common.{ℕ, List, ap, refl, sym}
use Rattle.std.specs.Prelude.{Err, Ok, Result}
use Rattle.cf_base.specs.declared.messages.Entry.{Entry}
use Rattle.cf_base.specs.declared.ids.Token.{Token}
use Rattle.cf_base.specs.declared.messages.Request.TheVariants as request
use Rattle.cf_model.specs.LookUp.{names_of}
use Rattle.cf_model.specs.Peers.{below_root, remove_at}
use Rattle.cf_remote.specs.LookUps.{Comes, finish}
use Rattle.cf_remote.specs.declared.stops.Plan.{Plan}
use Rattle.cf_remote.specs.declared.stops.Plan.TheVariants as plan
use Rattle.cf_remote.specs.declared.stops.Stop.{Stop}
use Rattle.cf_remote.proofs.PeerParts.{comes_as, comes_ended, comes_then, sends_as, with_stop}
use Rattle.cf_remote.proofs.plans.plan_remove.Goals as goal

pub returns-in_err-entry-clause-plans : goal.returns-in_err-entry-clause-plans
returns-in_err-entry-clause-plans g c next s e st =
    with_stop (λ (r : Result Plan Stop). Comes {A = Plan} (below_root (names_of c.args.path.now) remove_at) finish next s (g.R.Remote.told c.args.remote.now) r (g.R.Remote.told c.below_root.new.remote)) c.from_residual.result c.in_err-entry.field-0.0 c.from_residual.ensures.1
    (comes_as (below_root (names_of c.args.path.now) remove_at) (below_root (names_of c.as_str.result.now) remove_at) finish next s (g.R.Remote.told c.args.remote.now) (Err c.in_err-entry.field-0.0) (g.R.Remote.told c.below_root.new.remote) (ap (λ (p : List ℕ). below_root (names_of p) remove_at) (sym c.as_str.ensures))
    (comes_ended {A = Entry} (below_root (names_of c.as_str.result.now) remove_at) remove_at finish next s (g.R.Remote.told c.args.remote.now) c.in_err-entry.field-0.0 (g.R.Remote.told c.below_root.new.remote) (c.in_err-entry.ensures remove_at next s st)))

pub returns-clause-plans : goal.returns-clause-plans
returns-clause-plans g c next s e st =
    comes_as (below_root (names_of c.args.path.now) remove_at) (below_root (names_of c.as_str.result.now) remove_at) finish next s (g.R.Remote.told c.args.remote.now) (Ok (plan.Send (request.Remove c.args.token c.in_ok-entry.entry.rid c.in_ok-entry.entry.version))) (g.R.Remote.told c.below_root.new.remote) (ap (λ (p : List ℕ). below_root (names_of p) remove_at) (sym c.as_str.ensures))
    (comes_then (below_root (names_of c.as_str.result.now) remove_at) (remove_at c.in_ok-entry.entry) finish next s (g.R.Remote.told c.args.remote.now) (g.R.Remote.told c.below_root.new.remote) (Ok (plan.Send (request.Remove c.args.token c.in_ok-entry.entry.rid c.in_ok-entry.entry.version))) (g.R.Remote.told c.below_root.new.remote) (c.in_ok-entry.ensures remove_at next s st)
    (λ t u. sends_as (λ (k : Token). request.Remove k c.in_ok-entry.entry.rid c.in_ok-entry.entry.version) (request.Remove c.args.token c.in_ok-entry.entry.rid c.in_ok-entry.entry.version) c.args.token next t (g.R.Remote.told c.below_root.new.remote) refl e u))
