use Rattle.std.proofs.Common.{ℕ, List, ap, refl, sym}
use Rattle.std.specs.Prelude.{Err, Ok, Result}
use Rattle.cf_base.specs.declared.messages.Entry.{Entry}
use Rattle.cf_model.specs.LookUp.{names_of}
use Rattle.cf_model.specs.Peers.{at_path, stat_at}
use Rattle.cf_remote.specs.LookUps.{Comes, finish}
use Rattle.cf_remote.specs.declared.stops.Plan.{Plan}
use Rattle.cf_remote.specs.declared.stops.Plan.TheVariants as plan
use Rattle.cf_remote.specs.declared.stops.Stop.{Stop}
use Rattle.cf_remote.proofs.PeerParts.{comes_as, comes_done, comes_ended, comes_then, with_stop}
use Rattle.cf_remote.proofs.plans.plan_stat.Goals as goal

pub returns-in_err-entry-clause-plans : goal.returns-in_err-entry-clause-plans
returns-in_err-entry-clause-plans g c next s e st =
    with_stop (λ (r : Result Plan Stop). Comes {A = Plan} (at_path (names_of c.args.path.now) stat_at) finish next s (g.R.Remote.told c.args.remote.now) r (g.R.Remote.told c.look_up.new.remote)) c.from_residual.result c.in_err-entry.field-0.0 c.from_residual.ensures.1
    (comes_as (at_path (names_of c.args.path.now) stat_at) (at_path (names_of c.as_str.result.now) stat_at) finish next s (g.R.Remote.told c.args.remote.now) (Err c.in_err-entry.field-0.0) (g.R.Remote.told c.look_up.new.remote) (ap (λ (p : List ℕ). at_path (names_of p) stat_at) (sym c.as_str.ensures))
    (comes_ended {A = Entry} (at_path (names_of c.as_str.result.now) stat_at) stat_at finish next s (g.R.Remote.told c.args.remote.now) c.in_err-entry.field-0.0 (g.R.Remote.told c.look_up.new.remote) (c.in_err-entry.ensures stat_at next s st)))

pub returns-clause-plans : goal.returns-clause-plans
returns-clause-plans g c next s e st =
    comes_as (at_path (names_of c.args.path.now) stat_at) (at_path (names_of c.as_str.result.now) stat_at) finish next s (g.R.Remote.told c.args.remote.now) (Ok (plan.Tell c.in_ok-entry.entry.rid c.in_ok-entry.entry.version)) (g.R.Remote.told c.look_up.new.remote) (ap (λ (p : List ℕ). at_path (names_of p) stat_at) (sym c.as_str.ensures))
    (comes_then (at_path (names_of c.as_str.result.now) stat_at) (stat_at c.in_ok-entry.entry) finish next s (g.R.Remote.told c.args.remote.now) (g.R.Remote.told c.look_up.new.remote) (Ok (plan.Tell c.in_ok-entry.entry.rid c.in_ok-entry.entry.version)) (g.R.Remote.told c.look_up.new.remote) (c.in_ok-entry.ensures stat_at next s st)
    (λ t u. comes_done (stat_at c.in_ok-entry.entry) finish next t (g.R.Remote.told c.look_up.new.remote) (plan.Tell c.in_ok-entry.entry.rid c.in_ok-entry.entry.version) refl u))
