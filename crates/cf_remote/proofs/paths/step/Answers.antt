use Rattle.std.specs.Prelude.{Result}
use Rattle.cf_base.specs.declared.messages.Entry.{Entry}
use Rattle.cf_model.specs.Peers.{if_found, in_dir}
use Rattle.cf_remote.specs.LookUps.{Comes}
use Rattle.cf_remote.specs.declared.stops.Stop.{Stop}
use Rattle.cf_remote.proofs.PeerParts.{child_part, step_ended, step_found, step_missing, with_stop}
use Rattle.cf_remote.proofs.paths.step.Goals as goal

pub returns-in_err-found : goal.returns-in_err-found
returns-in_err-found g c f next s st =
    with_stop (λ (r : Result Entry Stop). Comes {A = Entry} (in_dir c.args.at.now (child_part c.args.at.now.rid c.args.name.now (if_found f))) f next s (g.R.Remote.told c.args.remote.now) r (g.R.Remote.told c.child.new.remote)) c.from_residual.result c.in_err-found.field-0.0 c.from_residual.ensures.1
    (step_ended f c.args.at.now c.args.name.now next s (g.R.Remote.told c.args.remote.now) c.in_err-found.field-0.0 (g.R.Remote.told c.child.new.remote) c.if-not-at.false (c.in_err-found.ensures (if_found f) next s st))

pub returns-in-None : goal.returns-in-None
returns-in-None g c f next s st =
    step_missing f c.args.at.now c.args.name.now next s (g.R.Remote.told c.args.remote.now) c.in_ok-found.found (g.R.Remote.told c.child.new.remote) c.if-not-at.false c.in-None.is (c.in_ok-found.ensures (if_found f) next s st)

pub returns-in-Some : goal.returns-in-Some
returns-in-Some g c f next s st =
    step_found f c.args.at.now c.args.name.now next s (g.R.Remote.told c.args.remote.now) c.in_ok-found.found c.in-Some.entry (g.R.Remote.told c.child.new.remote) c.if-not-at.false c.in-Some.is (c.in_ok-found.ensures (if_found f) next s st)
