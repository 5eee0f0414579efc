use Rattle.std.specs.Prelude.{Err, Ok, Option, Result}
use Rattle.cf_base.specs.declared.messages.Entry.{Entry}
use Rattle.cf_remote.specs.LookUps.{Comes}
use Rattle.cf_remote.specs.Stops.{stop_of}
use Rattle.cf_remote.specs.declared.stops.Stop.{Stop}
use Rattle.cf_remote.proofs.PeerParts.{child_comes, child_part, with_stop}
use Rattle.cf_remote.proofs.paths.child.Goals as goal

pub returns-in_err-found : goal.returns-in_err-found
returns-in_err-found g c f next s st =
    with_stop (λ (r : Result (Option Entry) Stop). Comes (child_part c.args.directory c.args.name.now f) f next s (g.R.Remote.told c.args.remote.now) r (g.R.Remote.told c.find.new.self)) c.from_residual.result (stop_of c.in_err-found.field-0.0) c.from_residual.ensures.1
    (child_comes f c.args.directory c.args.name.now next s (g.R.Remote.told c.args.remote.now) (g.R.Remote.told c.find.new.self) st (Err c.in_err-found.field-0.0) c.in_err-found.ensures)

pub returns : goal.returns
returns g c f next s st =
    child_comes f c.args.directory c.args.name.now next s (g.R.Remote.told c.args.remote.now) (g.R.Remote.told c.find.new.self) st (Ok c.in_ok-found.found) c.in_ok-found.ensures
