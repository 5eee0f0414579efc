use Rattle.std.proofs.Common.{sym}
use Rattle.std.specs.Prelude.{Result}
use Rattle.cf_base.specs.declared.messages.Entry.{Entry}
use Rattle.cf_model.specs.LookUp.{names_of}
use Rattle.cf_model.specs.Peers.{look, root_entry}
use Rattle.cf_remote.specs.LookUps.{Comes}
use Rattle.cf_remote.specs.declared.stops.Stop.{Stop}
use Rattle.cf_remote.proofs.PeerParts.{comes_done, with_stop}
use Rattle.cf_remote.proofs.PeerWalks.{look_step, walk_done, walk_ended, walk_on}
use Rattle.cf_remote.proofs.paths.walk.Goals as goal

pub loop-name-init : goal.loop-name-init
loop-name-init g c f next s st =
    comes_done (look f root_entry (names_of c.args.path.now)) (λ (e : Entry). look f e c.of-names.result) next s (g.R.Remote.told c.args.remote.now) c.root-at.result (λ i. look f (sym c.root-at.ensures i) (sym c.of-names.ensures i)) st

pub loop-name-preserved : goal.loop-name-preserved
loop-name-preserved g c f next s st =
    walk_on (look f root_entry (names_of c.args.path.now)) (look f c.loop-name.at c.loop-name.names) next s (g.R.Remote.told c.args.remote.now) c.loop-name.at (g.R.Remote.told c.loop-name.remote) c.as_bytes.result.now (λ (e : Entry). look f e c.next.new.self)
    (c.loop-name.invariant f next s st) (look_step f c.loop-name.at c.loop-name.names c.as_bytes.result.now c.in-Some.name.now c.next.new.self c.in-Some.ensures c.as_bytes.ensures.value)
    c.in_ok-at.at (g.R.Remote.told c.step.new.remote) c.in_ok-at.ensures

pub returns-in_err-at : goal.returns-in_err-at
returns-in_err-at g c f next s st =
    with_stop (λ (r : Result Entry Stop). Comes {A = Entry} (look f root_entry (names_of c.args.path.now)) f next s (g.R.Remote.told c.args.remote.now) r (g.R.Remote.told c.step.new.remote)) c.from_residual.result c.in_err-at.field-0.0 c.from_residual.ensures.1
    (walk_ended (look f root_entry (names_of c.args.path.now)) (look f c.loop-name.at c.loop-name.names) next s (g.R.Remote.told c.args.remote.now) c.loop-name.at (g.R.Remote.told c.loop-name.remote) c.as_bytes.result.now (λ (e : Entry). look f e c.next.new.self)
    (c.loop-name.invariant f next s st) (look_step f c.loop-name.at c.loop-name.names c.as_bytes.result.now c.in-Some.name.now c.next.new.self c.in-Some.ensures c.as_bytes.ensures.value)
    f c.in_err-at.field-0.0 (g.R.Remote.told c.step.new.remote) c.in_err-at.ensures)

pub returns : goal.returns
returns g c f next s st =
    walk_done (look f root_entry (names_of c.args.path.now)) f next s (g.R.Remote.told c.args.remote.now) c.loop-name.at (g.R.Remote.told c.loop-name.remote) c.loop-name.names (c.loop-name.invariant f next s st) c.in_default.ensures.0
