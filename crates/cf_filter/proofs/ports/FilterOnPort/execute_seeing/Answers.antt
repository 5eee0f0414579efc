use Rattle.std.proofs.Common.{subst, sym}
use Rattle.cf_filter.proofs.Ported.{not_begun}
use Rattle.cf_engine_queue.specs.Records.{AreSeen}
use Rattle.cf_filter.proofs.ports.FilterOnPort.execute_seeing.Goals as goal

pub returns-in_err-records : goal.returns-in_err-records
returns-in_err-records g c = not_begun g.G.Ground.state c.args.self.now c.args.seen.now c.args.op.now _ c.from_residual.ensures.1

pub returns : goal.returns
returns g c = c.execute_beside.ensures c.args.seen.now (subst (AreSeen c.args.seen.now) (sym c.as_slice.ensures) c.in_ok-records.ensures)
