use Rattle.std.proofs.Common.{refl}
use Rattle.cf_filter_calls.proofs.Opened.{ended}
use Rattle.cf_filter_calls.proofs.handles.end_waits.Goals as goal

pub returns : goal.returns
returns g c = ended g.S.Steps.sense c.args.handle c.args.item c.is_open-last.result _ c.args.s.now c.settle.new.s c.settle.result c.is_open-last.ensures refl c.settle.ensures
