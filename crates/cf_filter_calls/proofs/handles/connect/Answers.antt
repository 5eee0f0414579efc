use Rattle.std.specs.Prelude.{false, true}
use Rattle.cf_filter_calls.proofs.Opened.{linked}
use Rattle.cf_filter_calls.proofs.handles.connect.Goals as goal

pub returns-then-on : goal.returns-then-on
returns-then-on g c = linked g.S.Steps.sense c.args.on true c.args.s.now c.link_up.new.s c.link_up.result c.if-on.true c.link_up.ensures

pub returns-else-on : goal.returns-else-on
returns-else-on g c = linked g.S.Steps.sense c.args.on false c.args.s.now c.link_down.new.s c.link_down.result c.if-on.false c.link_down.ensures
