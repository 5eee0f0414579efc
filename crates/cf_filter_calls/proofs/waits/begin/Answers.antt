use Rattle.cf_filter_steps.specs.Needing.{meant}
use Rattle.cf_filter_calls.proofs.Begun.{begin_down, begin_up}
use Rattle.cf_filter_calls.proofs.waits.begin.Goals as goal

pub returns-then-is_connected : goal.returns-then-is_connected
returns-then-is_connected g c = begin_up g.S.Steps.sense (meant c.args.need.now) c.is_connected.result c.args.s.now c.begin_limited.new.s c.begin_limited.result c.is_connected.ensures c.if-is_connected.true c.requires c.begin_limited.ensures

pub returns-else-is_connected : goal.returns-else-is_connected
returns-else-is_connected g c = begin_down g.S.Steps.sense (meant c.args.need.now) c.is_connected.result c.args.s.now c.is_connected.ensures c.if-is_connected.false
