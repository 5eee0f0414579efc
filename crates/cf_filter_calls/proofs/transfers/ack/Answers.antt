use Rattle.std.specs.Prelude.{false, true}
use Rattle.cf_filter_calls.proofs.Transferred.{acked}
use Rattle.cf_filter_calls.proofs.transfers.ack.Goals as goal

pub returns-then-good : goal.returns-then-good
returns-then-good g c = acked g.S.Steps.sense c.args.ask.now c.args.span c.args.good true c.args.s.now c.vouch.new.s c.vouch.result c.if-good.true c.vouch.ensures

pub returns-else-good : goal.returns-else-good
returns-else-good g c = acked g.S.Steps.sense c.args.ask.now c.args.span c.args.good false c.args.s.now c.disown.new.s c.disown.result c.if-good.false c.disown.ensures
