use Rattle.cf_filter_calls.proofs.Transferred.{disowned}
use Rattle.cf_filter_calls.proofs.transfers.disown.Goals as goal

pub returns : goal.returns
returns g c = disowned g.S.Steps.sense c.args.ask.now c.args.span c.touched_blocks.result c.args.s.now c.operate.new.s c.operate.result c.requires.near c.touched_blocks.ensures.blocks c.operate.ensures
