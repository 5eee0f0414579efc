use Rattle.cf_filter_calls.proofs.Transferred.{vouched}
use Rattle.cf_filter_calls.proofs.transfers.vouch.Goals as goal

pub returns : goal.returns
returns g c = vouched g.S.Steps.sense c.args.ask.now c.args.span c.touched_blocks-blocks.result c.args.s.now c.operate.new.s c.operate.result c.requires.near c.touched_blocks-blocks.ensures.blocks c.operate.ensures
