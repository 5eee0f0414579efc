use Rattle.cf_filter_calls.proofs.Policed.{told_blocks}
use Rattle.cf_filter_calls.proofs.policies.df.Goals as goal

pub returns : goal.returns
returns g c = told_blocks g.S.Steps.sense c.used_blocks-blocks.result c.args.s.now c.used_blocks-blocks.ensures
