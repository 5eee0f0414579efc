use Rattle.cf_engine_steps.proofs.Linking.{inline_read}
use Rattle.cf_engine_steps.proofs.messages.is_inline.Goals as goal

pub returns : goal.returns
returns g c = inline_read g.S.Steps.sense g.R.Remote.told c.args.s.now c.args.e.now c.is_inline.result c.is_inline.ensures
