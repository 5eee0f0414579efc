use Rattle.cf_engine_steps.specs.Answering.{Any}
use Rattle.cf_engine_steps.specs.States.{whole}
use Rattle.cf_engine_steps.proofs.Laws.{reads_on}
use Rattle.cf_model.specs.Messages.{is_stale}
use Rattle.cf_model.specs.Passes.{deliver_unless}
use Rattle.cf_engine_passes.proofs.deliveries.unless_stale.Goals as goal

pub returns-in-Ok : goal.returns-in-Ok
returns-in-Ok g c = reads_on (whole g.S.Steps.sense g.R.Remote.told) Any (is_stale c.args.request.now c.args.reply) (deliver_unless c.args.reply) (c.args.s.now, c.args.e.now) (c.deliver_unless.new.s, c.deliver_unless.new.e) c.in-Ok.stale c.deliver_unless.result c.in-Ok.ensures c.deliver_unless.ensures
