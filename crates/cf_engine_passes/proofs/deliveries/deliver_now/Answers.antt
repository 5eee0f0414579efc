use Rattle.cf_engine_passes.proofs.Delivered.{kept}
use Rattle.cf_engine_passes.proofs.deliveries.deliver_now.Goals as goal

pub returns-in-Ok : goal.returns-in-Ok
returns-in-Ok g c = kept g.S.Steps.sense g.R.Remote.told c.args.message c.args.s.now c.args.e.now c.link.result.now c.reply.result c.reply.ensures c.link.ensures c.in-Ok.replied c.unless_stale-done.new.s c.unless_stale-done.new.e c.unless_stale-done.result c.in-Ok.is c.unless_stale-done.ensures
