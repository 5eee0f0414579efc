use Rattle.cf_engine_steps.specs.States.{whole}
use Rattle.cf_engine_passes.proofs.Delivered.{fresh, stale}
use Rattle.cf_engine_passes.proofs.deliveries.deliver_unless.Goals as goal

pub returns-then-stale : goal.returns-then-stale
returns-then-stale g c = stale (whole g.S.Steps.sense g.R.Remote.told) c.args.reply (c.args.s.now, c.args.e.now) c.args.stale c.if-stale.true

pub returns : goal.returns
returns g c = fresh (whole g.S.Steps.sense g.R.Remote.told) c.args.reply (c.args.s.now, c.args.e.now) (c.delivered.new.s, c.delivered.new.e) c.args.stale c.delivered.result c.if-stale.false c.delivered.ensures
