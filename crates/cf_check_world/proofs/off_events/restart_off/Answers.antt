use Rattle.std.proofs.Common.{arith}
use Rattle.cf_check_world.proofs.OffSteps.{exhausted, restarted}
use Rattle.cf_check_world.proofs.off_events.restart_off.Goals as goal

pub returns-then-epoch : goal.returns-then-epoch
returns-then-epoch c = rw c.refused.ensures (exhausted c.args.aim c.args.resting (omega (arith, c.epoch.ensures, c.if-epoch.true)))

pub returns-in-Ok : goal.returns-in-Ok
returns-in-Ok c =
    restarted c.args.aim c.args.resting c.in-Ok.volume (omega (arith, c.epoch.ensures, c.if-epoch.false, c.epoch.type_inv)) c.in-Ok.ensures.ground c.in-Ok.ensures.usable c.in-Ok.ensures.ok c.reopened.result.1 c.reopened.result.0 c.reopened.ensures
