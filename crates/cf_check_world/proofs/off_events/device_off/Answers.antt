use Rattle.cf_check_world.proofs.OffSteps.{crash_off, stop_off}
use Rattle.cf_check_world.proofs.off_events.device_off.Goals as goal

pub returns-in-Stop : goal.returns-in-Stop
returns-in-Stop c = rw c.in-Stop.is (rw c.plainly.ensures (stop_off _ c.args.aim c.args.resting))

pub returns-in-Crash : goal.returns-in-Crash
returns-in-Crash c = rw c.in-Crash.is (rw c.plainly-in-Crash.ensures (crash_off _ c.args.aim c.args.resting))

pub returns-in-Restart : goal.returns-in-Restart
returns-in-Restart c = rw c.in-Restart.is c.restart_off.ensures
