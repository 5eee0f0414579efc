use Rattle.cf_check_world.proofs.OnSteps.{crash_on, restart_on, stop_on}
use Rattle.cf_check_world.proofs.on_events.device_on.Goals as goal

pub returns-in-Stop : goal.returns-in-Stop
returns-in-Stop c = rw c.in-Stop.is (rw c.plainly.ensures (λ next. stop_on _ next c.args.running))

pub returns-in-Crash : goal.returns-in-Crash
returns-in-Crash c = rw c.in-Crash.is (rw c.plainly-in-Crash.ensures (rw c.crashed.ensures (λ next. crash_on _ next c.args.running)))

pub returns-in-Restart : goal.returns-in-Restart
returns-in-Restart c = rw c.in-Restart.is (rw c.refused.ensures (λ next. restart_on next c.args.running))
