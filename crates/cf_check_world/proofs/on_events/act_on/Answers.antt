use Rattle.cf_check_world.proofs.OnSteps.{acted, lost_on}
use Rattle.cf_check_world.proofs.on_events.act_on.Goals as goal

pub returns-in-Ok : goal.returns-in-Ok
returns-in-Ok c = λ next. acted c.args.event.now next c.args.running c.act.new.self c.in-Ok.answer c.requires.other (rw c.in-Ok.is at c.act.ensures.steps) (rw c.in-Ok.is at c.act.ensures.counts)

pub returns-in-Err : goal.returns-in-Err
returns-in-Err c = λ next. lost_on c.args.event.now next c.args.running c.in-Err.memory
