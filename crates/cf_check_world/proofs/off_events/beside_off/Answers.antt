use Rattle.cf_check_world.proofs.OffSteps.{beside, lost_off}
use Rattle.cf_check_world.proofs.off_events.beside_off.Goals as goal

pub returns-in-Ok : goal.returns-in-Ok
returns-in-Ok c = λ next. beside c.args.event.now next c.args.resting c.act_off.new.actor c.in-Ok.answer c.requires.other (rw c.in-Ok.is at c.act_off.ensures)

pub returns-in-Err : goal.returns-in-Err
returns-in-Err c = λ next. lost_off c.args.event.now next c.args.resting c.in-Err.memory
