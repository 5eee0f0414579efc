use Rattle.cf_engine_steps.proofs.Marked.{marked, not_marked}
use Rattle.cf_engine_steps.proofs.marks.try_mark.Goals as goal

pub returns-then-may : goal.returns-then-may
returns-then-may g c = marked g.S.Steps.sense g.R.Remote.told c.args.item c.args.s.now c.mark.new.s c.args.e.now c.mark.new.e c.mark.result c.args.number c.in_ok-may.may c.in_ok-may.ensures c.if-may.true c.mark.ensures

pub returns-else-may : goal.returns-else-may
returns-else-may g c = not_marked g.S.Steps.sense g.R.Remote.told c.args.item c.args.s.now c.args.e.now c.args.number c.in_ok-may.may c.in_ok-may.ensures c.if-may.false
