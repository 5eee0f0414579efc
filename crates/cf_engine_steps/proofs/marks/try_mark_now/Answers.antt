use Rattle.cf_engine_steps.proofs.Marked.{marked_now}
use Rattle.cf_engine_steps.proofs.marks.try_mark_now.Goals as goal

pub returns : goal.returns
returns g c = marked_now g.S.Steps.sense g.R.Remote.told c.args.item c.args.s.now c.try_mark.new.s c.args.e.now c.try_mark.new.e c.try_mark.result c.number_of-number.result c.number_of-number.ensures c.try_mark.ensures
