use Rattle.cf_engine_space.proofs.Freed.{has_numbers, lacking}
use Rattle.cf_engine_space.proofs.spaces.carried_out.Goals as goal

pub returns-then-branch : goal.returns-then-branch
returns-then-branch g c = lacking g.S.Steps.sense g.R.Remote.told c.args.s.now c.args.e.now c.args.ids.now c.in_ok-lacks_numbers.field-0 c.in_ok-lacks_numbers.ensures c.if-branch.true

pub returns : goal.returns
returns g c = has_numbers g.S.Steps.sense g.R.Remote.told c.args.s.now c.args.e.now c.args.ids.now c.in_ok-lacks_numbers.field-0 c.in_ok-lacks_numbers.ensures c.freed.new.s c.freed.new.e c.freed.result c.if-branch.false c.freed.ensures
