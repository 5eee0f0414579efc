use Rattle.cf_engine_passes.proofs.CountedLeft.{at_rest, in_hand, unless_out}
use Rattle.cf_engine_passes.proofs.unsettled.is_left.Goals as goal

pub returns-then-is_at_rest : goal.returns-then-is_at_rest
returns-then-is_at_rest g c = at_rest g.S.Steps.sense c.args.s.now c.args.row.now c.is_at_rest.result c.is_at_rest.ensures c.if-is_at_rest.true

pub returns-then-in_use : goal.returns-then-in_use
returns-then-in_use g c = in_hand g.S.Steps.sense c.args.s.now c.args.row.now c.is_at_rest.result c.is_at_rest.ensures c.in_use.result c.in_use.ensures c.if-is_at_rest.false c.if-in_use.true

pub returns : goal.returns
returns g c = unless_out g.S.Steps.sense c.args.s.now c.args.row.now c.is_at_rest.result c.is_at_rest.ensures c.in_use.result c.in_use.ensures c.if-is_at_rest.false c.is_excluded-excluded.result c.rows.result.now c.if-in_use.false c.rows.ensures.means c.is_excluded-excluded.ensures
