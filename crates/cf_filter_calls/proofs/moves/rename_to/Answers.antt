use Rattle.cf_filter_calls.proofs.Moved.{move_off, move_on}
use Rattle.cf_filter_calls.proofs.moves.rename_to.Goals as goal

pub returns-in-Ok : goal.returns-in-Ok
returns-in-Ok g c = move_on g.S.Steps.sense c.args.id c.args.parent c.args.name.now c.rows.result.now c.check_move.result c.in-Ok.field-0 c.args.s.now c.move_now.new.s c.move_now.result c.rows.ensures.means c.check_move.ensures c.in-Ok.is c.move_now.ensures

pub returns-in-Err : goal.returns-in-Err
returns-in-Err g c = move_off g.S.Steps.sense c.args.id c.args.parent c.args.name.now c.rows.result.now c.check_move.result c.in-Err.fail c.args.s.now c.refused_by.result c.rows.ensures.means c.check_move.ensures c.in-Err.is c.refused_by.ensures
