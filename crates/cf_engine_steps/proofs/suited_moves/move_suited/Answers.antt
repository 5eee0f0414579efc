use Rattle.cf_base.specs.declared.changes.Change.TheVariants as change
use Rattle.cf_engine_steps.specs.Suited.{IsSuited, MoveChecked}
use Rattle.cf_engine_steps.proofs.SuitedMoves.{move_suited_by}
use Rattle.cf_filter_steps.proofs.Laws.{ok_map}
use Rattle.cf_engine_steps.proofs.suited_moves.move_suited.Goals as goal

pub returns : goal.returns
returns g c = ok_map c.check.result (MoveChecked g.S.Steps.sense c.args.item c.args.parent c.args.name.now c.args.s.now) (IsSuited g.S.Steps.sense (change.Move c.args.item c.args.parent c.args.name.now) c.args.s.now)
    (λ o h. move_suited_by g.S.Steps.sense c.args.item c.args.parent c.args.name.now c.args.s.now c.is_move.result o c.if-not-is_move.false c.is_move.ensures h) c.check.ensures
