use Rattle.std.proofs.Common.{◌∙◌, ap}
use Rattle.std.specs.Prelude.{Err}
use Rattle.cf_base.specs.declared.codes.Code.{Code}
use Rattle.cf_base.specs.declared.codes.CallError.{CallError}
use Rattle.cf_base.specs.declared.codes.CallError.TheVariants.{No}
use Rattle.cf_engine_steps.proofs.SuitedMoves.{checked_deep, checked_free}
use Rattle.cf_engine_steps.proofs.suited_moves.check.Goals as goal

pub returns-in-Ok : goal.returns-in-Ok
returns-in-Ok g c = checked_free g.S.Steps.sense c.args.s.now c.rows.result.now c.args.item c.args.parent c.args.name.now c.check_move.result c.in-Ok.field-0 c.rows.ensures.means c.check_move.ensures c.in-Ok.is

pub returns-in-Err-No-TooDeep : goal.returns-in-Err-No-TooDeep
returns-in-Err-No-TooDeep g c = checked_deep g.S.Steps.sense c.args.s.now c.rows.result.now c.args.item c.args.parent c.args.name.now c.check_move.result c.rows.ensures.means c.check_move.ensures
    (c.in-Err-No-TooDeep.is ∙ ap (λ (q : CallError). Err q) (c.in-Err-No-TooDeep.field-0-is ∙ ap (λ (d : Code). No d) c.in-Err-No-TooDeep.field-0-0-is))
