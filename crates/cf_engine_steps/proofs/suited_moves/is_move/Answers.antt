use Rattle.std.proofs.Common.{◌∙◌, ap, arith}
use Rattle.std.proofs.lemmas.Bool.Decides.{nat_tests}
use Rattle.cf_base.specs.Names.{is_name}
use Rattle.cf_engine_steps.proofs.SuitedMoves.{move_by}
use Rattle.cf_engine_steps.proofs.suited_moves.is_move.Goals as goal

pub returns : goal.returns
returns g c = move_by g.S.Steps.sense c.args.item c.args.parent c.args.name.now c.args.s.now c.is_here.result c.is_name.result c.is_open_directory.result (let h = c.if-item.false in grind (arith, nat_tests, h)) c.if-not-is_here.false c.is_here.ensures
    c.if-not-is_name.false (c.is_name.ensures ∙ ap is_name c.as_slice.ensures) c.is_open_directory.ensures
