use Rattle.std.proofs.Common.{ℕ, subst}
use Rattle.cf_base.specs.Codes.{number_of}
use Rattle.cf_base.specs.declared.operations.Operation.TheVariants as operation
use Rattle.cf_engine_steps.specs.Answering.{Answers, Any}
use Rattle.cf_engine_steps.specs.States.{whole}
use Rattle.cf_engine_steps.proofs.Laws.{then_both}
use Rattle.cf_model.specs.Fetching.{do_op}
use Rattle.cf_model.specs.Skips.{skip}
use Rattle.cf_engine_messages.proofs.operations.refuse_for.Goals as goal

pub returns : goal.returns
returns g c = then_both _ (skip c.args.code) (do_op (operation.Refuse c.args.key c.args.span (number_of c.args.code))) _ _ _ _ _ _ _ _ c.in_ok-skip.ensures
    (subst (λ (n : ℕ). Answers (whole g.S.Steps.sense g.R.Remote.told) Any (do_op (operation.Refuse c.args.key c.args.span n)) (c.skip.new.s, c.skip.new.e) c.do_op.result (c.do_op.new.s, c.do_op.new.e)) c.number.ensures c.do_op.ensures)
