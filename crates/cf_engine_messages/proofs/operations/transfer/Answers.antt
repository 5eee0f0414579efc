use Rattle.std.proofs.Common.{◌∙◌, ap, sym}
use Rattle.std.specs.Prelude.{Ok}
use Rattle.cf_base.specs.declared.answers.Shown.TheVariants as shown
use Rattle.cf_engine_messages.proofs.Operated.{as_arrow, not_refused, op_fails, op_then, refused_is}
use Rattle.cf_engine_steps.specs.Answering.{Any}
use Rattle.cf_engine_steps.specs.States.{whole}
use Rattle.cf_engine_steps.proofs.Laws.{returned, with_err}
use Rattle.cf_model.specs.Arrows.{ret, seq, unit}
use Rattle.cf_model.specs.Fetching.{after_transfer}
use Rattle.cf_model.specs.Operations.{execute}
use Rattle.cf_model.specs.State.{in_filter}
use Rattle.cf_engine_messages.proofs.operations.transfer.Goals as goal

pub returns-in_err-shown : goal.returns-in_err-shown
returns-in_err-shown g c = with_err (whole g.S.Steps.sense g.R.Remote.told) Any (seq (in_filter (execute c.args.transfer.now)) (after_transfer c.args.key c.args.span)) (c.args.s.now, c.args.e.now) (c.execute.new.s, c.args.e.now) c.in_err-shown.field-0.0 c.from_residual.result c.from_residual.ensures.1
    (op_fails g.S.Steps.sense g.R.Remote.told c.args.transfer.now (after_transfer c.args.key c.args.span) c.args.s.now c.execute.new.s c.args.e.now c.in_err-shown.field-0.0 c.in_err-shown.ensures)

pub returns-in-Some : goal.returns-in-Some
returns-in-Some g c = op_then g.S.Steps.sense g.R.Remote.told c.args.transfer.now (after_transfer c.args.key c.args.span) c.args.s.now c.execute.new.s c.after_transfer.new.s c.args.e.now c.after_transfer.new.e c.in_ok-shown.shown c.after_transfer.result c.in_ok-shown.ensures
    (as_arrow (whole g.S.Steps.sense g.R.Remote.told) (after_transfer c.args.key c.args.span (shown.Refused c.in-Some.code)) (after_transfer c.args.key c.args.span c.in_ok-shown.shown) (c.execute.new.s, c.args.e.now) (c.after_transfer.new.s, c.after_transfer.new.e) c.after_transfer.result
    (ap (after_transfer c.args.key c.args.span) (refused_is c.in_ok-shown.shown c.in-Some.code (sym c.refusal_of-refused.ensures ∙ c.in-Some.is))) c.after_transfer.ensures)

pub returns-in-None : goal.returns-in-None
returns-in-None g c = op_then g.S.Steps.sense g.R.Remote.told c.args.transfer.now (after_transfer c.args.key c.args.span) c.args.s.now c.execute.new.s c.execute.new.s c.args.e.now c.args.e.now c.in_ok-shown.shown (Ok unit) c.in_ok-shown.ensures
    (as_arrow (whole g.S.Steps.sense g.R.Remote.told) (ret unit) (after_transfer c.args.key c.args.span c.in_ok-shown.shown) (c.execute.new.s, c.args.e.now) (c.execute.new.s, c.args.e.now) (Ok unit)
    (not_refused c.args.key c.args.span c.in_ok-shown.shown (sym c.refusal_of-refused.ensures ∙ c.in-None.is)) (returned (whole g.S.Steps.sense g.R.Remote.told) Any unit (c.execute.new.s, c.args.e.now)))
