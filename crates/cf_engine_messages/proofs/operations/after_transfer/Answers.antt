use Rattle.std.proofs.Common.{inl, inr}
use Rattle.std.specs.Prelude.{Ok}
use Rattle.cf_base.specs.declared.answers.Shown.TheVariants as shown
use Rattle.cf_engine_messages.proofs.Operated.{as_arrow}
use Rattle.cf_engine_provider.proofs.Performed.{otherwise, when_refused, when_skipped}
use Rattle.cf_engine_steps.specs.Answering.{Any}
use Rattle.cf_engine_steps.specs.States.{whole}
use Rattle.cf_engine_steps.proofs.Laws.{returned}
use Rattle.cf_model.specs.Arrows.{ret, unit}
use Rattle.cf_model.specs.Fetching.{after_transfer, refuse_for}
use Rattle.cf_model.specs.Skips.{skip}
use Rattle.cf_engine_messages.proofs.operations.after_transfer.Goals as goal

pub returns-in-Full : goal.returns-in-Full
returns-in-Full g c = as_arrow (whole g.S.Steps.sense g.R.Remote.told) (refuse_for c.args.key c.args.span c.args.code) (after_transfer c.args.key c.args.span (shown.Refused c.args.code)) (c.args.s.now, c.args.e.now) (c.refuse_for.new.s, c.refuse_for.new.e) c.refuse_for.result (when_refused c.args.key c.args.span c.args.code (inl c.in-Full.is)) c.refuse_for.ensures

pub returns-in-TableFull : goal.returns-in-TableFull
returns-in-TableFull g c = as_arrow (whole g.S.Steps.sense g.R.Remote.told) (refuse_for c.args.key c.args.span c.args.code) (after_transfer c.args.key c.args.span (shown.Refused c.args.code)) (c.args.s.now, c.args.e.now) (c.refuse_for-in-TableFull.new.s, c.refuse_for-in-TableFull.new.e) c.refuse_for-in-TableFull.result (when_refused c.args.key c.args.span c.args.code (inr c.in-TableFull.is)) c.refuse_for-in-TableFull.ensures

pub returns-in-TooManyAsks : goal.returns-in-TooManyAsks
returns-in-TooManyAsks g c = as_arrow (whole g.S.Steps.sense g.R.Remote.told) (skip c.args.code) (after_transfer c.args.key c.args.span (shown.Refused c.args.code)) (c.args.s.now, c.args.e.now) (c.skip.new.s, c.skip.new.e) c.skip.result (when_skipped c.args.key c.args.span c.args.code (inl c.in-TooManyAsks.is)) c.skip.ensures

pub returns-in-Exhausted : goal.returns-in-Exhausted
returns-in-Exhausted g c = as_arrow (whole g.S.Steps.sense g.R.Remote.told) (skip c.args.code) (after_transfer c.args.key c.args.span (shown.Refused c.args.code)) (c.args.s.now, c.args.e.now) (c.skip-in-Exhausted.new.s, c.skip-in-Exhausted.new.e) c.skip-in-Exhausted.result (when_skipped c.args.key c.args.span c.args.code (inr c.in-Exhausted.is)) c.skip-in-Exhausted.ensures

pub returns-in_default : goal.returns-in_default
returns-in_default g c = as_arrow (whole g.S.Steps.sense g.R.Remote.told) (ret unit) (after_transfer c.args.key c.args.span (shown.Refused c.args.code)) (c.args.s.now, c.args.e.now) (c.args.s.now, c.args.e.now) (Ok unit)
    (otherwise c.args.key c.args.span c.args.code c.in_default.not-Full c.in_default.not-TableFull c.in_default.not-TooManyAsks c.in_default.not-Exhausted) (returned (whole g.S.Steps.sense g.R.Remote.told) Any unit (c.args.s.now, c.args.e.now))
