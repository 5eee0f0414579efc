use Rattle.std.proofs.Common.{inl, inr}
use Rattle.std.specs.Prelude.{Ok}
use Rattle.cf_base.specs.declared.answers.Shown.TheVariants as shown
use Rattle.cf_model.specs.Fetching.{after_transfer, refuse_for}
use Rattle.cf_engine_provider.proofs.Performed.{as_part, as_skip, no_part, otherwise, when_refused, when_skipped}
use Rattle.cf_engine_provider.proofs.agents.Agent.after_transfer.Goals as goal

pub returns-in-Full : goal.returns-in-Full
returns-in-Full g c =
    as_part g.P.Port.goes g.R.Remote.told (refuse_for c.args.key c.args.span c.args.code) (after_transfer c.args.key c.args.span (shown.Refused c.args.code)) c.args.self.now c.refuse_for.new.self c.args.port.now c.refuse_for.new.port c.refuse_for.result
    (when_refused c.args.key c.args.span c.args.code (inl c.in-Full.is)) c.refuse_for.ensures

pub returns-in-TableFull : goal.returns-in-TableFull
returns-in-TableFull g c =
    as_part g.P.Port.goes g.R.Remote.told (refuse_for c.args.key c.args.span c.args.code) (after_transfer c.args.key c.args.span (shown.Refused c.args.code)) c.args.self.now c.refuse_for-in-TableFull.new.self c.args.port.now c.refuse_for-in-TableFull.new.port c.refuse_for-in-TableFull.result
    (when_refused c.args.key c.args.span c.args.code (inr c.in-TableFull.is)) c.refuse_for-in-TableFull.ensures

pub returns-in-TooManyAsks : goal.returns-in-TooManyAsks
returns-in-TooManyAsks g c =
    as_skip g.P.Port.goes g.R.Remote.told c.args.code (after_transfer c.args.key c.args.span (shown.Refused c.args.code)) c.args.self.now c.skip.new.self c.args.port.now c.skip.new.port c.skip.result (when_skipped c.args.key c.args.span c.args.code (inl c.in-TooManyAsks.is)) c.skip.ensures

pub returns-in-Exhausted : goal.returns-in-Exhausted
returns-in-Exhausted g c =
    as_skip g.P.Port.goes g.R.Remote.told c.args.code (after_transfer c.args.key c.args.span (shown.Refused c.args.code)) c.args.self.now c.skip-in-Exhausted.new.self c.args.port.now c.skip-in-Exhausted.new.port c.skip-in-Exhausted.result
    (when_skipped c.args.key c.args.span c.args.code (inr c.in-Exhausted.is)) c.skip-in-Exhausted.ensures

pub returns-in_default : goal.returns-in_default
returns-in_default g c =
    no_part g.P.Port.goes g.R.Remote.told (after_transfer c.args.key c.args.span (shown.Refused c.args.code)) c.args.self.now c.args.port.now (Ok (record {}))
    (otherwise c.args.key c.args.span c.args.code c.in_default.not-Full c.in_default.not-TableFull c.in_default.not-TooManyAsks c.in_default.not-Exhausted) (g.met.P.Port.stays c.args.port.now)
