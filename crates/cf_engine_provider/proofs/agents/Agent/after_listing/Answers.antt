use Rattle.std.proofs.Common.{inl, inr}
use Rattle.cf_base.specs.declared.answers.Shown.TheVariants as shown
use Rattle.cf_model.specs.Arrows.{then_do}
use Rattle.cf_model.specs.Fetching.{after_listing, no_entries}
use Rattle.cf_model.specs.Skips.{skip}
use Rattle.cf_engine_provider.proofs.Listed.{for_any_other, left_out, too_deep}
use Rattle.cf_engine_provider.proofs.Performed.{as_part, as_skip}
use Rattle.cf_engine_provider.proofs.agents.Agent.after_listing.Goals as goal

pub returns-in-TableFull : goal.returns-in-TableFull
returns-in-TableFull g c =
    as_skip g.P.Port.goes g.R.Remote.told c.args.code (after_listing c.args.key (shown.Refused c.args.code)) c.args.self.now c.skip.new.self c.args.port.now c.skip.new.port c.skip.result (left_out c.args.key c.args.code (inl c.in-TableFull.is)) c.skip.ensures

pub returns-in-TooManyAsks : goal.returns-in-TooManyAsks
returns-in-TooManyAsks g c =
    as_skip g.P.Port.goes g.R.Remote.told c.args.code (after_listing c.args.key (shown.Refused c.args.code)) c.args.self.now c.skip-in-TooManyAsks.new.self c.args.port.now c.skip-in-TooManyAsks.new.port c.skip-in-TooManyAsks.result
    (left_out c.args.key c.args.code (inr (inl c.in-TooManyAsks.is))) c.skip-in-TooManyAsks.ensures

pub returns-in-Exhausted : goal.returns-in-Exhausted
returns-in-Exhausted g c =
    as_skip g.P.Port.goes g.R.Remote.told c.args.code (after_listing c.args.key (shown.Refused c.args.code)) c.args.self.now c.skip-in-Exhausted.new.self c.args.port.now c.skip-in-Exhausted.new.port c.skip-in-Exhausted.result
    (left_out c.args.key c.args.code (inr (inr c.in-Exhausted.is))) c.skip-in-Exhausted.ensures

pub returns-in-TooDeep : goal.returns-in-TooDeep
returns-in-TooDeep g c =
    as_part g.P.Port.goes g.R.Remote.told (then_do (skip c.args.code) (no_entries c.args.key)) (after_listing c.args.key (shown.Refused c.args.code)) c.args.self.now c.skip_entries.new.self c.args.port.now c.skip_entries.new.port c.skip_entries.result
    (too_deep c.args.key c.args.code c.in-TooDeep.is) c.skip_entries.ensures

pub returns-in_default : goal.returns-in_default
returns-in_default g c =
    as_part g.P.Port.goes g.R.Remote.told (no_entries c.args.key) (after_listing c.args.key (shown.Refused c.args.code)) c.args.self.now c.args.self.now c.args.port.now c.no_entries.new.port c.no_entries.result
    (for_any_other c.args.key c.args.code c.in_default.not-TableFull c.in_default.not-TooManyAsks c.in_default.not-Exhausted c.in_default.not-TooDeep) c.no_entries.ensures
