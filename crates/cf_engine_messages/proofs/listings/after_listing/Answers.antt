use Rattle.std.proofs.Common.{inl, inr}
use Rattle.cf_base.specs.declared.answers.Shown.TheVariants as shown
use Rattle.cf_engine_messages.proofs.Operated.{as_arrow}
use Rattle.cf_engine_provider.proofs.Listed.{for_any_other, left_out, too_deep}
use Rattle.cf_engine_steps.specs.States.{whole}
use Rattle.cf_model.specs.Arrows.{then_do}
use Rattle.cf_model.specs.Fetching.{after_listing, no_entries}
use Rattle.cf_model.specs.Skips.{skip}
use Rattle.cf_engine_messages.proofs.listings.after_listing.Goals as goal

pub returns-in-TableFull : goal.returns-in-TableFull
returns-in-TableFull g c = as_arrow (whole g.S.Steps.sense g.R.Remote.told) (skip c.args.code) (after_listing c.args.key (shown.Refused c.args.code)) (c.args.s.now, c.args.e.now) (c.skip.new.s, c.skip.new.e) c.skip.result (left_out c.args.key c.args.code (inl c.in-TableFull.is)) c.skip.ensures

pub returns-in-TooManyAsks : goal.returns-in-TooManyAsks
returns-in-TooManyAsks g c = as_arrow (whole g.S.Steps.sense g.R.Remote.told) (skip c.args.code) (after_listing c.args.key (shown.Refused c.args.code)) (c.args.s.now, c.args.e.now) (c.skip-in-TooManyAsks.new.s, c.skip-in-TooManyAsks.new.e) c.skip-in-TooManyAsks.result (left_out c.args.key c.args.code (inr (inl c.in-TooManyAsks.is))) c.skip-in-TooManyAsks.ensures

pub returns-in-Exhausted : goal.returns-in-Exhausted
returns-in-Exhausted g c = as_arrow (whole g.S.Steps.sense g.R.Remote.told) (skip c.args.code) (after_listing c.args.key (shown.Refused c.args.code)) (c.args.s.now, c.args.e.now) (c.skip-in-Exhausted.new.s, c.skip-in-Exhausted.new.e) c.skip-in-Exhausted.result (left_out c.args.key c.args.code (inr (inr c.in-Exhausted.is))) c.skip-in-Exhausted.ensures

pub returns-in-TooDeep : goal.returns-in-TooDeep
returns-in-TooDeep g c = as_arrow (whole g.S.Steps.sense g.R.Remote.told) (then_do (skip c.args.code) (no_entries c.args.key)) (after_listing c.args.key (shown.Refused c.args.code)) (c.args.s.now, c.args.e.now) (c.skip_entries.new.s, c.skip_entries.new.e) c.skip_entries.result (too_deep c.args.key c.args.code c.in-TooDeep.is) c.skip_entries.ensures

pub returns-in_default : goal.returns-in_default
returns-in_default g c = as_arrow (whole g.S.Steps.sense g.R.Remote.told) (no_entries c.args.key) (after_listing c.args.key (shown.Refused c.args.code)) (c.args.s.now, c.args.e.now) (c.no_entries.new.s, c.no_entries.new.e) c.no_entries.result
    (for_any_other c.args.key c.args.code c.in_default.not-TableFull c.in_default.not-TooManyAsks c.in_default.not-Exhausted c.in_default.not-TooDeep) c.no_entries.ensures
