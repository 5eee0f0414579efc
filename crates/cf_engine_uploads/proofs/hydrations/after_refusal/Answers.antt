use Rattle.cf_engine_steps.proofs.Laws.{returned}
use Rattle.cf_engine_steps.specs.Answering.{Any}
use Rattle.cf_engine_steps.specs.States.{whole}
use Rattle.cf_engine_uploads.proofs.Hydrated.{otherwise, when_skipped}
use Rattle.cf_engine_uploads.proofs.Trees.{same_at}
use Rattle.cf_model.specs.Arrows.{Arrow, ret, unit}
use Rattle.cf_model.specs.Pushes.{after_hydrate}
use Rattle.cf_model.specs.Skips.{skip}
use Rattle.cf_model.specs.State.{State}
use Rattle.std.proofs.Common.{ap, inl, inr}
use Rattle.std.specs.Prelude.{Ok}
use Rattle.cf_base.specs.declared.answers.Shown.TheVariants as shown
use Rattle.cf_engine_uploads.proofs.hydrations.after_refusal.Goals as goal

pub returns-in-TooManyWaits : goal.returns-in-TooManyWaits
returns-in-TooManyWaits g c = same_at (whole g.S.Steps.sense g.R.Remote.told) (c.args.s.now, c.args.e.now) c.skip.result (c.skip.new.s, c.skip.new.e) Any (skip c.args.code) (after_hydrate (shown.Refused c.args.code)) (λ s m p. ap (λ (f : Arrow State (Unit {0})). f s) (when_skipped c.args.code (inl c.in-TooManyWaits.is))) c.skip.ensures

pub returns-in-TooManyAsks : goal.returns-in-TooManyAsks
returns-in-TooManyAsks g c = same_at (whole g.S.Steps.sense g.R.Remote.told) (c.args.s.now, c.args.e.now) c.skip-in-TooManyAsks.result (c.skip-in-TooManyAsks.new.s, c.skip-in-TooManyAsks.new.e) Any (skip c.args.code) (after_hydrate (shown.Refused c.args.code)) (λ s m p. ap (λ (f : Arrow State (Unit {0})). f s) (when_skipped c.args.code (inr (inl c.in-TooManyAsks.is)))) c.skip-in-TooManyAsks.ensures

pub returns-in-Exhausted : goal.returns-in-Exhausted
returns-in-Exhausted g c = same_at (whole g.S.Steps.sense g.R.Remote.told) (c.args.s.now, c.args.e.now) c.skip-in-Exhausted.result (c.skip-in-Exhausted.new.s, c.skip-in-Exhausted.new.e) Any (skip c.args.code) (after_hydrate (shown.Refused c.args.code)) (λ s m p. ap (λ (f : Arrow State (Unit {0})). f s) (when_skipped c.args.code (inr (inr c.in-Exhausted.is)))) c.skip-in-Exhausted.ensures

pub returns-in_default : goal.returns-in_default
returns-in_default g c = same_at (whole g.S.Steps.sense g.R.Remote.told) (c.args.s.now, c.args.e.now) (Ok unit) (c.args.s.now, c.args.e.now) Any (ret unit) (after_hydrate (shown.Refused c.args.code)) (λ s m p. ap (λ (f : Arrow State (Unit {0})). f s) (otherwise c.args.code c.in_default.not-TooManyWaits c.in_default.not-TooManyAsks c.in_default.not-Exhausted)) (returned (whole g.S.Steps.sense g.R.Remote.told) Any unit (c.args.s.now, c.args.e.now))
