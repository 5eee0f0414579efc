use Rattle.cf_base.specs.declared.answers.Shown.{Shown}
use Rattle.cf_engine_steps.proofs.Laws.{fails_first, goes_any, returned, with_err}
use Rattle.cf_engine_steps.specs.Answering.{Any, On}
use Rattle.cf_engine_steps.specs.States.{whole}
use Rattle.cf_engine_uploads.proofs.Hydrated.{not_refused, refused_is}
use Rattle.cf_engine_uploads.proofs.Trees.{same_at}
use Rattle.cf_filter_steps.specs.Answering.{IsAt}
use Rattle.cf_model.specs.Arrows.{Arrow, ret, seq, unit}
use Rattle.cf_model.specs.Callbacks.{calling}
use Rattle.cf_model.specs.Pushes.{after_hydrate}
use Rattle.cf_model.specs.State.{State}
use Rattle.cf_model.specs.Waits.{hydrate_item}
use Rattle.std.proofs.Common.{ap, sym, ◌∙◌}
use Rattle.std.specs.Prelude.{Ok}
use Rattle.cf_base.specs.declared.answers.Shown.TheVariants as shown
use Rattle.cf_engine_uploads.proofs.hydrations.hydrate_item.Goals as goal

pub returns-in_err-shown : goal.returns-in_err-shown
returns-in_err-shown g c = λ i. with_err (whole g.S.Steps.sense g.R.Remote.told) (On (IsAt c.args.id i)) (seq (calling (hydrate_item i)) after_hydrate) (c.args.s.now, c.args.e.now) (c.call_hydrate.new.s, c.call_hydrate.new.e) c.in_err-shown.field-0.0 c.from_residual.result c.from_residual.ensures.1
    (fails_first (whole g.S.Steps.sense g.R.Remote.told) (On (IsAt c.args.id i)) (calling (hydrate_item i)) after_hydrate (c.args.s.now, c.args.e.now) (c.call_hydrate.new.s, c.call_hydrate.new.e) c.in_err-shown.field-0.0 (c.in_err-shown.ensures i))

pub returns-in-Some : goal.returns-in-Some
returns-in-Some g c = λ i. goes_any (whole g.S.Steps.sense g.R.Remote.told) (On (IsAt c.args.id i)) (calling (hydrate_item i)) after_hydrate (c.args.s.now, c.args.e.now) (c.call_hydrate.new.s, c.call_hydrate.new.e) (c.after_refusal.new.s, c.after_refusal.new.e) c.in_ok-shown.shown c.after_refusal.result (c.in_ok-shown.ensures i)
    (same_at (whole g.S.Steps.sense g.R.Remote.told) (c.call_hydrate.new.s, c.call_hydrate.new.e) c.after_refusal.result (c.after_refusal.new.s, c.after_refusal.new.e) Any (after_hydrate (shown.Refused c.in-Some.code)) (after_hydrate c.in_ok-shown.shown) (λ s m p. ap (λ (a : Shown). after_hydrate a s) (refused_is c.in_ok-shown.shown c.in-Some.code (sym c.refusal_of-refused.ensures ∙ c.in-Some.is))) c.after_refusal.ensures)

pub returns-in-None : goal.returns-in-None
returns-in-None g c = λ i. goes_any (whole g.S.Steps.sense g.R.Remote.told) (On (IsAt c.args.id i)) (calling (hydrate_item i)) after_hydrate (c.args.s.now, c.args.e.now) (c.call_hydrate.new.s, c.call_hydrate.new.e) (c.call_hydrate.new.s, c.call_hydrate.new.e) c.in_ok-shown.shown (Ok unit) (c.in_ok-shown.ensures i)
    (same_at (whole g.S.Steps.sense g.R.Remote.told) (c.call_hydrate.new.s, c.call_hydrate.new.e) (Ok unit) (c.call_hydrate.new.s, c.call_hydrate.new.e) Any (ret unit) (after_hydrate c.in_ok-shown.shown) (λ s m p. ap (λ (f : Arrow State (Unit {0})). f s) (not_refused c.in_ok-shown.shown (sym c.refusal_of-refused.ensures ∙ c.in-None.is))) (returned (whole g.S.Steps.sense g.R.Remote.told) Any unit (c.call_hydrate.new.s, c.call_hydrate.new.e)))
