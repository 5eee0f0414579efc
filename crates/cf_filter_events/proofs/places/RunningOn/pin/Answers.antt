use Rattle.std.proofs.Common.{List, ap, sym, ℕ}
use Rattle.cf_filter_events.proofs.Called.{calls_step}
use Rattle.cf_filter_events.proofs.Finished.{a_call}
use Rattle.cf_model.proofs.CallsKeep.{set_pin_keeps}
use Rattle.cf_model.specs.Calls.{set_pin}
use Rattle.cf_model.specs.State.{in_filter}
use Rattle.cf_filter_events.proofs.places.RunningOn.pin.Goals as goal

pub returns : goal.returns
returns g c =
    calls_step g.A.Provider.answers g.A.Actor.acts g.met.A.Actor.actor g.G.Ground.state _ (set_pin c.as_str.result.now c.args.pin c.args.reach) _ _ _ _ _ _ _ _ _ (a_call _ _) (λ P closed. set_pin_keeps P closed c.as_str.result.now c.args.pin c.args.reach) (λ z m. ap (λ (p : List ℕ). in_filter (set_pin p c.args.pin c.args.reach) z) (sym c.as_str.ensures)) c.new-notes.ensures c.pin-told.ensures.does c.pin-told.ensures.keeps c.done.ensures c.answered.ensures
