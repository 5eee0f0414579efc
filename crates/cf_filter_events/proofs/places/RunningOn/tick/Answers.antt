use Rattle.std.proofs.Common.{refl}
use Rattle.cf_filter_events.proofs.Provided.{provides_step}
use Rattle.cf_filter_events.proofs.Finished.{a_call}
use Rattle.cf_model.proofs.WaitsKeep.{tick_keeps}
use Rattle.cf_model.specs.Waits.{tick}
use Rattle.cf_filter_events.proofs.places.RunningOn.tick.Goals as goal

pub returns : goal.returns
returns g c =
    provides_step g.A.Provider.answers g.A.Actor.acts g.met.A.Actor.actor g.G.Ground.state _ (tick c.args.ticks) _ _ _ _ _ _ _ _ _ _ (a_call _ _) (λ P closed. tick_keeps P closed c.args.ticks) (λ z m. refl) c.new-notes.ensures c.tick-told.ensures.does c.tick-told.ensures.keeps c.done.ensures c.answered.ensures
