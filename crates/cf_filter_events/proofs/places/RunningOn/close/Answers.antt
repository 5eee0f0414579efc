use Rattle.std.proofs.Common.{refl}
use Rattle.cf_filter_events.proofs.Provided.{provides_step}
use Rattle.cf_filter_events.proofs.Finished.{a_call}
use Rattle.cf_model.proofs.WaitsKeep.{close_keeps}
use Rattle.cf_model.specs.Waits.{close}
use Rattle.cf_filter_events.proofs.places.RunningOn.close.Goals as goal

pub returns : goal.returns
returns g c =
    provides_step g.A.Provider.answers g.A.Actor.acts g.met.A.Actor.actor g.G.Ground.state _ (close c.args.handle) _ _ _ _ _ _ _ _ _ _ (a_call _ _) (λ P closed. close_keeps P closed c.args.handle) (λ z m. refl) c.new-notes.ensures c.close-told.ensures.does c.close-told.ensures.keeps c.done.ensures c.answered.ensures
