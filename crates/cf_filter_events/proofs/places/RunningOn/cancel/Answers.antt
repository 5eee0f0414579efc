use Rattle.std.proofs.Common.{refl}
use Rattle.cf_filter_events.proofs.Provided.{provides_step}
use Rattle.cf_filter_events.proofs.Finished.{a_call}
use Rattle.cf_model.proofs.WaitsKeep.{cancel_keeps}
use Rattle.cf_model.specs.Waits.{cancel}
use Rattle.cf_filter_events.proofs.places.RunningOn.cancel.Goals as goal

pub returns : goal.returns
returns g c =
    provides_step g.A.Provider.answers g.A.Actor.acts g.met.A.Actor.actor g.G.Ground.state _ (cancel c.args.wait) _ _ _ _ _ _ _ _ _ _ (a_call _ _) (λ P closed. cancel_keeps P closed c.args.wait) (λ z m. refl) c.new-notes.ensures c.cancel-told.ensures.does c.cancel-told.ensures.keeps c.done.ensures c.answered.ensures
