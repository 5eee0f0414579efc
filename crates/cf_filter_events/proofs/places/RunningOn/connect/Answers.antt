use Rattle.std.proofs.Common.{refl}
use Rattle.cf_filter_events.proofs.Called.{calls_step}
use Rattle.cf_filter_events.proofs.Finished.{a_call}
use Rattle.cf_model.proofs.WaitsKeep.{connect_keeps}
use Rattle.cf_model.specs.Waits.{connect}
use Rattle.cf_filter_events.proofs.places.RunningOn.connect.Goals as goal

pub returns : goal.returns
returns g c =
    calls_step g.A.Provider.answers g.A.Actor.acts g.met.A.Actor.actor g.G.Ground.state _ (connect c.args.on) _ _ _ _ _ _ _ _ _ (a_call _ _) (λ P closed. connect_keeps P closed c.args.on) (λ z m. refl) c.new-notes.ensures c.connect-told.ensures.does c.connect-told.ensures.keeps c.done.ensures c.answered.ensures
