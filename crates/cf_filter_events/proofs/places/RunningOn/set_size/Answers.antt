use Rattle.std.proofs.Common.{refl}
use Rattle.cf_filter_events.proofs.Provided.{provides_step}
use Rattle.cf_filter_events.proofs.Finished.{a_call}
use Rattle.cf_model.proofs.CallsKeep.{set_size_keeps}
use Rattle.cf_model.specs.Calls.{set_size}
use Rattle.cf_filter_events.proofs.places.RunningOn.set_size.Goals as goal

pub returns : goal.returns
returns g c =
    provides_step g.A.Provider.answers g.A.Actor.acts g.met.A.Actor.actor g.G.Ground.state _ (set_size c.args.handle c.args.size) _ _ _ _ _ _ _ _ _ _ (a_call _ _) (λ P closed. set_size_keeps P closed c.args.handle c.args.size) (λ z m. refl) c.new-notes.ensures c.set_size-told.ensures.does c.set_size-told.ensures.keeps c.done.ensures c.answered.ensures
