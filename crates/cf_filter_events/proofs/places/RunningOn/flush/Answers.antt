use Rattle.std.proofs.Common.{refl}
use Rattle.cf_filter_events.proofs.Asked.{calls_plainly}
use Rattle.cf_filter_events.proofs.Finished.{a_call}
use Rattle.cf_filter_events.proofs.Hushing.{flush_hush}
use Rattle.cf_model.specs.Calls.{flush}
use Rattle.cf_filter_events.proofs.places.RunningOn.flush.Goals as goal

pub returns : goal.returns
returns g c =
    calls_plainly g.A.Provider.answers g.A.Actor.acts g.met.A.Actor.actor g.G.Ground.state _ flush _ _ _ _ _ _ _ _ (a_call _ _) (flush_hush) (λ z m. refl) c.new.ensures c.flush-told.ensures c.count.ensures c.answered.ensures
