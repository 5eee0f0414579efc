use Rattle.std.proofs.Common.{refl}
use Rattle.cf_filter_events.proofs.Asked.{asks_step, df_never}
use Rattle.cf_filter_events.proofs.Finished.{a_call}
use Rattle.cf_model.specs.Calls.{df}
use Rattle.cf_filter_events.proofs.places.RunningOn.df.Goals as goal

pub returns : goal.returns
returns g c =
    asks_step g.A.Provider.answers g.A.Actor.acts g.met.A.Actor.actor g.G.Ground.state _ df _ _ _ _ _ _ _ (a_call _ _) (df_never) (λ z m. refl) c.new.ensures c.df-told.ensures c.blocks-2.ensures c.answered.ensures
