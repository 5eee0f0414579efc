use Rattle.std.proofs.Common.{List, ap, sym, ℕ}
use Rattle.cf_filter_events.proofs.Provided.{provides_step}
use Rattle.cf_filter_events.proofs.Finished.{a_call}
use Rattle.cf_model.proofs.WaitsKeep.{hydrate_keeps}
use Rattle.cf_model.specs.Callbacks.{calling}
use Rattle.cf_model.specs.Waits.{hydrate}
use Rattle.cf_filter_events.proofs.places.RunningOn.hydrate.Goals as goal

pub returns : goal.returns
returns g c =
    provides_step g.A.Provider.answers g.A.Actor.acts g.met.A.Actor.actor g.G.Ground.state _ (hydrate c.as_str.result.now) _ _ _ _ _ _ _ _ _ _ (a_call _ _) (λ P closed. hydrate_keeps P closed c.as_str.result.now) (λ z m. ap (λ (p : List ℕ). calling (hydrate p) z) (sym c.as_str.ensures)) c.new-notes.ensures c.hydrate-told.ensures.does c.hydrate-told.ensures.keeps c.waited.ensures c.answered.ensures
