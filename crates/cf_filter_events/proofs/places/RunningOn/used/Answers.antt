use Rattle.std.proofs.Common.{List, ap, sym, ℕ}
use Rattle.cf_filter_events.proofs.Asked.{asks_step, used_never}
use Rattle.cf_filter_events.proofs.Finished.{a_call}
use Rattle.cf_model.specs.Calls.{used}
use Rattle.cf_model.specs.State.{in_filter}
use Rattle.cf_filter_events.proofs.places.RunningOn.used.Goals as goal

pub returns : goal.returns
returns g c =
    asks_step g.A.Provider.answers g.A.Actor.acts g.met.A.Actor.actor g.G.Ground.state _ (used c.as_str.result.now) _ _ _ _ _ _ _ (a_call _ _) (used_never c.as_str.result.now) (λ z m. ap (λ (p : List ℕ). in_filter (used p) z) (sym c.as_str.ensures)) c.new.ensures c.used-told.ensures c.used.ensures c.answered.ensures
