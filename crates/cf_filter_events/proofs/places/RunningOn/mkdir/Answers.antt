use Rattle.std.proofs.Common.{List, ap, sym, ℕ}
use Rattle.cf_filter_events.proofs.Called.{calls_step}
use Rattle.cf_filter_events.proofs.Finished.{a_call}
use Rattle.cf_model.proofs.PlacementsKeep.{create_keeps}
use Rattle.cf_model.specs.Placements.{create}
use Rattle.cf_model.specs.Plans.{NewDir}
use Rattle.cf_model.specs.State.{in_filter}
use Rattle.cf_filter_events.proofs.places.RunningOn.mkdir.Goals as goal

pub returns : goal.returns
returns g c =
    calls_step g.A.Provider.answers g.A.Actor.acts g.met.A.Actor.actor g.G.Ground.state _ (create c.as_str.result.now NewDir) _ _ _ _ _ _ _ _ _ (a_call _ _) (λ P closed. create_keeps P closed c.as_str.result.now NewDir) (λ z m. ap (λ (p : List ℕ). in_filter (create p NewDir) z) (sym c.as_str.ensures)) c.new-notes.ensures c.create-told.ensures.does c.create-told.ensures.keeps c.item.ensures c.answered.ensures
