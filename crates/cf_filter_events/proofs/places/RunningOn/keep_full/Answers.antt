use Rattle.std.proofs.Common.{List, ap, sym, ℕ}
use Rattle.cf_filter_events.proofs.Provided.{provides_step}
use Rattle.cf_filter_events.proofs.Finished.{a_call}
use Rattle.cf_model.proofs.PlacementsKeep.{keep_full_keeps}
use Rattle.cf_model.specs.Callbacks.{calling}
use Rattle.cf_model.specs.Placements.{keep_full}
use Rattle.cf_filter_events.proofs.places.RunningOn.keep_full.Goals as goal

pub returns : goal.returns
returns g c =
    provides_step g.A.Provider.answers g.A.Actor.acts g.met.A.Actor.actor g.G.Ground.state _ (keep_full c.as_str.result.now c.args.on) _ _ _ _ _ _ _ _ _ _ (a_call _ _) (λ P closed. keep_full_keeps P closed c.as_str.result.now c.args.on) (λ z m. ap (λ (p : List ℕ). calling (keep_full p c.args.on) z) (sym c.as_str.ensures)) c.new-notes.ensures c.keep_full-told.ensures.does c.keep_full-told.ensures.keeps c.done.ensures c.answered.ensures
