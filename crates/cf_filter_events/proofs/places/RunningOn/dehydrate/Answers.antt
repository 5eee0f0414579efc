use Rattle.std.proofs.Common.{List, ap, sym, ℕ, ◌∙◌}
use Rattle.cf_filter_events.proofs.Provided.{provides_step}
use Rattle.cf_filter_events.proofs.Finished.{a_call}
use Rattle.cf_model.proofs.DehydrationKeep.{dehydrate_keeps}
use Rattle.cf_model.specs.Callbacks.{calling}
use Rattle.cf_model.specs.Dehydration.{dehydrate}
use Rattle.std.specs.Prelude.{Option}
use Rattle.cf_filter_events.proofs.places.RunningOn.dehydrate.Goals as goal

pub returns : goal.returns
returns g c =
    provides_step g.A.Provider.answers g.A.Actor.acts g.met.A.Actor.actor g.G.Ground.state _ (dehydrate c.as_str.result.now c.wide.result) _ _ _ _ _ _ _ _ _ _ (a_call _ _) (λ P closed. dehydrate_keeps P closed c.as_str.result.now c.wide.result) (λ z m. ap (λ (r : Option (ℕ × ℕ)). calling (dehydrate c.args.path.now r) z) (sym c.wide.ensures) ∙ ap (λ (p : List ℕ). calling (dehydrate p c.wide.result) z) (sym c.as_str.ensures)) c.new-notes.ensures c.dehydrate-told.ensures.does c.dehydrate-told.ensures.keeps c.waited.ensures c.answered.ensures
