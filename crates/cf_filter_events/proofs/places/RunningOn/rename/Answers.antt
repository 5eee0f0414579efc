use Rattle.std.proofs.Common.{List, ap, sym, ℕ, ◌∙◌}
use Rattle.cf_filter_events.proofs.Called.{calls_step}
use Rattle.cf_filter_events.proofs.Finished.{a_call}
use Rattle.cf_model.proofs.CallsKeep.{rename_keeps}
use Rattle.cf_model.specs.Calls.{rename}
use Rattle.cf_model.specs.State.{in_filter}
use Rattle.cf_filter_events.proofs.places.RunningOn.rename.Goals as goal

pub returns : goal.returns
returns g c =
    calls_step g.A.Provider.answers g.A.Actor.acts g.met.A.Actor.actor g.G.Ground.state _ (rename c.as_str.result.now c.as_str-2.result.now) _ _ _ _ _ _ _ _ _ (a_call _ _) (λ P closed. rename_keeps P closed c.as_str.result.now c.as_str-2.result.now) (λ z m. ap (λ (p : List ℕ). in_filter (rename p c.args.to.now) z) (sym c.as_str.ensures) ∙ ap (λ (p : List ℕ). in_filter (rename c.as_str.result.now p) z) (sym c.as_str-2.ensures)) c.new-notes.ensures c.rename-told.ensures.does c.rename-told.ensures.keeps c.done.ensures c.answered.ensures
