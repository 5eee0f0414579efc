use Rattle.std.proofs.Common.{List, ap, sym, ℕ, ◌∙◌}
use Rattle.cf_filter_events.proofs.Called.{calls_step}
use Rattle.cf_filter_events.proofs.Finished.{a_call}
use Rattle.cf_base.specs.declared.policies.Mode.{Mode}
use Rattle.cf_model.proofs.CallsKeep.{delete_keeps}
use Rattle.cf_model.specs.Calls.{delete}
use Rattle.cf_model.specs.State.{in_filter}
use Rattle.cf_filter_events.proofs.places.RunningOn.delete.Goals as goal

pub returns : goal.returns
returns g c =
    calls_step g.A.Provider.answers g.A.Actor.acts g.met.A.Actor.actor g.G.Ground.state _ (delete c.mode-mode.result c.as_str.result.now) _ _ _ _ _ _ _ _ _ (a_call _ _) (λ P closed. delete_keeps P closed c.mode-mode.result c.as_str.result.now) (λ z m. ap (λ (k : Mode). in_filter (delete k c.args.path.now) z) (m ∙ sym c.mode-mode.ensures) ∙ ap (λ (p : List ℕ). in_filter (delete c.mode-mode.result p) z) (sym c.as_str.ensures)) c.new-notes.ensures c.delete-told.ensures.does c.delete-told.ensures.keeps c.done.ensures c.answered.ensures
