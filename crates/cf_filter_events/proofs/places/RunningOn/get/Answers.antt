use Rattle.std.proofs.Common.{List, ap, sym, ℕ, ◌∙◌}
use Rattle.cf_filter_events.proofs.Provided.{provides_step}
use Rattle.cf_filter_events.proofs.Finished.{a_call}
use Rattle.cf_base.specs.declared.spans.Span.{Span}
use Rattle.cf_model.proofs.WaitsKeep.{get_keeps}
use Rattle.cf_model.specs.Callbacks.{calling}
use Rattle.cf_model.specs.Waits.{get}
use Rattle.cf_filter_events.proofs.places.RunningOn.get.Goals as goal

pub returns : goal.returns
returns g c =
    provides_step g.A.Provider.answers g.A.Actor.acts g.met.A.Actor.actor g.G.Ground.state _ (get c.as_str.result.now c.span_of.result) _ _ _ _ _ _ _ _ _ _ (a_call _ _) (λ P closed. get_keeps P closed c.as_str.result.now c.span_of.result) (λ z m. ap (λ (s : Span). calling (get c.args.path.now s) z) (sym c.span_of.ensures) ∙ ap (λ (p : List ℕ). calling (get p c.span_of.result) z) (sym c.as_str.ensures)) c.new-notes.ensures c.get-told.ensures.does c.get-told.ensures.keeps c.waited.ensures c.answered.ensures
