use Rattle.std.proofs.Common.{ap, sym}
use Rattle.cf_filter_events.proofs.Provided.{provides_step}
use Rattle.cf_filter_events.proofs.Finished.{a_call}
use Rattle.cf_base.specs.declared.spans.Span.{Span}
use Rattle.cf_model.proofs.WaitsKeep.{read_keeps}
use Rattle.cf_model.specs.Callbacks.{calling}
use Rattle.cf_model.specs.Waits.{read}
use Rattle.cf_filter_events.proofs.places.RunningOn.read.Goals as goal

pub returns : goal.returns
returns g c =
    provides_step g.A.Provider.answers g.A.Actor.acts g.met.A.Actor.actor g.G.Ground.state _ (read c.args.handle c.span_of.result) _ _ _ _ _ _ _ _ _ _ (a_call _ _) (λ P closed. read_keeps P closed c.args.handle c.span_of.result) (λ z m. ap (λ (s : Span). calling (read c.args.handle s) z) (sym c.span_of.ensures)) c.new-notes.ensures c.read-told.ensures.does c.read-told.ensures.keeps c.waited.ensures c.answered.ensures
