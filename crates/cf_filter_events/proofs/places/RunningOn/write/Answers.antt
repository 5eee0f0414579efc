use Rattle.std.proofs.Common.{List, ap, sym, ℕ}
use Rattle.cf_filter_events.proofs.Provided.{provides_step}
use Rattle.cf_filter_events.proofs.Finished.{a_call}
use Rattle.cf_model.proofs.CallsKeep.{write_keeps}
use Rattle.cf_model.specs.Callbacks.{calling}
use Rattle.cf_model.specs.Calls.{write}
use Rattle.cf_filter_events.proofs.places.RunningOn.write.Goals as goal

pub returns : goal.returns
returns g c =
    provides_step g.A.Provider.answers g.A.Actor.acts g.met.A.Actor.actor g.G.Ground.state _ (write c.args.handle c.args.offset c.as_slice.result.now) _ _ _ _ _ _ _ _ _ _ (a_call _ _) (λ P closed. write_keeps P closed c.args.handle c.args.offset c.as_slice.result.now) (λ z m. ap (λ (b : List ℕ). calling (write c.args.handle c.args.offset b) z) (sym c.as_slice.ensures)) c.new-notes.ensures c.write-told.ensures.does c.write-told.ensures.keeps c.done.ensures c.answered.ensures
