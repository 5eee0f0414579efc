use Rattle.std.proofs.Common.{List, ap, sym, ℕ}
use Rattle.cf_filter_events.proofs.Asked.{calls_plainly}
use Rattle.cf_filter_events.proofs.Finished.{a_call}
use Rattle.cf_filter_events.proofs.Hushing.{open_hush}
use Rattle.cf_model.specs.Calls.{open_file}
use Rattle.cf_model.specs.State.{in_filter}
use Rattle.cf_filter_events.proofs.places.RunningOn.open.Goals as goal

pub returns : goal.returns
returns g c =
    calls_plainly g.A.Provider.answers g.A.Actor.acts g.met.A.Actor.actor g.G.Ground.state _ (open_file c.as_str.result.now) _ _ _ _ _ _ _ _ (a_call _ _) (open_hush c.as_str.result.now) (λ z m. ap (λ (p : List ℕ). in_filter (open_file p) z) (sym c.as_str.ensures)) c.new.ensures c.open_file-told.ensures c.opened.ensures c.answered.ensures
