use Rattle.std.proofs.Common.{List, ap, sym, ℕ}
use Rattle.cf_filter_events.proofs.Asked.{asks_step, ranges_never}
use Rattle.cf_filter_events.proofs.Finished.{a_call}
use Rattle.cf_model.specs.Calls.{ranges}
use Rattle.cf_model.specs.State.{in_filter}
use Rattle.cf_filter_events.proofs.places.RunningOn.ranges.Goals as goal

pub returns : goal.returns
returns g c =
    asks_step g.A.Provider.answers g.A.Actor.acts g.met.A.Actor.actor g.G.Ground.state _ (ranges c.as_str.result.now c.args.class) _ _ _ _ _ _ _ (a_call _ _) (ranges_never c.as_str.result.now c.args.class) (λ z m. ap (λ (p : List ℕ). in_filter (ranges p c.args.class) z) (sym c.as_str.ensures)) c.new.ensures c.ranges-told.ensures c.runs.ensures c.answered.ensures
