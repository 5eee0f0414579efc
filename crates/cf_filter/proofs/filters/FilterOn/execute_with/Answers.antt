use Rattle.cf_filter.proofs.Called.{notes_kept}
use Rattle.cf_filter.proofs.Provided.{called_back, provided_with}
use Rattle.cf_filter.proofs.filters.FilterOn.execute_with.Goals as goal

pub returns-clause-does : goal.returns-clause-does
returns-clause-does g c = λ f.
    provided_with g.G.Ground.state g.P.Provider.answers _ _ _ _ _ _ _ _ _ _ _ _ _ _ _ c.in_ok-begin.ensures.whole c.in_ok-begin.ensures.ok (called_back g.G.Ground.state g.P.Provider.answers _ _ _ _ _ _ _ _ _ (c.operate-first.ensures f) c.drained-told.ensures) c.outcome.ensures c.finish_with.ensures.answer c.finish_with.ensures.new c.finish_with.ensures.notes

pub returns-clause-keeps : goal.returns-clause-keeps
returns-clause-keeps g c = notes_kept g.G.Ground.state _ c.args.self.now _ _ _ c.finish_with.ensures.new c.in_ok-begin.ensures.kept
