use Rattle.cf_filter.proofs.Called.{notes_kept}
use Rattle.cf_filter.proofs.Provided.{provided_with}
use Rattle.cf_filter.proofs.filters.FilterOn.close.Goals as goal

pub returns-clause-does : goal.returns-clause-does
returns-clause-does g c =
    provided_with g.G.Ground.state g.P.Provider.answers _ _ _ _ _ _ _ _ _ _ _ _ _ _ _ c.in_ok-begin.ensures.whole c.in_ok-begin.ensures.ok c.ask_by-told.ensures c.done.ensures c.finish_with.ensures.answer c.finish_with.ensures.new c.finish_with.ensures.notes

pub returns-clause-keeps : goal.returns-clause-keeps
returns-clause-keeps g c = notes_kept g.G.Ground.state _ c.args.self.now _ _ _ c.finish_with.ensures.new c.in_ok-begin.ensures.kept
