use Rattle.cf_filter.proofs.Called.{called_with, notes_kept}
use Rattle.cf_filter.proofs.filters.FilterOn.create.Goals as goal

pub returns-clause-does : goal.returns-clause-does
returns-clause-does g c =
    called_with g.G.Ground.state _ _ _ _ _ _ _ _ _ _ _ _ c.in_ok-begin.ensures.whole c.in_ok-begin.ensures.ok c.make-told.ensures c.item.ensures c.finish_with.ensures.answer c.finish_with.ensures.new c.finish_with.ensures.notes

pub returns-clause-keeps : goal.returns-clause-keeps
returns-clause-keeps g c = notes_kept g.G.Ground.state _ c.args.self.now _ _ _ c.finish_with.ensures.new c.in_ok-begin.ensures.kept
