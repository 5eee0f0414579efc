use Rattle.cf_filter.proofs.Called.{notes_kept, seen_from}
use Rattle.cf_filter.proofs.Handed.{as_whether, handed_with}
use Rattle.cf_filter.proofs.filters.FilterOn.engine_apply.Goals as goal

pub returns-clause-does : goal.returns-clause-does
returns-clause-does g c =
    handed_with g.G.Ground.state _ _ _ _ _ _ _ _ _ _ _ _ c.in_ok-begin.ensures.whole c.in_ok-begin.ensures.ok (as_whether c.change_copied-first.result (seen_from c.self.view_is (c.change_copied-first.ensures.does))) c.given.ensures c.finish_with.ensures.answer c.finish_with.ensures.new c.finish_with.ensures.notes

pub returns-clause-keeps : goal.returns-clause-keeps
returns-clause-keeps g c = notes_kept g.G.Ground.state _ c.args.self.now _ _ _ c.finish_with.ensures.new c.in_ok-begin.ensures.kept
