use Rattle.std.proofs.Common.{option_copied}
use Rattle.cf_filter.proofs.Called.{seen_from}
use Rattle.cf_filter.proofs.Recorded.{attempted, seen_same}
use Rattle.cf_filter.specs.Recording.{PutsRecord}
use Rattle.cf_model.specs.Arrows.{noted}
use Rattle.cf_engine_host.specs.BookSteps.{why_full, with_book_of}
use Rattle.cf_filter.proofs.filters.FilterOn.aux_put.Goals as goal

pub returns : goal.returns
returns g c = λ f.
    attempted g.G.Ground.state (PutsRecord c.args.key.now (option_copied c.args.value) f) (why_full f) (noted (with_book_of f)) c.args.self.now c.put_aux-first.new.machine c.finish.new.self c.put_aux-first.result c.finish.result c.told.result c.in_ok-check.ensures.ok
    (seen_from c.self.view_is (c.put_aux-first.ensures.does f))
    (seen_same g.G.Ground.state (PutsRecord c.args.key.now (option_copied c.args.value) f) c.put_aux-first.result c.put_aux-first.new.machine c.self.view_is (c.put_aux-first.ensures.same f)) c.told.ensures c.finish.ensures.answer c.finish.ensures.new
