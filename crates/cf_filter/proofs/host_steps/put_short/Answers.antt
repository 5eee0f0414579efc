use Rattle.std.specs.Prelude.{Some}
use Rattle.cf_filter.proofs.Recorded.{puts_beside}
use Rattle.cf_filter.specs.Recording.{PutsRecord}
use Rattle.cf_filter_machine.specs.Sensing.{sense}
use Rattle.cf_filter_steps.proofs.Laws.{no_memory, weaker}
use Rattle.cf_engine_host.specs.BookSteps.{PutsBeside, why_full, with_book_of}
use Rattle.cf_model.specs.Arrows.{attempt, noted}
use Rattle.cf_filter.proofs.host_steps.put_short.Goals as goal

pub returns-then-not-is_short : goal.returns-then-not-is_short
returns-then-not-is_short g c = λ f. no_memory (sense g.G.Ground.state) (PutsBeside c.args.aux.now f) (attempt (why_full f) (noted (with_book_of f))) c.args.machine.now

pub returns : goal.returns
returns g c = λ f.
    weaker (sense g.G.Ground.state) (PutsRecord c.as_slice-key.result.now (Some c.as_slice-value.result.now) f) (PutsBeside c.args.aux.now f) (attempt (why_full f) (noted (with_book_of f))) c.args.machine.now _ _
    (λ s h. puts_beside c.args.aux.now c.as_slice-key.result.now c.as_slice-value.result.now f s c.as_slice-key.ensures c.as_slice-value.ensures h) (c.put_aux.ensures.does f)
