use Rattle.std.proofs.Common.{subst, sym}
use Rattle.std.specs.Prelude.{None, Err, Result}
use Rattle.cf_base.specs.declared.codes.CallError.{CallError}
use Rattle.cf_filter.proofs.Called.{seen_from}
use Rattle.cf_filter.proofs.Recorded.{drop_done, puts_record}
use Rattle.cf_filter.specs.Recording.{PutsRecord}
use Rattle.cf_filter_machine.specs.Sensing.{sense}
use Rattle.cf_filter_steps.proofs.Laws.{no_memory, weaker}
use Rattle.cf_filter_steps.specs.Answering.{Answers}
use Rattle.cf_engine_host.specs.BookSteps.{DropsRecord, why_full, with_book_of}
use Rattle.cf_model.specs.Arrows.{attempt, noted}
use Rattle.cf_filter.proofs.host_steps.drop_record.Goals as goal

pub returns-then-key-gt-MOST_KEY : goal.returns-then-key-gt-MOST_KEY
returns-then-key-gt-MOST_KEY g c = λ f.
    subst (λ (e : CallError). Answers (sense g.G.Ground.state) (DropsRecord c.args.key.now f) (noted (with_book_of f)) c.args.filter.now (Err e) c.args.filter.now) (sym c.from.ensures)
    (no_memory (sense g.G.Ground.state) (DropsRecord c.args.key.now f) (noted (with_book_of f)) c.args.filter.now)

pub returns : goal.returns
returns g c = λ f.
    subst (λ (r : Result (Unit {0}) CallError). Answers (sense g.G.Ground.state) (DropsRecord c.args.key.now f) (noted (with_book_of f)) c.args.filter.now r c.put_aux-put.new.machine) (sym c.dropped.ensures)
    (seen_from c.filter.view_is (drop_done g.G.Ground.state (DropsRecord c.args.key.now f) (why_full f) (with_book_of f) _ _ c.put_aux-put.result
    (weaker (sense g.G.Ground.state) (PutsRecord c.args.key.now None f) (DropsRecord c.args.key.now f) (attempt (why_full f) (noted (with_book_of f))) _ _ _ (λ s h. puts_record c.args.key.now None f s h) (c.put_aux-put.ensures.does f))))
