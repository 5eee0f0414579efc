use Rattle.cf_engine_host.specs.BookSteps.{PutsBeside, why_full, with_book_of}
use Rattle.cf_filter.proofs.Called.{seen_from}
use Rattle.cf_filter.proofs.Recorded.{put_given, put_lost}
use Rattle.cf_model.specs.Arrows.{attempt, noted}
use Rattle.cf_filter.proofs.host_steps.put_record.Goals as goal

pub returns : goal.returns
returns g c = λ f. seen_from c.filter.view_is (put_given g.G.Ground.state (PutsBeside c.args.aux.now f) (attempt (why_full f) (noted (with_book_of f))) _ _ c.in_ok-put.put (c.in_ok-put.ensures f))

pub returns-in_err-put : goal.returns-in_err-put
returns-in_err-put g c = λ f. seen_from c.filter.view_is (put_lost g.G.Ground.state (PutsBeside c.args.aux.now f) (attempt (why_full f) (noted (with_book_of f))) _ _ c.from_residual.result c.from_residual.ensures.1 (c.in_err-put.ensures f))
