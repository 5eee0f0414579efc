use Rattle.cf_engine_host.specs.BookSteps.{PutsBeside}
use Rattle.cf_engine_steps.specs.Answering.{On}
use Rattle.cf_engine_steps.specs.States.{whole}
use Rattle.cf_model.specs.Books.{with_seen}
use Rattle.cf_model.specs.Skips.{try_book}
use Rattle.cf_engine_steps.proofs.BookTests.{seen_if}
use Rattle.cf_engine_steps.proofs.Laws.{known}
use Rattle.cf_engine_steps.proofs.paths_seen.put_seen.Goals as goal

pub returns : goal.returns
returns g c = known (whole g.S.Steps.sense g.R.Remote.told) (On (PutsBeside c.in_ok-record.record (with_seen c.args.seen.now))) (try_book (with_seen c.args.seen.now)) (c.args.s.now, c.args.e.now) (c.put_or_leave_out.new.s, c.put_or_leave_out.new.e) c.put_or_leave_out.result
    (λ s i. (seen_if g.S.Steps.sense g.met.S.EngineHost.keepable c.args.s.now c.in_ok-record.record c.args.seen.now c.in_ok-record.ensures).puts s.filter i.filter) (c.put_or_leave_out.ensures (with_seen c.args.seen.now))
