use Rattle.cf_engine_host.specs.BookSteps.{PutsBeside}
use Rattle.cf_engine_queue.specs.Books.{tombstone_value}
use Rattle.cf_engine_steps.specs.Answering.{On}
use Rattle.cf_engine_steps.specs.States.{whole}
use Rattle.cf_model.specs.Books.{with_tombstone}
use Rattle.cf_model.specs.Skips.{try_book}
use Rattle.cf_engine_steps.proofs.Laws.{known}
use Rattle.cf_engine_steps.proofs.books.try_tombstone.Goals as goal

pub returns : goal.returns
returns g c = known (whole g.S.Steps.sense g.R.Remote.told) (On (PutsBeside c.in_ok-record.record (with_tombstone (tombstone_value c.args.tombstone.now)))) (try_book (with_tombstone (tombstone_value c.args.tombstone.now))) (c.args.s.now, c.args.e.now) (c.put_or_leave_out.new.s, c.put_or_leave_out.new.e) c.put_or_leave_out.result
    (λ s i. c.in_ok-record.ensures.puts s.filter i.filter) (c.put_or_leave_out.ensures (with_tombstone (tombstone_value c.args.tombstone.now)))
