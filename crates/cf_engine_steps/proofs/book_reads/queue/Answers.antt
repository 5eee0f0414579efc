use Rattle.cf_engine_queue.specs.Records.{queue_of}
use Rattle.cf_engine_steps.proofs.BooksRead.{read_if}
use Rattle.cf_engine_steps.proofs.book_reads.queue.Goals as goal

pub returns : goal.returns
returns g c = read_if g.S.Steps.sense g.met.S.EngineHost.keepable c.args.s.now c.records.result.now c.records.ensures queue_of (λ q. q) c.load_pending.result c.load_pending.ensures
