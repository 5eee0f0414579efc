use Rattle.cf_engine_steps.proofs.BooksRead.{read_if}
use Rattle.cf_engine_steps.proofs.book_reads.cursor.Goals as goal

pub returns : goal.returns
returns g c = read_if g.S.Steps.sense g.met.S.EngineHost.keepable c.args.s.now c.records.result.now c.records.ensures (λ b. b.cursor) (λ n. n) c.find_cursor.result c.find_cursor.ensures
