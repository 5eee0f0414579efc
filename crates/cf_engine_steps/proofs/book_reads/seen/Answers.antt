use Rattle.cf_model.specs.Books.{seen_of}
use Rattle.cf_engine_steps.proofs.BooksRead.{read_if}
use Rattle.cf_engine_steps.proofs.book_reads.seen.Goals as goal

pub returns : goal.returns
returns g c = read_if g.S.Steps.sense g.met.S.EngineHost.keepable c.args.s.now c.records.result.now c.records.ensures (λ b. seen_of b c.args.item) (λ o. o) c.find_seen.result c.find_seen.ensures
