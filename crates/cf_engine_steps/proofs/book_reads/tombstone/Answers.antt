use Rattle.std.specs.Prelude.{option_map}
use Rattle.cf_model.specs.Books.{tombstone_of}
use Rattle.cf_engine_queue.specs.Books.{tombstone_value}
use Rattle.cf_engine_steps.proofs.BooksRead.{read_if}
use Rattle.cf_engine_steps.proofs.book_reads.tombstone.Goals as goal

pub returns : goal.returns
returns g c = read_if g.S.Steps.sense g.met.S.EngineHost.keepable c.args.s.now c.records.result.now c.records.ensures (λ b. tombstone_of b c.args.number) (option_map tombstone_value) c.find_tombstone.result c.find_tombstone.ensures
