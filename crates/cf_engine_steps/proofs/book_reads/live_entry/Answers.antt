use Rattle.std.specs.Prelude.{option_map}
use Rattle.cf_model.specs.Books.{entry_of}
use Rattle.cf_engine_queue.specs.Books.{entry_value}
use Rattle.cf_engine_steps.proofs.BooksRead.{read_if}
use Rattle.cf_engine_steps.proofs.book_reads.live_entry.Goals as goal

pub returns : goal.returns
returns g c = read_if g.S.Steps.sense g.met.S.EngineHost.keepable c.args.s.now c.records.result.now c.records.ensures (λ b. entry_of b c.args.token) (option_map entry_value) c.find_entry.result c.find_entry.ensures
