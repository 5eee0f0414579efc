use Rattle.std.specs.List.{list_any}
use Rattle.cf_model.specs.PushReplies.{is_new_entry}
use Rattle.cf_engine_steps.proofs.BooksRead.{read_if}
use Rattle.cf_engine_steps.proofs.book_reads.has_new_entry.Goals as goal

pub returns : goal.returns
returns g c = read_if g.S.Steps.sense g.met.S.EngineHost.keepable c.args.s.now c.records.result.now c.records.ensures (λ b. list_any is_new_entry b.entries) (λ x. x) c.sends_new.result c.sends_new.ensures
