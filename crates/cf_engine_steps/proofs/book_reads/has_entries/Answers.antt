use Rattle.std.proofs.Common.{not}
use Rattle.cf_model.specs.Words.{is_empty}
use Rattle.cf_engine_steps.proofs.BooksRead.{read_of}
use Rattle.cf_engine_steps.proofs.book_reads.has_entries.Goals as goal

pub returns : goal.returns
returns g c = read_of g.S.Steps.sense g.met.S.EngineHost.keepable c.args.s.now c.records.result.now c.records.ensures (λ b. not (is_empty b.entries)) c.has_uploads.result (λ b k same. c.has_uploads.ensures b same)
