use Rattle.std.proofs.Common.{◌==◌}
use Rattle.std.specs.List.{list_any}
use Rattle.cf_engine_steps.proofs.BooksRead.{read_of}
use Rattle.cf_engine_steps.proofs.UploadsAsked.{of_target}
use Rattle.cf_engine_steps.proofs.book_reads.has_target_entry.Goals as goal

pub returns : goal.returns
returns g c =
    read_of g.S.Steps.sense g.met.S.EngineHost.keepable c.args.s.now c.records.result.now c.records.ensures (λ b. list_any (λ e. e.rid.0 == c.args.rid.0) b.entries) c.has_number.result
    (of_target c.args.rid.0 c.records.result.now c.has_number.result c.has_number.ensures.fits c.has_number.ensures.has)
