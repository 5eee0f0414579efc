use Rattle.std.proofs.Common.{◌==◌, ◌&&◌}
use Rattle.cf_model.specs.Books.{seen_of}
use Rattle.cf_model.specs.Words.{same, says}
use Rattle.cf_engine_steps.proofs.BooksRead.{read_if}
use Rattle.cf_engine_steps.proofs.book_reads.is_seen_at.Goals as goal

pub returns : goal.returns
returns g c =
    read_if g.S.Steps.sense g.met.S.EngineHost.keepable c.args.s.now c.records.result.now c.records.ensures (λ b. says (λ p. (c.args.parent.0 == p.parent.0) && same c.args.name.now p.name) (seen_of b c.args.item)) (λ x. x) c.is_seen_at.result c.is_seen_at.ensures
