use Rattle.std.proofs.Common.{◌==◌, ◌&&◌}
use Rattle.cf_engine_steps.proofs.BooksRead.{read_if}
use Rattle.cf_engine_steps.proofs.Marked.{stands_by}
use Rattle.cf_engine_steps.specs.BookReads.{is_seen_in}
use Rattle.cf_engine_steps.specs.Marks.{StandsIf}
use Rattle.cf_filter_steps.proofs.Laws.{ok_map}
use Rattle.cf_filter_steps.specs.Answering.{Any, Reads}
use Rattle.cf_model.specs.Books.{seen_of}
use Rattle.cf_model.specs.Words.{same, says}
use Rattle.cf_engine_uploads.proofs.turns.stands_at_seen.Goals as goal

pub returns-clause-stands : goal.returns-clause-stands
returns-clause-stands g c =
    ok_map c.is_at.result (Reads g.S.Steps.sense Any (is_seen_in c.args.row.now.id c.in_ok-parent.parent c.as_slice.result.now) c.args.s.now) (StandsIf g.S.Steps.sense c.args.row.now c.args.s.now)
    (λ b is. stands_by g.S.Steps.sense c.args.s.now c.args.row.now c.in_ok-parent.parent c.as_slice.result.now b c.in_ok-parent.ensures c.as_slice.ensures is)
    (read_if g.S.Steps.sense g.met.S.EngineHost.keepable c.args.s.now c.args.seen.now c.requires (λ b. says (λ p. (c.in_ok-parent.parent.0 == p.parent.0) && same c.as_slice.result.now p.name) (seen_of b c.args.row.now.id)) (λ x. x) c.is_at.result c.is_at.ensures.value)
