use Rattle.cf_engine_steps.proofs.Marked.{stands_by}
use Rattle.cf_engine_steps.specs.BookReads.{is_seen_in}
use Rattle.cf_engine_steps.specs.Marks.{StandsIf}
use Rattle.cf_filter_steps.proofs.Laws.{ok_map}
use Rattle.cf_filter_steps.specs.Answering.{Any, Reads}
use Rattle.cf_engine_steps.proofs.targets.stands_at_seen.Goals as goal

pub returns : goal.returns
returns g c =
    ok_map c.is_seen_at.result (Reads g.S.Steps.sense Any (is_seen_in c.args.row.now.id c.in_ok-parent.parent c.as_slice.result.now) c.args.s.now) (StandsIf g.S.Steps.sense c.args.row.now c.args.s.now)
    (λ b is. stands_by g.S.Steps.sense c.args.s.now c.args.row.now c.in_ok-parent.parent c.as_slice.result.now b c.in_ok-parent.ensures c.as_slice.ensures is) c.is_seen_at.ensures
