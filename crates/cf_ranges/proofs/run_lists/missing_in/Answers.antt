use Rattle.std.proofs.Common.{◌+◌, ◌∙◌, arith}
use Rattle.cf_ranges.specs.Steps.{missing_of}
use Rattle.cf_ranges.proofs.Skips.{no_more, none_near}
use Rattle.cf_ranges.proofs.run_lists.missing_in.Goals as goal
use Rattle.cf_ranges.proofs.run_lists.missing_in.Goals.{else-loop-run-test, then-loop-run-test+then-end-run}

pub returns : goal.returns
returns c =
    let end = c.args.span.start + c.args.span.len in
    let all = missing_of c.args.span.start end c.args.runs.now in
    elim c.loop-run-test.branch [
      | else-loop-run-test w ↦ c.in_ok-push_piece-2.ensures ∙ no_more c.loop-run.at end c.loop-run.run-index c.near_runs-near.result.now c.loop-run.out.items all (omega arith) c.loop-run.invariant
      | then-loop-run-test+then-end-run w ↦ c.in_ok-push_piece-2.ensures ∙ none_near c.loop-run.at end c.loop-run.run-index c.near_runs-near.result.now c.loop-run.out.items all (record { start = 0; len = 0 }) (omega arith) (omega arith) c.loop-run.invariant
    ]
