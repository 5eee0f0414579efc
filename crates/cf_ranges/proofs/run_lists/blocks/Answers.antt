use Rattle.std.proofs.Common.{◌<◌, length, arith}
use Rattle.cf_base.specs.declared.spans.Span.{Span}
use Rattle.cf_ranges.proofs.Sets.{lower}
use Rattle.cf_ranges.proofs.Blocks.{unrolled, runs_at}
use Rattle.cf_ranges.proofs.run_lists.blocks.Goals as goal

pub loop-run-preserved : goal.loop-run-preserved
loop-run-preserved c =
    let none : Span = record { start = 0; len = 0 } in
    let lt : c.loop-run.run-index < length c.args.runs.now = omega arith in
    let r = runs_at _ c.loop-run.run-index c.args.runs.now none lt c.loop-run.invariant.rest in
    record {
      all = omega (arith, r.0, r.1, unrolled c.loop-run.next c.loop-run.run-index c.args.runs.now none lt);
      few = omega (arith, r.0, r.1);
      rest = lower _ _ _ (omega (arith, r.0, r.1)) r.3;
    }
