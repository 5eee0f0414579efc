use Rattle.std.proofs.Common.{◌-◌, arith, rules}
use Rattle.cf_table.proofs.ReadExit.{exits}
use Rattle.cf_table.proofs.ReadRuns.{behind_run, no_memory_for_runs, one_less, run_fault, runs_end, runs_then, spans_taken}
use Rattle.cf_table.proofs.set_reads.read_runs.Goals as goal

pub returns-in_err-run-clause-fault : goal.returns-in_err-run-clause-fault
returns-in_err-run-clause-fault c =
    exits _ _ _ c.from_residual.ensures.1 (c.loop.invariant.fault _ (run_fault _ _ _ _ _ (one_less c.args.count c.loop.counter (omega arith)) c.in_err-run.ensures.fault))

pub loop-preserved : goal.loop-preserved
loop-preserved c = record {
  low = let h = c.in_ok-run.ensures.fits in omega arith;
  took = rw c.in_ok-push.ensures.items (spans_taken _ _ _ _ _ c.loop.invariant.took c.in_ok-run.ensures.took);
  count = search rules;
  runs = λ more h. rw (c.in_ok-push.ensures.items) (runs_then _ _ _ _ c.loop.invariant.runs c.in_ok-run.ensures.fits more h);
  fault = λ e h. c.loop.invariant.fault e (behind_run _ _ _ _ _ e c.in_ok-run.run' (one_less c.args.count c.loop.counter (omega arith)) c.in_ok-run.ensures.fits c.in_ok-run.ensures.took h);
}

pub returns-clause-runs : goal.returns-clause-runs
returns-clause-runs c = runs_end _ _ c.loop.invariant.runs

pub returns-in_err-push-clause-fault : goal.returns-in_err-push-clause-fault
returns-in_err-push-clause-fault c = exits _ _ _ c.from_residual-in_err-push.ensures.1 (no_memory_for_runs 0 c.args.count (c.args.count - 1) _ (omega arith))
