use Rattle.std.proofs.Common.{◌-◌, arith, rules}
use Rattle.cf_table.specs.Spelling.{extent_of}
use Rattle.cf_table.proofs.ReadExit.{exits}
use Rattle.cf_table.proofs.ReadRuns.{behind_extent, extent_fault, extents_end, extents_then, no_memory_for_extents, one_less, pairs_taken}
use Rattle.cf_table.proofs.set_reads.read_extents.Goals as goal

pub returns-in_err-pair-clause-fault : goal.returns-in_err-pair-clause-fault
returns-in_err-pair-clause-fault c =
    exits _ _ _ c.from_residual.ensures.1 (c.loop.invariant.fault _ (extent_fault _ _ _ _ _ (one_less c.args.count c.loop.counter (omega arith)) c.in_err-pair.ensures.fault))

pub loop-preserved : goal.loop-preserved
loop-preserved c = record {
  low = let h = c.in_ok-pair.ensures.fits in omega arith;
  took = rw c.in_ok-push.ensures.items (pairs_taken _ _ _ _ _ c.loop.invariant.took c.in_ok-pair.ensures.took);
  count = search rules;
  extents = λ more h. rw (c.in_ok-push.ensures.items) (extents_then _ _ _ _ c.loop.invariant.extents c.in_ok-pair.ensures.fits more h);
  fault = λ e h. c.loop.invariant.fault e (behind_extent _ _ _ _ _ e (extent_of c.in_ok-pair.pair) (one_less c.args.count c.loop.counter (omega arith)) c.in_ok-pair.ensures.fits c.in_ok-pair.ensures.took h);
}

pub returns-clause-extents : goal.returns-clause-extents
returns-clause-extents c = extents_end _ _ c.loop.invariant.extents

pub returns-in_err-push-clause-fault : goal.returns-in_err-push-clause-fault
returns-in_err-push-clause-fault c = exits _ _ _ c.from_residual-in_err-push.ensures.1 (no_memory_for_extents 0 c.args.count (c.args.count - 1) _ (omega arith))
