use Rattle.std.proofs.Common.{arith}
use Rattle.cf_model.specs.Formats.{spell_id}
use Rattle.cf_table.proofs.ReadExit.{exits}
use Rattle.cf_table.proofs.ReadRuns.{one_less}
use Rattle.cf_volume_image.proofs.ReadParts.{behind_id, count_more, each_taken, id_fault, ids_end, ids_then, no_memory_for_ids}
use Rattle.cf_volume_image.proofs.part_reads.ids_in.Goals as goal

pub returns-in_err-id-clause-fault : goal.returns-in_err-id-clause-fault
returns-in_err-id-clause-fault c =
    exits _ _ _ c.from_residual.ensures.1 (c.loop.invariant.fault _ (id_fault _ _ _ _ _ (one_less c.args.count c.loop.counter (omega arith)) c.in_err-id.ensures.fault))

pub loop-preserved : goal.loop-preserved
loop-preserved c = record {
  took = each_taken spell_id _ _ _ _ _ _ c.in_ok-push.ensures.items c.loop.invariant.took c.in_ok-id.ensures.took;
  count = count_more _ _ _ _ c.in_ok-push.ensures.items c.loop.invariant.count;
  fits = ids_then _ _ _ _ c.in_ok-push.ensures.items c.loop.invariant.fits c.in_ok-id.ensures.fits;
  fault = λ e h. c.loop.invariant.fault e (behind_id _ _ _ _ _ e c.in_ok-id.id (one_less c.args.count c.loop.counter (omega arith)) c.in_ok-id.ensures.fits c.in_ok-id.ensures.took h);
}

pub returns-clause-fits : goal.returns-clause-fits
returns-clause-fits c = ids_end _ _ c.loop.invariant.fits

pub returns-in_err-push-clause-fault : goal.returns-in_err-push-clause-fault
returns-in_err-push-clause-fault c = exits _ _ _ c.from_residual-in_err-push.ensures.1 (no_memory_for_ids _ _ _)
