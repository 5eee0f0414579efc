use Rattle.std.proofs.Common.{◌+◌, ◌∙◌, ◌-◌, List, None, Option, ℕ, ap, arith, subst}
use Rattle.cf_model.specs.Formats.{spell_record}
use Rattle.cf_table.proofs.ReadExit.{exits}
use Rattle.cf_table.proofs.ReadRuns.{one_less}
use Rattle.cf_volume_image.specs.Faults.{AtRecordsFrom}
use Rattle.cf_volume_image.specs.RecordLists.{last_key_of}
use Rattle.cf_volume_image.proofs.ReadParts.{behind_record, count_more, each_taken, last_key_more, no_memory_for_records, record_fault, records_end, records_then}
use Rattle.cf_volume_image.proofs.part_reads.records_in.Goals as goal

pub returns-in_err-record-clause-fault : goal.returns-in_err-record-clause-fault
returns-in_err-record-clause-fault c =
    exits _ _ _ c.from_residual.ensures.1
    (c.loop.invariant.fault _ (record_fault _ _ _ _ _ _ (one_less c.args.count c.loop.counter (omega arith)) (c.last_key.ensures ∙ ap (last_key_of None) c.deref.ensures.value) c.in_err-record.ensures.fault))

pub loop-preserved : goal.loop-preserved
loop-preserved c =
    let same = c.last_key.ensures ∙ ap (last_key_of None) c.deref.ensures.value in
    let is = c.in_ok-push.ensures.items in
    record {
      took = each_taken spell_record _ _ _ _ _ _ is c.loop.invariant.took c.in_ok-record.ensures.took;
      count = count_more _ _ _ _ is c.loop.invariant.count;
      fits = records_then _ _ _ _ is same c.loop.invariant.fits c.in_ok-record.ensures.fits;
      fault = λ e h. c.loop.invariant.fault e
          (behind_record _ _ _ _ _ _ e c.in_ok-record.«record» (one_less c.args.count c.loop.counter (omega arith)) same c.in_ok-record.ensures.fits c.in_ok-record.ensures.took
          (subst (λ (b : Option (List ℕ)). AtRecordsFrom b (c.args.count - (c.loop.counter + 1)) c.read_record.new.r e) (ap (last_key_of None) is ∙ last_key_more None c.loop.records.items c.in_ok-record.«record») h));
    }

pub returns-clause-fits : goal.returns-clause-fits
returns-clause-fits c = records_end _ c.loop.invariant.fits

pub returns-in_err-push-clause-fault : goal.returns-in_err-push-clause-fault
returns-in_err-push-clause-fault c = exits _ _ _ c.from_residual-in_err-push.ensures.1 (no_memory_for_records _ _ _)
