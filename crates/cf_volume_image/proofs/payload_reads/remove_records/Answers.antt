use Rattle.std.proofs.Common.{◌∙◌, List, ℕ, ap, arith, sym}
use Rattle.cf_model.specs.Formats.{without_record}
use Rattle.cf_volume_image.specs.States.{without_records}
use Rattle.cf_volume_image.proofs.Loops.{drop_at, drop_end}
use Rattle.cf_volume_image.proofs.PayloadSteps.{no_records_removed, records_removed}
use Rattle.cf_volume_image.proofs.payload_reads.remove_records.Goals as goal

pub loop-key-preserved : goal.loop-key-preserved
loop-key-preserved c =
    records_removed c.key-item.result _ _ c.loop-key.records c.remove.new.self _ (drop_at c.args.keys.now c.loop-key.key-index c.key-item.result c.loop-key-test.true c.key-item.is)
    (c.remove.ensures ∙ ap (λ (k : List ℕ). without_record k c.loop-key.records) c.as_slice.ensures) c.loop-key.invariant

pub returns : goal.returns
returns c =
    sym (no_records_removed c.loop-key.records) ∙ ap (λ (l : List (List ℕ)). without_records l c.loop-key.records) (sym (drop_end c.args.keys.now c.loop-key.key-index (omega arith))) ∙ c.loop-key.invariant
