use Rattle.std.proofs.Common.{◌++◌, ◌∙◌, List, ℕ, ap, arith, length}
use Rattle.std.specs.List.{flat_map}
use Rattle.cf_model.specs.Formats.{spell_record}
use Rattle.cf_volume_image.specs.Contents.{one_record}
use Rattle.cf_volume_image.proofs.Loops.{drop_at}
use Rattle.cf_volume_image.proofs.PayloadPuts.{records_count, records_put}
use Rattle.cf_volume_image.proofs.payloads.put_each_record.Goals as goal

pub loop-key-preserved : goal.loop-key-preserved
loop-key-preserved c =
    let is = drop_at c.args.keys.now c.loop-key.key-index c.key-item.result c.loop-key-test.true c.key-item.is in
    record {
      spelled = records_put c.args.records.now _ _ c.key-item.result c.loop-key.out c.put_one.new.out _ is (c.in_ok-more.ensures.spelled ∙ ap (λ (k : List ℕ). c.loop-key.out ++ flat_map spell_record (one_record c.args.records.now k)) c.as_slice.ensures) c.loop-key.invariant.spelled;
      count = records_count c.args.records.now _ _ c.key-item.result c.loop-key.count c.in_ok-more.more _ is (c.in_ok-more.ensures.count ∙ ap (λ (k : List ℕ). length (one_record c.args.records.now k)) c.as_slice.ensures) c.loop-key.invariant.count;
      small = omega (arith, c.loop-key.invariant.small, c.in_ok-more.ensures.small);
    }
