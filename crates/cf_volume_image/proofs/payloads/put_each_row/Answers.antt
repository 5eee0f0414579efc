use Rattle.std.proofs.Common.{arith, get_or}
use Rattle.std.specs.Prelude.{map}
use Rattle.cf_table.specs.Spelling.{row_value}
use Rattle.cf_volume_image.proofs.Loops.{drop_get}
use Rattle.cf_volume_image.proofs.PayloadPuts.{rows_count, rows_put}
use Rattle.cf_volume_image.proofs.payloads.put_each_row.Goals as goal

pub loop-id-preserved : goal.loop-id-preserved
loop-id-preserved c =
    let is = drop_get c.args.ids.now c.loop-id.id-index (record { 0 = 0 }) c.loop-id-test.true in
    record {
      spelled = rows_put (map row_value c.args.rows.now.rows) _ _ (get_or c.args.ids.now c.loop-id.id-index (record { 0 = 0 })) c.loop-id.out c.put_row.new.out _ is c.in_ok-more.ensures.spelled c.loop-id.invariant.spelled;
      count = rows_count (map row_value c.args.rows.now.rows) _ _ (get_or c.args.ids.now c.loop-id.id-index (record { 0 = 0 })) c.loop-id.count c.in_ok-more.more _ is c.in_ok-more.ensures.count c.loop-id.invariant.count;
      small = omega (arith, c.loop-id.invariant.small, c.in_ok-more.ensures.small);
    }
