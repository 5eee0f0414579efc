use Rattle.std.proofs.Common.{arith}
use Rattle.cf_filter_calls.proofs.Listed.{listed_more}
use Rattle.cf_filter_calls.proofs.listings.list_changes.Goals as goal

pub loop-entry-preserved : goal.loop-entry-preserved
loop-entry-preserved c = record {
  all = listed_more c.args.policy.now c.args.dir c.loop-entry.item c.loop-entry.next c.number_past-next.result c.args.list.now c.loop-entry.entry-index c.entry-item.result c.loop-entry.changes c.push.new.self c.push_mark.new.changes _ c.in_ok-make.make
      c.loop-entry-test.true c.entry-item.is c.in_ok-make.ensures c.in_ok-push.ensures.ok c.in_ok-push_mark.ensures c.number_past-next.ensures c.loop-entry.invariant.all;
  ids = omega (arith, c.loop-entry.invariant.ids);
}
