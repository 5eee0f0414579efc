use Rattle.cf_engine_feed.proofs.FeedOrder.{all_known, one_known}
use Rattle.cf_engine_feed.proofs.feed_orders.known_items.Goals as goal

pub loop-entry-preserved : goal.loop-entry-preserved
loop-entry-preserved c = λ items m r h. one_known items c.args.entries.now c.loop-entry.entry-index c.entry-item.result c.in_ok-item.item c.loop-entry.known.items c.push.new.self.items c.loop-entry-test.true c.entry-item.is (c.in_ok-item.ensures items m r h) c.in_ok-push.ensures.items (c.loop-entry.invariant items m r h)

pub returns : goal.returns
returns c = λ items m r h. all_known items c.args.entries.now c.loop-entry.entry-index c.loop-entry.known.items c.loop-entry-test.false (c.loop-entry.invariant items m r h)
