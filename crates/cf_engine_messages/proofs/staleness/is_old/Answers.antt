use Rattle.cf_engine_messages.proofs.StaleReplies.{old_feed}
use Rattle.cf_engine_messages.proofs.staleness.is_old.Goals as goal

pub returns-in-Feed : goal.returns-in-Feed
returns-in-Feed g c = old_feed g.S.Steps.sense c.args.s.now g.R.Remote.told c.args.e.now c.args.reply.now c.in-Feed.round c.in-Feed.clock c.in-Feed.entries c.is_feed_old.result c.in-Feed.is (c.is_feed_old.ensures c.in-Feed.entries)
