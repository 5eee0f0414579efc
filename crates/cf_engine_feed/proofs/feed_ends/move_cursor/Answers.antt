use Rattle.cf_engine_steps.specs.States.{whole}
use Rattle.cf_engine_feed.proofs.FeedEnds.{cursor_put, cursor_stays}
use Rattle.cf_engine_feed.proofs.feed_ends.move_cursor.Goals as goal

pub returns-then-is_whole : goal.returns-then-is_whole
returns-then-is_whole g c = cursor_put (whole g.S.Steps.sense g.R.Remote.told) c.args.clock c.args.skips c.args.postponed c.is_whole.result (c.args.s.now, c.args.e.now) (c.put_cursor.new.s, c.put_cursor.new.e) c.put_cursor.result c.is_whole.ensures c.if-is_whole.true c.put_cursor.ensures

pub returns-else-is_whole : goal.returns-else-is_whole
returns-else-is_whole g c = cursor_stays (whole g.S.Steps.sense g.R.Remote.told) c.args.clock c.args.skips c.args.postponed c.is_whole.result (c.args.s.now, c.args.e.now) c.is_whole.ensures c.if-is_whole.false
