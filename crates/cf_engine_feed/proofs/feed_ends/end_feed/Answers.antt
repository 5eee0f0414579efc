use Rattle.cf_engine_feed.proofs.FeedEnds.{ends}
use Rattle.cf_engine_feed.proofs.feed_ends.end_feed.Goals as goal

pub returns : goal.returns
returns g c = ends g.S.Steps.sense g.R.Remote.told c.args.s.now c.move_cursor.new.s c.args.clock c.args.skips c.args.postponed c.args.e.now c.release_all.new.self c.see_clock.new.self c.move_cursor.new.e c.move_cursor.result c.release_all.ensures c.see_clock.ensures c.move_cursor.ensures
