use Rattle.std.proofs.Common.{◌==◌, refl}
use Rattle.cf_engine_feed.proofs.FeedEnds.{whole_by}
use Rattle.cf_engine_feed.proofs.feed_ends.is_whole.Goals as goal

pub returns : goal.returns
returns g c = whole_by g.S.Steps.sense g.R.Remote.told c.args.s.now c.args.e.now c.requests.result.now c.skips.result c.args.skips c.args.postponed (c.skips.result == c.args.skips) c.list_live-listing.result c.is_all.result c.requests.ensures.means c.skips.ensures refl c.list_live-listing.ensures c.is_all.ensures
