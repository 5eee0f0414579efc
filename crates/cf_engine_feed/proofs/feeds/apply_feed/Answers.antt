use Rattle.cf_engine_feed.proofs.FeedEnds.{closes}
use Rattle.cf_engine_feed.proofs.feeds.apply_feed.Goals as goal

pub returns : goal.returns
returns g c = closes g.S.Steps.sense g.R.Remote.told c.args.s.now c.apply_entries.new.s c.args.clock c.args.entries.now c.args.e.now c.close_round.new.self c.apply_entries.new.e c.apply_entries.result c.close_round.ensures c.apply_entries.ensures
