use Rattle.cf_pair_lane.proofs.SentAsks.{asked}
use Rattle.cf_pair_lane.proofs.lanes.LaneRemote.ask.Goals as goal

pub returns : goal.returns
returns g c = asked g.R.Remote.told c.args.q.now c.args.self.now c.pass.new.self c.pass.result c.pass.ensures.sent c.pass.ensures.stays c.pass.ensures.not_sent c.pass.ensures.counted
