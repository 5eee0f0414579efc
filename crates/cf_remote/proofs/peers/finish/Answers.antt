use Rattle.std.proofs.Common.{◌+◌}
use Rattle.cf_remote.proofs.PeerAnswers.{send_finishes, tell_finishes}
use Rattle.cf_remote.proofs.peers.finish.Goals as goal

pub returns-in-Tell : goal.returns-in-Tell
returns-in-Tell g c = tell_finishes c.args.plan c.in-Tell.rid c.in-Tell.version c.args.next.now (g.R.Remote.told c.args.remote.now) c.answer.result c.in-Tell.is c.answer.ensures

pub returns-in-Send : goal.returns-in-Send
returns-in-Send g c = send_finishes c.args.plan c.in-Send.q c.args.next.now (g.R.Remote.told c.args.remote.now) c.send.result (c.args.next.now + 1) (g.R.Remote.told c.send.new.remote) c.in-Send.is (c.send.ensures c.args.next.now)
