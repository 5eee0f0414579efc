use Rattle.cf_filter_calls.proofs.Transferred.{restarts_now}
use Rattle.cf_filter_calls.proofs.transfers.restart_now.Goals as goal

pub returns : goal.returns
returns g c = restarts_now g.S.Steps.sense c.args.ask.now.item c.args.size c.args.s.now c.operate.new.s c.operate.result c.operate.ensures
