use Rattle.cf_pair_run.proofs.Endings.{refusal_written}
use Rattle.cf_pair_run.proofs.scripts.scripted.Goals as goal

pub returns-in-Err-clause-writes : goal.returns-in-Err-clause-writes
returns-in-Err-clause-writes g c =
    refusal_written g.D.Disk.state g.R.Remote.told c.args.first c.args.second c.args.remote c.args.text.now (g.K.Sink.held c.args.sink.now) (g.K.Sink.held c.refuse.new.sink) c.refuse.result c.refuse.ensures.writes
