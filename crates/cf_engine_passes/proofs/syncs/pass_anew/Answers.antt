use Rattle.cf_engine_passes.proofs.Synced.{anew}
use Rattle.cf_engine_passes.proofs.syncs.pass_anew.Goals as goal

pub returns : goal.returns
returns g c = anew g.S.Steps.sense g.R.Remote.told c.args.s.now c.pass.new.s c.args.e.now c.without_done.new.self c.pass.new.e c.pass.result c.without_done.ensures c.pass.ensures
