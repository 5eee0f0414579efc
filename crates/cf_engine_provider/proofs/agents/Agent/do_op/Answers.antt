use Rattle.std.specs.Prelude.{Ok}
use Rattle.cf_engine_provider.proofs.Performed.{did}
use Rattle.cf_engine_provider.proofs.agents.Agent.do_op.Goals as goal

pub returns : goal.returns
returns g c = did g.P.Port.goes g.R.Remote.told c.args.op.now c.args.self.now c.args.port.now c.attempt.new.port c.in_ok-attempt.field-0 (Ok (record {})) c.in_ok-attempt.ensures
