use Rattle.cf_engine_provider.proofs.Performed.{refused_for}
use Rattle.cf_engine_provider.proofs.agents.Agent.refuse_for.Goals as goal

pub returns : goal.returns
returns g c =
    refused_for g.P.Port.goes g.R.Remote.told g.met.P.Port.goes_on c.args.key c.args.span c.args.code c.number.result c.args.self.now c.skip.new.self c.skip.new.self c.args.port.now c.skip.new.port c.do_op.new.port c.in_ok-skip.field-0 c.do_op.result
    c.number.ensures c.in_ok-skip.ensures c.do_op.ensures
