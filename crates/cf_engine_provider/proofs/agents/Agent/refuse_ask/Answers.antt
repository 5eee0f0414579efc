use Rattle.std.proofs.Common.{ap}
use Rattle.std.specs.Prelude.{Ok}
use Rattle.cf_engine_provider.specs.Parts.{refuse_ask, refuse_by}
use Rattle.cf_base.specs.declared.operations.Operation.TheVariants as operation
use Rattle.cf_base.specs.declared.waits.AskKind.{AskKind}
use Rattle.cf_model.specs.Fetching.{do_op}
use Rattle.cf_engine_provider.proofs.Performed.{as_part, no_part}
use Rattle.cf_engine_provider.proofs.agents.Agent.refuse_ask.Goals as goal

pub returns-in-Fetch : goal.returns-in-Fetch
returns-in-Fetch g c =
    as_part g.P.Port.goes g.R.Remote.told (do_op (operation.Refuse c.args.ask.now.key c.args.ask.now.span c.args.status)) (refuse_ask c.args.status c.args.ask.now) c.args.self.now c.args.self.now c.args.port.now c.do_op.new.port c.do_op.result
    (ap (λ (k : AskKind). refuse_by k c.args.status c.args.ask.now) c.in-Fetch.is) c.do_op.ensures

pub returns-in-Validate : goal.returns-in-Validate
returns-in-Validate g c = no_part g.P.Port.goes g.R.Remote.told (refuse_ask c.args.status c.args.ask.now) c.args.self.now c.args.port.now (Ok (record {})) (ap (λ (k : AskKind). refuse_by k c.args.status c.args.ask.now) c.in-Validate.is) (g.met.P.Port.stays c.args.port.now)

pub returns-in-Dehydrate : goal.returns-in-Dehydrate
returns-in-Dehydrate g c = no_part g.P.Port.goes g.R.Remote.told (refuse_ask c.args.status c.args.ask.now) c.args.self.now c.args.port.now (Ok (record {})) (ap (λ (k : AskKind). refuse_by k c.args.status c.args.ask.now) c.in-Dehydrate.is) (g.met.P.Port.stays c.args.port.now)
