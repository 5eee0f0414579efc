use Rattle.std.specs.Prelude.{Ok}
use Rattle.cf_engine_provider.proofs.Fetched.{did_fit, did_not_fit, was_dead}
use Rattle.cf_engine_provider.proofs.agents.Agent.take_fetched.Goals as goal

pub returns-then-not-fitting : goal.returns-then-not-fitting
returns-then-not-fitting g c = did_not_fit g.R.Remote.told c.args.key c.args.live c.args.request.now c.args.reply c.requires g.P.Port.goes c.in-Ok.fitting _ c.args.port.now (Ok (record {})) c.in-Ok.ensures c.if-not-fitting.true (g.met.P.Port.stays c.args.port.now)

pub returns-in-Some : goal.returns-in-Some
returns-in-Some g c = did_fit g.R.Remote.told c.args.key c.args.live c.args.request.now c.args.reply c.requires g.P.Port.goes c.in-Ok.fitting c.in-Some.ask _ _ c.args.port.now c.act_on_fetched.new.port c.act_on_fetched.result c.in-Ok.ensures c.if-not-fitting.false c.in-Some.is c.act_on_fetched.ensures

pub returns-in-None : goal.returns-in-None
returns-in-None g c = was_dead g.R.Remote.told c.args.key c.args.live c.args.request.now c.args.reply c.requires g.P.Port.goes c.in-Ok.fitting _ c.args.port.now (Ok (record {})) c.in-Ok.ensures c.if-not-fitting.false c.in-None.is (g.met.P.Port.stays c.args.port.now)
