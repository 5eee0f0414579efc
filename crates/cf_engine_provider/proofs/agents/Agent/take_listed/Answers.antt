use Rattle.std.proofs.Common.{[]}
use Rattle.std.specs.Prelude.{None, Some}
use Rattle.cf_engine_provider.specs.Findings.{Knows}
use Rattle.cf_engine_provider.proofs.Heard.{fit, unfit}
use Rattle.cf_engine_provider.proofs.Played.{nothing}
use Rattle.cf_engine_provider.proofs.agents.Agent.take_listed.Goals as goal

pub returns-then-not-fitting : goal.returns-then-not-fitting
returns-then-not-fitting g c = ([], g.met.P.Port.stays c.args.port.now, λ ok. unfit g.R.Remote.told c.args.key c.args.found.now c.args.request.now c.args.reply.now c.requires c.in_ok-fitting.fitting c.args.self.now c.in_ok-fitting.ensures c.if-not-fitting.true)

pub returns-in-Some : goal.returns-in-Some
returns-in-Some g c =
    let h = c.act_on_listed.ensures c.args.key in (
      h.0,
      h.1,
      λ ok. fit g.R.Remote.told c.args.key c.args.found.now c.args.request.now c.args.reply.now c.requires c.in_ok-fitting.fitting c.args.self.now c.act_on_listed.new.self h.0 (Some c.in-Some.ask) c.in_ok-fitting.ensures c.if-not-fitting.false c.in-Some.is (h.2 ok),
    )

pub returns-in-None : goal.returns-in-None
returns-in-None g c = (
  [],
  g.met.P.Port.stays c.args.port.now,
  λ ok.
      fit g.R.Remote.told c.args.key c.args.found.now c.args.request.now c.args.reply.now c.requires c.in_ok-fitting.fitting c.args.self.now c.args.self.now [] None c.in_ok-fitting.ensures c.if-not-fitting.false c.in-None.is (nothing g.R.Remote.told (Knows c.args.key c.args.found.now) c.args.self.now),
)
