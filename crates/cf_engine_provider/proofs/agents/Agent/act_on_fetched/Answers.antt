use Rattle.std.proofs.Common.{ap}
use Rattle.std.specs.Prelude.{Ok, Some}
use Rattle.cf_engine_provider.specs.Parts.{fetched}
use Rattle.cf_base.specs.declared.messages.Reply.{Reply}
use Rattle.cf_model.specs.Fetching.{take_bytes}
use Rattle.cf_engine_provider.proofs.Performed.{as_part, no_part}
use Rattle.cf_engine_provider.proofs.agents.Agent.act_on_fetched.Goals as goal

pub returns-in-Bytes : goal.returns-in-Bytes
returns-in-Bytes g c =
    as_part g.P.Port.goes g.R.Remote.told (take_bytes c.in-Bytes.key c.in-Bytes.start c.in-Bytes.bytes) (fetched (Some c.args.ask.now) c.args.reply) c.args.self.now c.take_bytes.new.self c.args.port.now c.take_bytes.new.port c.take_bytes.result
    (ap (λ (x : Reply). fetched (Some c.args.ask.now) x) c.in-Bytes.is) c.take_bytes.ensures

pub returns-in-Feed : goal.returns-in-Feed
returns-in-Feed g c = no_part g.P.Port.goes g.R.Remote.told (fetched (Some c.args.ask.now) c.args.reply) c.args.self.now c.args.port.now (Ok (record {})) (ap (λ (x : Reply). fetched (Some c.args.ask.now) x) c.in-Feed.is) (g.met.P.Port.stays c.args.port.now)

pub returns-in-Listing : goal.returns-in-Listing
returns-in-Listing g c = no_part g.P.Port.goes g.R.Remote.told (fetched (Some c.args.ask.now) c.args.reply) c.args.self.now c.args.port.now (Ok (record {})) (ap (λ (x : Reply). fetched (Some c.args.ask.now) x) c.in-Listing.is) (g.met.P.Port.stays c.args.port.now)

pub returns-in-Done : goal.returns-in-Done
returns-in-Done g c = no_part g.P.Port.goes g.R.Remote.told (fetched (Some c.args.ask.now) c.args.reply) c.args.self.now c.args.port.now (Ok (record {})) (ap (λ (x : Reply). fetched (Some c.args.ask.now) x) c.in-Done.is) (g.met.P.Port.stays c.args.port.now)

pub returns-in-Void : goal.returns-in-Void
returns-in-Void g c = no_part g.P.Port.goes g.R.Remote.told (fetched (Some c.args.ask.now) c.args.reply) c.args.self.now c.args.port.now (Ok (record {})) (ap (λ (x : Reply). fetched (Some c.args.ask.now) x) c.in-Void.is) (g.met.P.Port.stays c.args.port.now)

pub returns : goal.returns
returns g c = no_part g.P.Port.goes g.R.Remote.told (fetched (Some c.args.ask.now) c.args.reply) c.args.self.now c.args.port.now (Ok (record {})) (ap (λ (x : Reply). fetched (Some c.args.ask.now) x) c.in-Refused.is) (g.met.P.Port.stays c.args.port.now)
