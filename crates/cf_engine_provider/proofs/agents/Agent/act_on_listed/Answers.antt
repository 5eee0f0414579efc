use Rattle.std.proofs.Common.{List, ◌∙◌, ap, sym}
use Rattle.std.specs.Prelude.{Ok, Some}
use Rattle.cf_engine_provider.specs.Findings.{Knows}
use Rattle.cf_engine_provider.specs.Parts.{listed, listing_unless, refuse_ask}
use Rattle.cf_base.specs.declared.messages.Entry.{Entry}
use Rattle.cf_base.specs.declared.messages.Reply.{Reply}
use Rattle.cf_engine_provider.proofs.Heard.{alike, no_act, of_any}
use Rattle.cf_engine_provider.proofs.agents.Agent.act_on_listed.Goals as goal

pub returns-in-Listing : goal.returns-in-Listing
returns-in-Listing g c = λ own.
    alike g.R.Remote.told g.P.Port.goes (Knows own c.args.found.now) (listing_unless c.args.found.now.sends_new c.in-Listing.key c.as_slice.result.now) (listed (Some c.args.ask.now) c.args.found.now.sends_new c.args.reply.now) c.args.self.now c.take_listing.new.self c.args.port.now c.take_listing.new.port c.take_listing.result
    (ap (λ (x : Reply). listed (Some c.args.ask.now) c.args.found.now.sends_new x) c.in-Listing.is ∙ ap (λ (l : List Entry). listing_unless c.args.found.now.sends_new c.in-Listing.key l) (sym c.as_slice.ensures)) (c.take_listing.ensures own)

pub returns-in-Missing : goal.returns-in-Missing
returns-in-Missing g c = λ own.
    of_any g.R.Remote.told g.P.Port.goes (Knows own c.args.found.now) (refuse_ask 2 c.args.ask.now) (listed (Some c.args.ask.now) c.args.found.now.sends_new c.args.reply.now) c.args.self.now c.args.self.now c.args.port.now c.refuse_ask.new.port c.refuse_ask.result
    (ap (λ (x : Reply). listed (Some c.args.ask.now) c.args.found.now.sends_new x) c.in-Missing.is) c.refuse_ask.ensures

pub returns-in-Gone : goal.returns-in-Gone
returns-in-Gone g c = λ own.
    no_act g.R.Remote.told g.P.Port.goes (Knows own c.args.found.now) (listed (Some c.args.ask.now) c.args.found.now.sends_new c.args.reply.now) c.args.self.now c.args.port.now (Ok (record {})) (ap (λ (x : Reply). listed (Some c.args.ask.now) c.args.found.now.sends_new x) c.in-Gone.is)
    (g.met.P.Port.stays c.args.port.now)

pub returns-in-Bytes : goal.returns-in-Bytes
returns-in-Bytes g c = λ own.
    no_act g.R.Remote.told g.P.Port.goes (Knows own c.args.found.now) (listed (Some c.args.ask.now) c.args.found.now.sends_new c.args.reply.now) c.args.self.now c.args.port.now (Ok (record {})) (ap (λ (x : Reply). listed (Some c.args.ask.now) c.args.found.now.sends_new x) c.in-Bytes.is)
    (g.met.P.Port.stays c.args.port.now)

pub returns-in-Feed : goal.returns-in-Feed
returns-in-Feed g c = λ own.
    no_act g.R.Remote.told g.P.Port.goes (Knows own c.args.found.now) (listed (Some c.args.ask.now) c.args.found.now.sends_new c.args.reply.now) c.args.self.now c.args.port.now (Ok (record {})) (ap (λ (x : Reply). listed (Some c.args.ask.now) c.args.found.now.sends_new x) c.in-Feed.is)
    (g.met.P.Port.stays c.args.port.now)

pub returns-in-Done : goal.returns-in-Done
returns-in-Done g c = λ own.
    no_act g.R.Remote.told g.P.Port.goes (Knows own c.args.found.now) (listed (Some c.args.ask.now) c.args.found.now.sends_new c.args.reply.now) c.args.self.now c.args.port.now (Ok (record {})) (ap (λ (x : Reply). listed (Some c.args.ask.now) c.args.found.now.sends_new x) c.in-Done.is)
    (g.met.P.Port.stays c.args.port.now)

pub returns-in-Void : goal.returns-in-Void
returns-in-Void g c = λ own.
    no_act g.R.Remote.told g.P.Port.goes (Knows own c.args.found.now) (listed (Some c.args.ask.now) c.args.found.now.sends_new c.args.reply.now) c.args.self.now c.args.port.now (Ok (record {})) (ap (λ (x : Reply). listed (Some c.args.ask.now) c.args.found.now.sends_new x) c.in-Void.is)
    (g.met.P.Port.stays c.args.port.now)

pub returns-in-Refused : goal.returns-in-Refused
returns-in-Refused g c = λ own.
    no_act g.R.Remote.told g.P.Port.goes (Knows own c.args.found.now) (listed (Some c.args.ask.now) c.args.found.now.sends_new c.args.reply.now) c.args.self.now c.args.port.now (Ok (record {})) (ap (λ (x : Reply). listed (Some c.args.ask.now) c.args.found.now.sends_new x) c.in-Refused.is)
    (g.met.P.Port.stays c.args.port.now)
