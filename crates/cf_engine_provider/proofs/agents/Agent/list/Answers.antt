use Rattle.std.proofs.Common.{[], refl, sym, subst}
use Rattle.std.specs.Prelude.{◌≡◌, List, None, Ok, Some}
use Rattle.cf_engine_provider.specs.Agencies.{Plays}
use Rattle.cf_engine_provider.specs.Findings.{Knows}
use Rattle.cf_base.specs.declared.waits.AskKind.TheVariants as ask_kind
use Rattle.cf_model.specs.Agents.{list_of}
use Rattle.cf_model.specs.Messages.{take_reply}
use Rattle.cf_model.specs.Ports.{Act}
use Rattle.cf_table.specs.Tables.{Table, row_of}
use Rattle.cf_engine_provider.proofs.Called.{answered, gone, unanswered}
use Rattle.cf_engine_provider.proofs.Sent.{ended, went_on}
use Rattle.cf_engine_provider.proofs.agents.Agent.list.Goals as goal

pub returns-in_default : goal.returns-in_default
returns-in_default g c = (
  [],
  g.met.P.Port.stays c.args.port.now,
  λ ok.
      gone g.R.Remote.told (g.P.Port.sight c.args.port.now) c.args.call.now ask_kind.List c.args.self.now (λ z. refl) c.requires (subst (λ (t : Table). row_of t.rows c.args.call.now.ask.item ≡ None) c.rows.ensures (sym c.in_default.ensures)),
)

pub returns-in-Ok-None : goal.returns-in-Ok-None
returns-in-Ok-None g c =
    ended g.P.Port.goes g.R.Remote.told c.in-Some-list_of.request c.args.self.now g.met.P.Port.goes_on (g.P.Port.sight c.args.port.now) c.args.call.now c.send.new.self c.args.port.now c.send.new.port c.in-Ok-None.field-0 (Ok (record {}))
    c.in-Ok-None.ensures c.in-Ok-None.field-0-is
    (unanswered g.R.Remote.told (g.P.Port.sight c.args.port.now) c.args.call.now ask_kind.List (list_of c.args.call.now.ask) (λ i z. refl) c.in-Some.row.now c.list_of.result c.requires
    (subst (λ (t : Table). row_of t.rows c.args.call.now.ask.item ≡ Some c.in-Some.row.now) c.rows.ensures (sym c.in-Some.ensures)) c.list_of.ensures.is c.in-Some-list_of.request c.in-Some-list_of.is c.args.self.now c.send.new.self)
    g.met.P.Port.stays

pub returns-in-Ok-Some : goal.returns-in-Ok-Some
returns-in-Ok-Some g c =
    went_on g.P.Port.goes g.R.Remote.told c.in-Some-list_of.request c.args.self.now g.met.P.Port.goes_on (g.P.Port.sight c.args.port.now) c.args.call.now c.send.new.self c.take_listed-taken.new.self c.args.port.now c.send.new.port c.take_listed-taken.new.port
    c.in-Ok-Some.field-0 c.in-Ok-Some.reply (λ (acts : List Act). Plays g.R.Remote.told (Knows c.args.call.now.ask.key c.in-Ok.found) (take_reply c.in-Some-list_of.request c.in-Ok-Some.reply) c.send.new.self acts c.take_listed-taken.new.self) c.take_listed-taken.result
    c.in-Ok-Some.ensures c.in-Ok-Some.field-0-is
    (λ acts more carries next.
    answered g.R.Remote.told (g.P.Port.sight c.args.port.now) c.args.call.now ask_kind.List (list_of c.args.call.now.ask) (λ i z. refl) c.in-Some.row.now c.list_of.result c.requires
    (subst (λ (t : Table). row_of t.rows c.args.call.now.ask.item ≡ Some c.in-Some.row.now) c.rows.ensures (sym c.in-Some.ensures)) c.list_of.ensures.is c.in-Some-list_of.request c.in-Some-list_of.is
    (Knows c.args.call.now.ask.key c.in-Ok.found) c.args.self.now c.send.new.self c.take_listed-taken.new.self acts more c.in-Ok-Some.reply (λ f h. c.in-Ok.ensures f h.shows h.book) carries next)
    c.take_listed-taken.ensures
