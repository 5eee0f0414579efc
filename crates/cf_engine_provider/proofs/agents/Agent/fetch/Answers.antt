use Rattle.std.proofs.Common.{[], refl, sym, subst}
use Rattle.std.specs.Prelude.{◌≡◌, Ok, Some, None, List}
use Rattle.cf_engine_provider.specs.Agencies.{Plays}
use Rattle.cf_engine_provider.specs.Answering.{IsLive}
use Rattle.cf_base.specs.declared.waits.AskKind.TheVariants as ask_kind
use Rattle.cf_model.specs.Agents.{fetch_of}
use Rattle.cf_model.specs.Messages.{take_reply}
use Rattle.cf_model.specs.Ports.{Act}
use Rattle.cf_table.specs.Tables.{Table, row_of}
use Rattle.cf_engine_provider.proofs.Called.{answered, gone, live_now, unanswered}
use Rattle.cf_engine_provider.proofs.Sent.{ended, went_on}
use Rattle.cf_engine_provider.proofs.agents.Agent.fetch.Goals as goal

pub returns-in_default : goal.returns-in_default
returns-in_default g c = (
  [],
  g.met.P.Port.stays c.args.port.now,
  λ ok.
      gone g.R.Remote.told (g.P.Port.sight c.args.port.now) c.args.call.now ask_kind.Fetch c.args.self.now (λ z. refl) c.requires (subst (λ (t : Table). row_of t.rows c.args.call.now.ask.item ≡ None) c.rows.ensures (sym c.in_default.ensures)),
)

pub returns-in-Ok-None : goal.returns-in-Ok-None
returns-in-Ok-None g c =
    ended g.P.Port.goes g.R.Remote.told c.in-Some-fetch_of.request c.args.self.now g.met.P.Port.goes_on (g.P.Port.sight c.args.port.now) c.args.call.now c.send.new.self c.args.port.now c.send.new.port c.in-Ok-None.field-0 (Ok (record {}))
    c.in-Ok-None.ensures c.in-Ok-None.field-0-is
    (unanswered g.R.Remote.told (g.P.Port.sight c.args.port.now) c.args.call.now ask_kind.Fetch (fetch_of c.args.call.now.ask) (λ i z. refl) c.in-Some.row.now c.fetch_of.result c.requires
    (subst (λ (t : Table). row_of t.rows c.args.call.now.ask.item ≡ Some c.in-Some.row.now) c.rows.ensures (sym c.in-Some.ensures)) c.fetch_of.ensures.is c.in-Some-fetch_of.request c.in-Some-fetch_of.is c.args.self.now c.send.new.self)
    g.met.P.Port.stays

pub returns-in-Ok-Some : goal.returns-in-Ok-Some
returns-in-Ok-Some g c =
    went_on g.P.Port.goes g.R.Remote.told c.in-Some-fetch_of.request c.args.self.now g.met.P.Port.goes_on (g.P.Port.sight c.args.port.now) c.args.call.now c.send.new.self c.take_fetched-taken.new.self c.args.port.now c.send.new.port c.take_fetched-taken.new.port
    c.in-Ok-Some.field-0 c.in-Ok-Some.reply (λ (acts : List Act). Plays g.R.Remote.told (IsLive c.args.call.now.ask.key c.ask-live.result) (take_reply c.in-Some-fetch_of.request c.in-Ok-Some.reply) c.send.new.self acts c.take_fetched-taken.new.self) c.take_fetched-taken.result
    c.in-Ok-Some.ensures c.in-Ok-Some.field-0-is
    (λ acts more carries next.
    answered g.R.Remote.told (g.P.Port.sight c.args.port.now) c.args.call.now ask_kind.Fetch (fetch_of c.args.call.now.ask) (λ i z. refl) c.in-Some.row.now c.fetch_of.result c.requires
    (subst (λ (t : Table). row_of t.rows c.args.call.now.ask.item ≡ Some c.in-Some.row.now) c.rows.ensures (sym c.in-Some.ensures)) c.fetch_of.ensures.is c.in-Some-fetch_of.request c.in-Some-fetch_of.is (IsLive c.args.call.now.ask.key c.ask-live.result) c.args.self.now c.send.new.self c.take_fetched-taken.new.self
    acts more c.in-Ok-Some.reply (live_now g.R.Remote.told (g.P.Port.sight c.args.port.now) c.args.call.now c.ask-live.result c.ask-live.ensures) carries next)
    c.take_fetched-taken.ensures
