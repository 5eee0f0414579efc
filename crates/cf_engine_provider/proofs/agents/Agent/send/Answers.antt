use Rattle.std.proofs.Common.{◌++◌, ap, subst}
use Rattle.cf_engine_provider.specs.Agencies.{Agency}
use Rattle.cf_engine_provider.specs.Parts.{Exchanges}
use Rattle.cf_engine_provider.proofs.Sent.{spoke}
use Rattle.cf_engine_provider.proofs.agents.Agent.send.Goals as goal

pub returns-in_default : goal.returns-in_default
returns-in_default g c = (c.note_line.ensures.0, c.note_line.ensures.1)

pub returns-in_default-note_line : goal.returns-in_default-note_line
returns-in_default-note_line g c = (
  c.in-Ok.ensures.0 ++ c.note_line-2.ensures.0,
  g.met.P.Port.goes_on c.args.port.now c.note_line.new.port c.note_line-2.new.port c.in-Ok.ensures.0 c.note_line-2.ensures.0 c.in-Ok.ensures.1 c.note_line-2.ensures.1,
)

pub returns : goal.returns
returns g c =
    spoke g.P.Port.goes g.R.Remote.told c.args.request.now c.args.self.now g.met.P.Port.goes_on c.in_ok-exchange.exchange c.speak.new.link
    (record { link = c.speak.new.link; shows_skips = c.self.inside.shows_skips; skips = c.self.inside.skips }) c.args.port.now c.note_line.new.port c.note_line-2.new.port _ _
    (subst (λ (x : Agency g.row.R.Denot). Exchanges g.R.Remote.told c.args.request.now x.link c.in_ok-exchange.exchange c.speak.new.link) c.self.view_is c.in_ok-exchange.ensures)
    (ap (λ (x : Agency g.row.R.Denot). record x { link = c.speak.new.link }) c.self.view_is) c.in-Ok.ensures c.in-Ok-note_line.ensures
