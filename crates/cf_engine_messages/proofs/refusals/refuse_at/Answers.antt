use Rattle.cf_engine_messages.proofs.Operated.{ask_there, no_ask}
use Rattle.cf_engine_messages.proofs.refusals.refuse_at.Goals as goal

pub returns-in-Some : goal.returns-in-Some
returns-in-Some g c = ask_there g.S.Steps.sense g.R.Remote.told c.args.status c.args.key c.requests.result.now c.ask.result c.in-Some.ask c.args.s.now c.refuse_ask.new.s c.args.e.now c.refuse_ask.new.e c.refuse_ask.result c.requests.ensures.means c.ask.ensures c.in-Some.is c.refuse_ask.ensures

pub returns-in-None : goal.returns-in-None
returns-in-None g c = no_ask g.S.Steps.sense g.R.Remote.told c.args.status c.args.key c.requests.result.now c.ask.result c.args.s.now c.args.e.now c.requests.ensures.means c.ask.ensures c.in-None.is
