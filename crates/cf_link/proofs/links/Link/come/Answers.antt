use Rattle.cf_link.proofs.Asked.{fault_does, fault_rises, for_err, reply_does, reply_rises, reply_stops}
use Rattle.cf_link.proofs.links.Link.come.Goals as goal

pub returns-in_default-clause-does : goal.returns-in_default-clause-does
returns-in_default-clause-does g c = fault_does g.R.Remote.told c.args.number c.args.request.now c.self.inside.net c.self.inside.remote c.self.inside.inline c.args.self.now c.ask.new.remote c.self.view_is c.in_ok-reply.field-0 c.in_default.is c.in_ok-reply.ensures

pub returns-in_err-posted-clause-err : goal.returns-in_err-posted-clause-err
returns-in_err-posted-clause-err g c = for_err c.from_residual-in_err-posted.result (reply_stops g.R.Remote.told c.args.number c.args.request.now c.self.inside.net c.self.inside.remote c.self.inside.inline c.args.self.now c.ask.new.remote c.self.view_is c.in_ok-reply.field-0 c.in-Some.reply c.in-Some.is c.in_ok-reply.ensures c.send.new.net)

pub returns-clause-does : goal.returns-clause-does
returns-clause-does g c = reply_does g.R.Remote.told c.args.number c.args.request.now c.self.inside.net c.self.inside.remote c.self.inside.inline c.args.self.now c.ask.new.remote c.self.view_is c.in_ok-reply.field-0 c.in-Some.reply c.in-Some.is c.in_ok-reply.ensures c.in_ok-posted.posted c.send.new.net c.in_ok-posted.ensures.sends c.in_ok-copied.copied c.if_kept-reply.result c.in_ok-copied.ensures c.if_kept-reply.ensures

pub returns-clause-rises : goal.returns-clause-rises
returns-clause-rises g c = reply_rises g.R.Remote.told c.args.number c.args.request.now c.self.inside.net c.self.inside.remote c.self.inside.inline c.args.self.now c.ask.new.remote c.self.view_is c.in_ok-reply.field-0 c.in-Some.reply c.in-Some.is c.in_ok-reply.ensures c.in_ok-posted.posted c.send.new.net c.in_ok-posted.ensures.sends c.in_ok-posted.ensures.message

pub returns-in_default-clause-rises : goal.returns-in_default-clause-rises
returns-in_default-clause-rises g c = fault_rises g.R.Remote.told c.args.number c.args.request.now c.self.inside.net c.self.inside.remote c.self.inside.inline c.args.self.now c.ask.new.remote c.self.view_is c.in_ok-reply.field-0 c.in_default.is c.in_ok-reply.ensures
