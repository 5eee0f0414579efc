use Rattle.std.proofs.Common.{Some, None, refl}
use Rattle.cf_base.specs.declared.notices.Notice.TheVariants as notice
use Rattle.cf_link.specs.Parts.{linked, reply_if}
use Rattle.cf_link.proofs.Asked.{fault_does, fault_rises, reply_does, reply_rises, sent_does}
use Rattle.cf_link.proofs.links.Link.hand.Goals as goal

pub returns-in_default-clause-does : goal.returns-in_default-clause-does
returns-in_default-clause-does g c = sent_does g.R.Remote.told c.args.number c.args.request.now c.args.self.now None (Some (notice.Fault c.args.number)) (linked c.self.inside.net c.ask.new.remote c.self.inside.inline)
    (fault_does g.R.Remote.told c.args.number c.args.request.now c.self.inside.net c.self.inside.remote c.self.inside.inline c.args.self.now c.ask.new.remote c.self.view_is c.in_ok-reply.field-0 c.in_default.is c.in_ok-reply.ensures)

pub returns-clause-does : goal.returns-clause-does
returns-clause-does g c = sent_does g.R.Remote.told c.args.number c.args.request.now c.args.self.now (reply_if c.in_ok-posted.posted.kept c.in-Some.reply) c.in_ok-posted.posted.line (linked c.send.new.net c.ask.new.remote c.self.inside.inline)
    (reply_does g.R.Remote.told c.args.number c.args.request.now c.self.inside.net c.self.inside.remote c.self.inside.inline c.args.self.now c.ask.new.remote c.self.view_is c.in_ok-reply.field-0 c.in-Some.reply c.in-Some.is c.in_ok-reply.ensures c.in_ok-posted.posted c.send.new.net c.in_ok-posted.ensures.sends c.in-Some.reply (reply_if c.in_ok-posted.posted.kept c.in-Some.reply) refl refl)

pub returns-clause-rises : goal.returns-clause-rises
returns-clause-rises g c = reply_rises g.R.Remote.told c.args.number c.args.request.now c.self.inside.net c.self.inside.remote c.self.inside.inline c.args.self.now c.ask.new.remote c.self.view_is c.in_ok-reply.field-0 c.in-Some.reply c.in-Some.is c.in_ok-reply.ensures c.in_ok-posted.posted c.send.new.net c.in_ok-posted.ensures.sends c.in_ok-posted.ensures.message

pub returns-in_default-clause-rises : goal.returns-in_default-clause-rises
returns-in_default-clause-rises g c = fault_rises g.R.Remote.told c.args.number c.args.request.now c.self.inside.net c.self.inside.remote c.self.inside.inline c.args.self.now c.ask.new.remote c.self.view_is c.in_ok-reply.field-0 c.in_default.is c.in_ok-reply.ensures
