use Rattle.cf_link.proofs.Sending.{line_is, lined_as, sends}
use Rattle.cf_link.proofs.posts.send.Goals as goal

pub returns-clause-sends : goal.returns-clause-sends
returns-clause-sends c = sends c.args.frame c.args.net.now c.in_ok-message.message c.in_ok-sent.sent c.with_line.result c.send.new.self c.in_ok-sent.ensures.posted c.in_ok-message.ensures c.with_line.ensures

pub returns-clause-line : goal.returns-clause-line
returns-clause-line c = line_is c.in_ok-sent.sent c.with_line.result c.args.frame c.with_line.ensures

pub returns-clause-message : goal.returns-clause-message
returns-clause-message c = lined_as c.in_ok-sent.sent c.with_line.result c.args.frame c.with_line.ensures
