use Rattle.std.proofs.Common.{arith}
use Rattle.cf_wire.proofs.FrameLaws.{reply_answered, reply_only}
use Rattle.cf_wire.proofs.replies.read_reply.Goals as goal

pub returns-clause-read : goal.returns-clause-read
returns-clause-read c = reply_answered c.args.bytes.now c.reply.result (λ i. omega (arith, c.type_inv.bytes i)) c.reply.ensures

pub returns-clause-only : goal.returns-clause-only
returns-clause-only c = λ x h. reply_only c.args.bytes.now c.reply.result x h c.reply.ensures
