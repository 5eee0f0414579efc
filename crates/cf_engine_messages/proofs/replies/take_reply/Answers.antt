use Rattle.cf_engine_messages.proofs.RepliesTaken.{taken_now, taken_stale}
use Rattle.cf_engine_steps.specs.States.{whole}
use Rattle.cf_engine_messages.proofs.replies.take_reply.Goals as goal

pub returns-then-branch : goal.returns-then-branch
returns-then-branch g c = taken_stale (whole g.S.Steps.sense g.R.Remote.told) c.args.request.now c.args.reply (c.args.s.now, c.args.e.now) c.in_ok-is_stale.field-0 c.in_ok-is_stale.ensures c.if-branch.true

pub returns : goal.returns
returns g c = taken_now (whole g.S.Steps.sense g.R.Remote.told) c.args.request.now c.args.reply (c.args.s.now, c.args.e.now) (c.act_on.new.s, c.act_on.new.e) c.in_ok-is_stale.field-0 c.act_on.result c.in_ok-is_stale.ensures c.if-branch.false c.act_on.ensures
