use Rattle.cf_engine_queue.specs.Books.{entry_value}
use Rattle.cf_base.specs.declared.codes.CallError.TheVariants.{OutOfMemory}
use Rattle.cf_engine_steps.specs.Answering.{Any}
use Rattle.cf_engine_steps.specs.States.{whole}
use Rattle.cf_engine_replies.specs.Refusals.{held_refused}
use Rattle.cf_model.specs.PushReplies.{by_why, held_and_closed}
use Rattle.cf_model.specs.Skips.{in_volatile}
use Rattle.cf_engine_steps.proofs.Laws.{then_both, with_err}
use Rattle.cf_engine_steps.proofs.Noted.{noted_volatile}
use Rattle.cf_engine_replies.proofs.Parts.{unchanged}
use Rattle.cf_engine_replies.proofs.refusals.hold_back.Goals as goal

pub returns-in_err-hold_back : goal.returns-in_err-hold_back
returns-in_err-hold_back g c = with_err (whole g.S.Steps.sense g.R.Remote.told) Any (held_refused (entry_value c.args.entry.now) c.args.why) (c.args.s.now, c.args.e.now) (c.args.s.now, c.hold_back.new.self) OutOfMemory c.from_residual.result c.from_residual.ensures.1
    (unchanged (whole g.S.Steps.sense g.R.Remote.told) Any (held_refused (entry_value c.args.entry.now) c.args.why) c.args.s.now c.args.e.now c.hold_back.new.self c.in_err-hold_back.ensures.err)

pub returns : goal.returns
returns g c = then_both _ (in_volatile (held_and_closed (entry_value c.args.entry.now))) (by_why c.args.why (entry_value c.args.entry.now)) _ _ _ _ _ _ _ _
    (noted_volatile g.S.Steps.sense g.R.Remote.told Any c.args.s.now c.args.e.now c.hold_back.new.self (held_and_closed (entry_value c.args.entry.now)) c.in_ok-hold_back.ensures.ok) c.go_on.ensures
