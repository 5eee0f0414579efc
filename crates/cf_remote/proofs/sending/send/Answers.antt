use Rattle.std.proofs.Common.{Bool, subst}
use Rattle.std.specs.Prelude.{IfOk}
use Rattle.cf_remote.specs.LookUps.{Shows}
use Rattle.cf_remote.proofs.PeerAnswers.{failed_does, replied_does, unsent_does}
use Rattle.cf_remote.proofs.sending.send.Goals as goal

pub returns-in_default : goal.returns-in_default
returns-in_default g c next = unsent_does c.args.q next (g.R.Remote.told c.args.remote.now) _

pub returns-in-Err : goal.returns-in-Err
returns-in-Err g c next = failed_does c.args.q next (g.R.Remote.told c.args.remote.now) (g.R.Remote.told c.ask_owned.new.self) c.in-Err.e c.failed.result c.in-Err.ensures c.failed.ensures

pub returns-in-Ok-ask_owned : goal.returns-in-Ok-ask_owned
returns-in-Ok-ask_owned g c next = replied_does c.args.q next (g.R.Remote.told c.args.remote.now) (g.R.Remote.told c.ask_owned.new.self) c.in-Ok-ask_owned.reply c.answer_to-answer.result c.in-Ok-ask_owned.ensures
    (subst (λ (b : Bool). IfOk c.answer_to-answer.result (Shows c.in-Ok-ask_owned.reply b)) (c.in-Ok.ensures c.in-Ok-ask_owned.reply) c.answer_to-answer.ensures)
