use Rattle.std.proofs.Common.{Bool, subst}
use Rattle.cf_remote.specs.LookUps.{Shows}
use Rattle.cf_remote.proofs.sending.answer_to.Goals as goal

pub returns-in-Ok : goal.returns-in-Ok
returns-in-Ok c = subst (λ (b : Bool). Shows c.args.reply b c.answer_by.result) c.in-Ok.ensures c.answer_by.ensures
