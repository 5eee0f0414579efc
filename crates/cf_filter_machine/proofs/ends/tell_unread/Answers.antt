use Rattle.std.proofs.Common.{◌∙◌, ap}
use Rattle.cf_base.specs.declared.ids.WaitId.{WaitId}
use Rattle.cf_base.specs.declared.waits.End.{End}
use Rattle.cf_filter_machine.proofs.AnswerSteps.{on_ok_map}
use Rattle.cf_filter_desk.specs.Desks.{ended}
use Rattle.cf_model.specs.Numbers.{same_key}
use Rattle.cf_model.specs.Settling.{end_of}
use Rattle.cf_model.specs.Words.{says}
use Rattle.cf_filter_machine.proofs.ends.tell_unread.Goals as goal

pub returns : goal.returns
returns c = λ items mean rise.
    on_ok_map c.end.result
    (λ told. told ∙ ap (λ (z : End). ended c.id.result z (says (λ own. same_key own.0 c.id.result.0) c.args.desk.now.own) c.args.desk.now) (c.in_ok-found.ensures items mean rise)
    ∙ ap (λ (k : WaitId). ended k (end_of items c.args.wait.now c.args.cause) (says (λ own. same_key own.0 k.0) c.args.desk.now.own) c.args.desk.now) c.id.ensures) c.end.ensures
