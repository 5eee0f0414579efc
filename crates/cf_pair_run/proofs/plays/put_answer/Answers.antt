use Rattle.std.proofs.Common.{◌≡◌, ◌∙◌, List, ℕ, subst}
use Rattle.std.specs.Prelude.{IfErr}
use Rattle.cf_pair_report.specs.Texts.{text as text_of}
use Rattle.cf_world_plays.proofs.Drafted.{drafted_front, front_more}
use Rattle.cf_world_plays.proofs.Errs.{err_if}
use Rattle.cf_world_plays.specs.Steps.{AddFails}
use Rattle.cf_world_plays.specs.declared.play_errors.PlayError.TheVariants.{OutOfMemory}
use Rattle.cf_pair_run.proofs.plays.put_answer.Goals as goal

pub returns-in_err-lines-clause-err : goal.returns-in_err-lines-clause-err
returns-in_err-lines-clause-err g c = λ text old h.
    let now = g.K.Sink.held c.args.sink.now in
    err_if (AddFails text (text_of c.args.answer) old now) c.from_residual.result OutOfMemory c.from_residual.ensures.1
    (front_more text (text_of c.args.answer) old now (drafted_front text c.args.waiting.now.items c.args.made old now h))

pub returns-clause-err : goal.returns-clause-err
returns-clause-err g c = λ text old h.
    let piece : c.as_slice.result.now ≡ text_of c.args.answer = c.as_slice.ensures ∙ c.in_ok-lines.ensures in
    subst (λ (x : List ℕ). IfErr c.add-added.result (AddFails text x old (g.K.Sink.held c.add-added.new.sink))) piece (c.add-added.ensures.err text old h)
