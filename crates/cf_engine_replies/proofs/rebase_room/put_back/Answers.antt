use Rattle.std.proofs.Common.{sym, subst}
use Rattle.std.specs.Prelude.{Err}
use Rattle.cf_base.specs.declared.codes.CallError.{CallError}
use Rattle.cf_engine_host.specs.BookSteps.{PutsBeside, with_book_of}
use Rattle.cf_filter_steps.specs.Answering.{Answers}
use Rattle.cf_filter_steps.proofs.Laws.{with_err}
use Rattle.cf_model.specs.Arrows.{noted}
use Rattle.cf_engine_replies.proofs.Rebased.{put_here, put_lost, put_nowhere}
use Rattle.cf_engine_replies.proofs.rebase_room.put_back.Goals as goal

pub returns-in_err-put_record : goal.returns-in_err-put_record
returns-in_err-put_record g c = λ f. with_err g.S.Steps.sense (PutsBeside c.args.record.now f) (noted (with_book_of f)) c.args.s.now c.put_record.new.self c.in_err-put_record.field-0.0 c.from_residual.result c.from_residual.ensures.1
    (put_lost g.S.Steps.sense (PutsBeside c.args.record.now f) f c.args.s.now c.put_record.new.self c.in_err-put_record.field-0.0 (c.in_err-put_record.ensures f))

pub returns-then-branch : goal.returns-then-branch
returns-then-branch g c = λ f. put_here g.S.Steps.sense (PutsBeside c.args.record.now f) f c.args.s.now c.put_record.new.self c.in_ok-put_record.field-0 c.if-branch.true (c.in_ok-put_record.ensures f)

pub returns : goal.returns
returns g c = λ f. subst (λ (q : CallError). Answers g.S.Steps.sense (PutsBeside c.args.record.now f) (noted (with_book_of f)) c.args.s.now (Err q) c.put_record.new.self) (sym c.from.ensures)
    (put_nowhere g.S.Steps.sense (PutsBeside c.args.record.now f) f c.args.s.now c.put_record.new.self c.in_ok-put_record.field-0 c.if-branch.false (c.in_ok-put_record.ensures f))
