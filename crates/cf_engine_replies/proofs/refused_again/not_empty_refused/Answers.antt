use Rattle.std.proofs.Common.{true, false, ap, ◌∙◌}
use Rattle.cf_engine_queue.specs.Books.{entry_value}
use Rattle.cf_base.specs.declared.codes.CallError.TheVariants.{OutOfMemory}
use Rattle.cf_engine_steps.specs.Answering.{Any}
use Rattle.cf_engine_steps.specs.States.{whole}
use Rattle.cf_engine_replies.specs.Refusals.{not_empty_refused}
use Rattle.cf_model.specs.PushReplies.{has_number, not_empty_by, was_not_empty, with_not_empty}
use Rattle.cf_engine_steps.proofs.Laws.{with_err}
use Rattle.cf_engine_steps.proofs.Noted.{noted_volatile}
use Rattle.cf_engine_replies.proofs.Parts.{reads_as, unchanged}
use Rattle.cf_engine_replies.proofs.Replied.{known_of}
use Rattle.cf_engine_replies.proofs.refused_again.not_empty_refused.Goals as goal

pub returns-then-was_not_empty : goal.returns-then-was_not_empty
returns-then-was_not_empty g c = reads_as (whole g.S.Steps.sense g.R.Remote.told) (was_not_empty c.args.entry.now.number) (not_empty_by (entry_value c.args.entry.now)) _ _ c.was_not_empty.result true _ c.if-was_not_empty.true (known_of g.S.Steps.sense g.R.Remote.told (λ v. has_number v.not_empty c.args.entry.now.number) c.args.s.now c.args.e.now c.was_not_empty.result (c.was_not_empty.ensures ∙ ap (λ v. has_number v.not_empty c.args.entry.now.number) c.volatile.ensures)) c.lost_place.ensures

pub returns-in_err-note_not_empty : goal.returns-in_err-note_not_empty
returns-in_err-note_not_empty g c = with_err (whole g.S.Steps.sense g.R.Remote.told) Any (not_empty_refused (entry_value c.args.entry.now)) (c.args.s.now, c.args.e.now) (c.args.s.now, c.note_not_empty.new.self) OutOfMemory c.from_residual.result c.from_residual.ensures.1
    (unchanged (whole g.S.Steps.sense g.R.Remote.told) Any (not_empty_refused (entry_value c.args.entry.now)) c.args.s.now c.args.e.now c.note_not_empty.new.self c.in_err-note_not_empty.ensures.err)

pub returns : goal.returns
returns g c = reads_as (whole g.S.Steps.sense g.R.Remote.told) (was_not_empty c.args.entry.now.number) (not_empty_by (entry_value c.args.entry.now)) _ _ c.was_not_empty.result false _ c.if-was_not_empty.false (known_of g.S.Steps.sense g.R.Remote.told (λ v. has_number v.not_empty c.args.entry.now.number) c.args.s.now c.args.e.now c.was_not_empty.result (c.was_not_empty.ensures ∙ ap (λ v. has_number v.not_empty c.args.entry.now.number) c.volatile.ensures))
    (noted_volatile g.S.Steps.sense g.R.Remote.told Any c.args.s.now c.args.e.now c.note_not_empty.new.self (with_not_empty c.args.entry.now.number) c.in_ok-note_not_empty.ensures.ok)
