use Rattle.std.proofs.Common.{true, false, ap, ◌∙◌}
use Rattle.cf_engine_queue.specs.Books.{entry_value}
use Rattle.cf_base.specs.declared.codes.CallError.TheVariants.{OutOfMemory}
use Rattle.cf_engine_steps.specs.Answering.{Any}
use Rattle.cf_engine_steps.specs.States.{whole}
use Rattle.cf_engine_replies.specs.Refusals.{name_refused}
use Rattle.cf_model.specs.PushReplies.{has_item, name_taken_by, was_name_taken, with_taken_name}
use Rattle.cf_engine_steps.proofs.Laws.{with_err}
use Rattle.cf_engine_steps.proofs.Noted.{noted_volatile}
use Rattle.cf_engine_replies.proofs.Parts.{reads_as, unchanged}
use Rattle.cf_engine_replies.proofs.Replied.{known_of}
use Rattle.cf_engine_replies.proofs.refused_again.name_refused.Goals as goal

pub returns-then-was_name_taken : goal.returns-then-was_name_taken
returns-then-was_name_taken g c = reads_as (whole g.S.Steps.sense g.R.Remote.told) (was_name_taken c.args.entry.now.item) (name_taken_by (entry_value c.args.entry.now)) _ _ c.was_name_taken.result true _ c.if-was_name_taken.true (known_of g.S.Steps.sense g.R.Remote.told (λ v. has_item v.taken_names c.args.entry.now.item) c.args.s.now c.args.e.now c.was_name_taken.result (c.was_name_taken.ensures ∙ ap (λ v. has_item v.taken_names c.args.entry.now.item) c.volatile.ensures)) c.name_taken_again.ensures

pub returns-in_err-note_name_taken : goal.returns-in_err-note_name_taken
returns-in_err-note_name_taken g c = with_err (whole g.S.Steps.sense g.R.Remote.told) Any (name_refused (entry_value c.args.entry.now)) (c.args.s.now, c.args.e.now) (c.args.s.now, c.note_name_taken.new.self) OutOfMemory c.from_residual.result c.from_residual.ensures.1
    (unchanged (whole g.S.Steps.sense g.R.Remote.told) Any (name_refused (entry_value c.args.entry.now)) c.args.s.now c.args.e.now c.note_name_taken.new.self c.in_err-note_name_taken.ensures.err)

pub returns : goal.returns
returns g c = reads_as (whole g.S.Steps.sense g.R.Remote.told) (was_name_taken c.args.entry.now.item) (name_taken_by (entry_value c.args.entry.now)) _ _ c.was_name_taken.result false _ c.if-was_name_taken.false (known_of g.S.Steps.sense g.R.Remote.told (λ v. has_item v.taken_names c.args.entry.now.item) c.args.s.now c.args.e.now c.was_name_taken.result (c.was_name_taken.ensures ∙ ap (λ v. has_item v.taken_names c.args.entry.now.item) c.volatile.ensures))
    (noted_volatile g.S.Steps.sense g.R.Remote.told Any c.args.s.now c.args.e.now c.note_name_taken.new.self (with_taken_name c.args.entry.now.item) c.in_ok-note_name_taken.ensures.ok)
