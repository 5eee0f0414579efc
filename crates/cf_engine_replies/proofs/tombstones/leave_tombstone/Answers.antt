use Rattle.std.proofs.Common.{true, false, sym, ◌∙◌, subst}
use Rattle.cf_engine_queue.specs.Books.{entry_value}
use Rattle.cf_model.specs.Books.{Tombstone, with_tombstone}
use Rattle.cf_engine_steps.specs.Answering.{Answers, Any}
use Rattle.cf_engine_steps.specs.States.{whole}
use Rattle.cf_model.specs.Arrows.{only_if}
use Rattle.cf_model.specs.PushReplies.{is_new_entry, tombstone_left}
use Rattle.cf_model.specs.Skips.{try_book}
use Rattle.cf_engine_steps.proofs.Laws.{returned}
use Rattle.cf_engine_replies.proofs.Parts.{by_known}
use Rattle.cf_engine_replies.proofs.tombstones.leave_tombstone.Goals as goal

pub returns-then-not-is_new : goal.returns-then-not-is_new
returns-then-not-is_new g c = by_known _ (λ b. only_if b (try_book (with_tombstone (tombstone_left (entry_value c.args.entry.now) c.args.rid c.args.version)))) _ _ (is_new_entry (entry_value c.args.entry.now)) false _ (sym c.is_new.ensures ∙ c.if-not-is_new.true) (returned (whole g.S.Steps.sense g.R.Remote.told) Any true (c.args.s.now, c.args.e.now))

pub returns : goal.returns
returns g c = by_known _ (λ b. only_if b (try_book (with_tombstone (tombstone_left (entry_value c.args.entry.now) c.args.rid c.args.version)))) _ _ (is_new_entry (entry_value c.args.entry.now)) true _ (sym c.is_new.ensures ∙ c.if-not-is_new.false)
    (subst (λ (t : Tombstone). Answers (whole g.S.Steps.sense g.R.Remote.told) Any (try_book (with_tombstone t)) (c.args.s.now, c.args.e.now) c.try_tombstone.result (c.try_tombstone.new.s, c.try_tombstone.new.e)) c.tombstone_left-left.ensures c.try_tombstone.ensures)
