use Rattle.std.proofs.Common.{true, false, sym, ◌∙◌}
use Rattle.cf_engine_queue.specs.Books.{entry_value}
use Rattle.cf_model.specs.Arrows.{and_then, only_if, seq}
use Rattle.cf_model.specs.PushReplies.{entry_seen, is_new_entry, whatever}
use Rattle.cf_model.specs.Skips.{try_mark, try_seen}
use Rattle.cf_engine_replies.proofs.Parts.{by_known}
use Rattle.cf_engine_replies.proofs.seen_paths.see_and_mark.Goals as goal

pub returns-then-is_new : goal.returns-then-is_new
returns-then-is_new g c = by_known _ (λ b. seq (and_then (only_if b (try_seen (entry_seen (entry_value c.args.entry.now)))) (try_mark c.args.entry.now.item c.args.entry.now.number)) whatever) _ _ (is_new_entry (entry_value c.args.entry.now)) true _ (sym c.is_new.ensures ∙ c.if-is_new.true) c.see_then_mark.ensures

pub returns-else-is_new : goal.returns-else-is_new
returns-else-is_new g c = by_known _ (λ b. seq (and_then (only_if b (try_seen (entry_seen (entry_value c.args.entry.now)))) (try_mark c.args.entry.now.item c.args.entry.now.number)) whatever) _ _ (is_new_entry (entry_value c.args.entry.now)) false _ (sym c.is_new.ensures ∙ c.if-is_new.false) c.mark.ensures
