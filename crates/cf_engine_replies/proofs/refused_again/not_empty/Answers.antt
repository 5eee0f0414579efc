use Rattle.std.proofs.Common.{true, false, sym, ◌∙◌}
use Rattle.cf_engine_queue.specs.Books.{action_of, entry_value}
use Rattle.cf_model.specs.PushReplies.{not_empty, is_removal_by}
use Rattle.cf_engine_replies.proofs.Parts.{by_known}
use Rattle.cf_engine_replies.proofs.refused_again.not_empty.Goals as goal

pub returns-then-is_removal : goal.returns-then-is_removal
returns-then-is_removal g c = by_known _ (λ b. not_empty b (entry_value c.args.entry.now)) _ _ (is_removal_by (action_of c.args.entry.now.action)) true _ (sym c.is_removal.ensures ∙ c.if-is_removal.true) c.not_empty_refused.ensures

pub returns-else-is_removal : goal.returns-else-is_removal
returns-else-is_removal g c = by_known _ (λ b. not_empty b (entry_value c.args.entry.now)) _ _ (is_removal_by (action_of c.args.entry.now.action)) false _ (sym c.is_removal.ensures ∙ c.if-is_removal.false) c.nothing_further.ensures
