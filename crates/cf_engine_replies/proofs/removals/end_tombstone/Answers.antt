use Rattle.cf_model.specs.Books.{without_tombstone}
use Rattle.cf_model.specs.PushReplies.{reset_if}
use Rattle.cf_model.specs.Skips.{in_book}
use Rattle.cf_engine_steps.proofs.Laws.{then_both}
use Rattle.cf_engine_replies.proofs.Parts.{stops_by}
use Rattle.cf_engine_replies.proofs.removals.end_tombstone.Goals as goal

pub returns-in_err-reset_if : goal.returns-in_err-reset_if
returns-in_err-reset_if g c = stops_by _ (reset_if c.args.was_directory) (in_book (without_tombstone c.args.entry.now.number)) _ _ _ _ c.from_residual.ensures.1 c.in_err-reset_if.ensures

pub returns : goal.returns
returns g c = then_both _ (reset_if c.args.was_directory) (in_book (without_tombstone c.args.entry.now.number)) _ _ _ _ _ _ _ _ c.in_ok-reset_if.ensures c.drop_tombstone.ensures
