use Rattle.cf_engine_queue.specs.Books.{entry_value}
use Rattle.cf_engine_steps.proofs.Laws.{ok_both}
use Rattle.cf_engine_steps.specs.States.{whole}
use Rattle.cf_model.specs.Books.{with_entry}
use Rattle.cf_model.specs.Pushes.{try_token}
use Rattle.cf_model.specs.Skips.{try_book}
use Rattle.std.specs.Prelude.{false}
use Rattle.cf_engine_uploads.proofs.uploads.try_record.Goals as goal

pub returns-then-drawn : goal.returns-then-drawn
returns-then-drawn g c = ok_both (whole g.S.Steps.sense g.R.Remote.told) try_token false (try_book (with_entry (entry_value c.args.entry.now))) _ _ _ _ _ _ _ _ c.in_ok-drawn.ensures c.if-drawn.true c.try_entry.ensures
