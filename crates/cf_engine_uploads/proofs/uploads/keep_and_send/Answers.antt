use Rattle.cf_engine_queue.specs.Books.{entry_value}
use Rattle.cf_engine_steps.proofs.Laws.{then_both}
use Rattle.cf_engine_steps.specs.States.{whole}
use Rattle.cf_model.specs.Messages.{send}
use Rattle.cf_model.specs.Pushes.{anchored}
use Rattle.cf_model.specs.Skips.{in_book}
use Rattle.cf_engine_uploads.proofs.uploads.keep_and_send.Goals as goal

pub returns-in-Ok : goal.returns-in-Ok
returns-in-Ok g c = then_both (whole g.S.Steps.sense g.R.Remote.told) (in_book (anchored (entry_value c.args.entry.now))) (send c.args.request) _ _ _ _ _ _ _ _ c.in-Ok.ensures c.send.ensures
