use Rattle.cf_engine_queue.specs.Books.{entry_value}
use Rattle.cf_engine_steps.specs.States.{whole}
use Rattle.cf_engine_uploads.proofs.Pushed.{sent}
use Rattle.cf_engine_uploads.proofs.uploads.push.Goals as goal

pub returns-in-Ok-true : goal.returns-in-Ok-true
returns-in-Ok-true g c = sent (whole g.S.Steps.sense g.R.Remote.told) (entry_value c.args.entry.now) c.args.request _ _ _ _ _ _ _ _ c.in-Ok-true.ensures c.in-Ok-true.field-0-test c.keep_and_send.ensures
