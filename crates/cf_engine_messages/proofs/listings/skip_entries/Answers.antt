use Rattle.cf_engine_steps.proofs.Laws.{then_both}
use Rattle.cf_model.specs.Fetching.{no_entries}
use Rattle.cf_model.specs.Skips.{skip}
use Rattle.cf_engine_messages.proofs.listings.skip_entries.Goals as goal

pub returns : goal.returns
returns g c = then_both _ (skip c.args.code) (no_entries c.args.key) _ _ _ _ _ _ _ _ c.in_ok-skip.ensures c.no_entries.ensures
