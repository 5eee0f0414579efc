use Rattle.std.proofs.Common.{length, refl}
use Rattle.cf_engine_passes.proofs.CountedLeft.{items_counted}
use Rattle.cf_engine_passes.proofs.unsettled.count_items.Goals as goal

pub returns : goal.returns
returns g c = items_counted g.S.Steps.sense c.args.s.now c.rows.result.now c.as_slice.result.now (length c.as_slice.result.now) c.rows.ensures.means c.as_slice.ensures.value refl
