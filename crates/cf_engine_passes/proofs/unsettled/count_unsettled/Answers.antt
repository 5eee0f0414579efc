use Rattle.cf_engine_passes.proofs.CountedLeft.{unsettled_counted}
use Rattle.cf_engine_passes.specs.Unsettled.{unsettled_there}
use Rattle.cf_filter_steps.proofs.Laws.{ok_map}
use Rattle.cf_filter_steps.specs.Answering.{Any, Reads}
use Rattle.std.proofs.Common.{◌≡◌, ◌+◌, ℕ}
use Rattle.cf_engine_passes.proofs.unsettled.count_unsettled.Goals as goal

pub returns : goal.returns
returns g c = ok_map c.sum.result (λ (n : ℕ). n ≡ c.in_ok-tombstones.tombstones + c.count_left-items.result) (λ (n : ℕ). Reads g.S.Steps.sense Any unsettled_there c.args.s.now n) (λ n is. unsettled_counted g.S.Steps.sense c.args.s.now c.in_ok-tombstones.tombstones c.in_ok-tombstones.ensures c.rows.result.now c.rows.ensures.means c.as_slice.result.now c.as_slice.ensures.value c.count_left-items.result n c.count_left-items.ensures is) c.sum.ensures
