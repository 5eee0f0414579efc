use Rattle.cf_engine_passes.proofs.CountedLeft.{things_counted}
use Rattle.cf_engine_steps.specs.Answering.{Any, Reads}
use Rattle.cf_engine_steps.specs.States.{whole}
use Rattle.cf_filter_steps.proofs.Laws.{ok_map}
use Rattle.cf_model.specs.Passes.{things}
use Rattle.std.proofs.Common.{◌≡◌, ◌+◌, ℕ}
use Rattle.cf_engine_passes.proofs.unsettled.things.Goals as goal

pub returns : goal.returns
returns g c = ok_map c.sum.result (λ (n : ℕ). n ≡ c.count_items-items.result + c.in_ok-tombstones.tombstones) (λ (n : ℕ). Reads (whole g.S.Steps.sense g.R.Remote.told) Any things (c.args.s.now, c.args.e.now) n) (λ n is. things_counted g.S.Steps.sense g.R.Remote.told c.args.s.now c.args.e.now n c.count_items-items.result c.in_ok-tombstones.tombstones c.count_items-items.ensures c.in_ok-tombstones.ensures is) c.sum.ensures
