-- A volume on a ground that no crash leaves, after a restart.
use Rattle.std.proofs.Common.{ℕ, refl}
use Rattle.std.specs.Prelude.{Option}
use Rattle.cf_model.specs.State.{Volume}
use Rattle.cf_volume_plain.proofs.PlainSteps.{plain_leaves}
use Rattle.cf_volume_plain.specs.Plains.{Blocks, plain_state}
use Rattle.cf_volume_points.proofs.Readings.{read_at}
use Rattle.cf_volume_points.specs.At.{At}
use Rattle.cf_volume_points.specs.Known.{Known}

-- another number of changes after which a commit is wanted
pub with_aim : (b : Blocks) (aim : Option ℕ) (k : Known) (v : Volume) → At (plain_state b) k v → At (plain_state (record b { aim = aim })) k v
with_aim b aim k v at =
    read_at (plain_state b) (plain_state (record b { aim = aim })) k v (record { same_size = λ c left. absurd left }) at (record { seen = refl; crash = λ c left. absurd left })
    (plain_leaves b (record b { aim = aim }) (plain_state b).may_leave)
