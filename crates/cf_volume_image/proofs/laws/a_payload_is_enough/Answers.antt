use Rattle.std.proofs.Common.{None}
use Rattle.std.specs.Prelude.{map}
use Rattle.cf_table.specs.Spelling.{row_value}
use Rattle.cf_volume_image.proofs.Applied.{applied}
use Rattle.cf_volume_image.proofs.RecordsLeft.{records_left, rise_is}
use Rattle.cf_volume_image.proofs.RowsLeft.{rises_is, rows_left}
use Rattle.cf_volume_image.proofs.laws.a_payload_is_enough.Goals as goal
use Rattle.std.proofs.Common.{refl}

pub returns : goal.returns
returns c = λ old new removed changed removed_keys changed_keys h k m n names.
    applied new.last new.count new.clock new.rows.next new.rows.next _ _ _ _ refl
    (rows_left (map row_value old.rows.rows) (map row_value new.rows.rows) removed changed (rises_is 0 old.rows.rows h) (rises_is 0 new.rows.rows k) names.rows)
    (records_left old.records new.records removed_keys changed_keys (rise_is None old.records m) (rise_is None new.records n) names.records)
