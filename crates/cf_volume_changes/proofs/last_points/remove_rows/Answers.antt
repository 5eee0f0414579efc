use Rattle.std.proofs.Common.{◌+◌, ap, drop, get_or}
use Rattle.cf_table.specs.Tables.{Table}
use Rattle.cf_volume_changes.proofs.PutBack.{row_taken}
use Rattle.cf_volume_image.proofs.Loops.{drop_get}
use Rattle.cf_volume_changes.proofs.last_points.remove_rows.Goals as goal

pub loop-id-preserved : goal.loop-id-preserved
loop-id-preserved c =
    let l = c.loop-id in
    row_taken (drop l.id-index c.args.ids.now) (drop (l.id-index + 1) c.args.ids.now) c.args.ids.now (get_or c.args.ids.now l.id-index (record { 0 = 0 })) c.args.rows.now.rows l.rows.rows c.remove_row.new.self.rows
    (drop_get c.args.ids.now l.id-index (record { 0 = 0 }) c.loop-id-test.true) (ap (λ (t : Table). t.rows) c.remove_row.ensures) l.invariant
