use Rattle.std.proofs.Common.{sym, ap, ◌∙◌}
use Rattle.cf_table.specs.Tables.{Table}
use Rattle.cf_volume_changes.proofs.Noted.{found_by_its_id, found_id, is_none, noted_now, on_ok_map}
use Rattle.cf_volume_changes.proofs.row_notes.note_row.Goals as goal

pub copy_row-requires : goal.copy_row-requires
copy_row-requires c = found_by_its_id c.args.rows.now.rows c.args.id c.in-Some.row.now (sym c.in-Some.ensures)

pub returns-in_ok-copy_row-in-Some-clause-ok : goal.returns-in_ok-copy_row-in-Some-clause-ok
returns-in_ok-copy_row-in-Some-clause-ok c = on_ok_map c.put_row.result
    (λ is. noted_now c.args.id c.args.next c.args.rows.now.rows c.args.before.now.rows c.put_row.new.self.rows c.in-Some.row.now c.in_ok-copy_row-in-Some.field-0 c.image_len.ensures.rises (sym c.in-Some.ensures) c.in_ok-copy_row-in-Some.ensures.same
    (found_id c.args.rows.now.rows c.args.id c.in-Some.row.now (sym c.in-Some.ensures)) (is_none _ (sym c.is_there.ensures ∙ c.if-is_there.false)) (ap (λ (t : Table). t.rows) is)) c.put_row.ensures.ok
