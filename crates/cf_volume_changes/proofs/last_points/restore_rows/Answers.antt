use Rattle.std.proofs.Common.{◌∙◌, List, ap, ltb, map, not}
use Rattle.std.specs.Prelude.{filter}
use Rattle.cf_table.specs.Tables.{Table, row_of}
use Rattle.cf_table.specs.declared.rows.Row.{Row}
use Rattle.cf_volume_changes.proofs.PutBack.{rows_back}
use Rattle.cf_volume_points.specs.Known.{or_now}
use Rattle.cf_volume_changes.proofs.last_points.restore_rows.Goals as goal

pub returns-clause-rows : goal.returns-clause-rows
returns-clause-rows c = λ id.
    ap (λ (t : Table). row_of t.rows id) c.set_next.ensures
    ∙ rows_back c.args.next c.args.noted.now.rows c.args.rows.now.rows c.put_rows.new.rows.rows c.remove_rows.new.rows.rows c.deref.result.now
    (c.deref.ensures.value ∙ c.in_ok-new.ensures ∙ ap (λ (rs : List Row). map (λ (r : Row). r.id) (filter (λ (r : Row). not (ltb r.id.0 c.args.next.0)) rs)) c.as_slice-2.ensures.value)
    (λ key. c.in_ok-put_rows.ensures.rows key ∙ ap (λ (rs : List Row). or_now (row_of rs key) (row_of c.args.rows.now.rows key)) c.as_slice.ensures.value) c.remove_rows.ensures id
