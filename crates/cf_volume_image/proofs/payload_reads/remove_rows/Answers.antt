use Rattle.std.proofs.Common.{◌∙◌, List, ap, arith, get_or, sym}
use Rattle.std.specs.Prelude.{map}
use Rattle.cf_base.specs.declared.ids.ItemId.{ItemId}
use Rattle.cf_table.specs.Spelling.{row_value}
use Rattle.cf_volume_image.specs.States.{without_rows}
use Rattle.cf_volume_image.proofs.Loops.{drop_end, drop_get}
use Rattle.cf_volume_image.proofs.PayloadSteps.{none_removed, rows_removed}
use Rattle.cf_volume_image.proofs.payload_reads.remove_rows.Goals as goal

pub loop-id-preserved : goal.loop-id-preserved
loop-id-preserved c =
    rows_removed (get_or c.args.ids.now c.loop-id.id-index (record { 0 = 0 })) _ _ c.loop-id.rows c.remove_row.new.self _ (drop_get c.args.ids.now c.loop-id.id-index (record { 0 = 0 }) c.loop-id-test.true) c.remove_row.ensures c.loop-id.invariant

pub returns : goal.returns
returns c =
    sym (none_removed (map row_value c.loop-id.rows)) ∙ ap (λ (l : List ItemId). without_rows l (map row_value c.loop-id.rows)) (sym (drop_end c.args.ids.now c.loop-id.id-index (omega arith))) ∙ c.loop-id.invariant
