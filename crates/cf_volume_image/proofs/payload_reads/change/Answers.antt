use Rattle.std.proofs.Common.{◌∙◌, List, ap, refl}
use Rattle.std.specs.Prelude.{map}
use Rattle.cf_base.specs.declared.ids.ItemId.{ItemId}
use Rattle.cf_model.specs.Formats.{with_records, with_rows}
use Rattle.cf_table.specs.Spelling.{row_value}
use Rattle.cf_volume_image.specs.States.{without_records, without_rows}
use Rattle.cf_volume_image.proofs.Applied.{applied}
use Rattle.cf_volume_image.proofs.payload_reads.change.Goals as goal

pub add_records-put-requires : goal.add_records-put-requires
add_records-put-requires c = c.requires.records

pub returns : goal.returns
returns c =
    applied c.args.changes.header.last c.args.changes.header.count c.args.changes.header.clock c.args.changes.header.next c.args.changes.header.next _ _ _ _ refl
    (c.in_ok-added.ensures
    ∙ ap (with_rows (map row_value c.args.changes.rows.items)) (c.remove_rows.ensures ∙ ap (λ (l : List ItemId). without_rows l (map row_value c.args.draft.now.rows)) c.deref.ensures.value))
    (c.in_ok-put.ensures
    ∙ ap (with_records c.args.changes.records) (c.remove_records.ensures ∙ ap (λ l. without_records l c.args.draft.now.records) c.deref-2.ensures.value))
