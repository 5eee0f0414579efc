use Rattle.std.proofs.Common.{◌++◌, ◌∙◌, ap}
use Rattle.cf_base.specs.declared.ids.ItemId.{ItemId}
use Rattle.cf_model.specs.Books.{usn_bytes}
use Rattle.cf_model.specs.Words.{in_bytes}
use Rattle.cf_table.proofs.TableMeans.{on_ok_map}
use Rattle.cf_volume_image.proofs.Puts.{four_joined}
use Rattle.cf_volume_image.proofs.part_writes.put_header.Goals as goal

pub returns : goal.returns
returns c = on_ok_map c.put_8-3.result _ _ (λ last.
    four_joined c.args.out.now c.put_usn.new.out c.put_8.new.out c.put_8-2.new.out c.put_8-3.new.out
    (usn_bytes c.args.contents.now.last) (in_bytes 8 c.args.contents.now.count) (in_bytes 8 c.args.contents.now.rows.next.0) (in_bytes 8 c.args.contents.now.clock)
    c.in_ok-put_usn.ensures c.in_ok-put_8.ensures (c.in_ok-put_8-2.ensures ∙ ap (λ (i : ItemId). c.put_8.new.out ++ in_bytes 8 i.0) c.next.ensures) last) c.put_8-3.ensures
