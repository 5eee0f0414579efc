use Rattle.std.proofs.Common.{length, subst, arith}
use Rattle.cf_base.specs.declared.ids.ItemId.{ItemId}
use Rattle.cf_table.specs.Changing.{item_of_change}
use Rattle.cf_volume.proofs.Counting.{counted}
use Rattle.cf_volume.proofs.PlannedPut.{planned_at, planned_inside, planned_steady}
use Rattle.cf_volume_changes.specs.Laid.{Carries}
use Rattle.cf_volume_changes.specs.Notes.{Notes}
use Rattle.cf_volume_changes.specs.Steady.{known_of}
use Rattle.cf_volume.proofs.WrittenBytes.{notes_one}
use Rattle.cf_volume.proofs.stay.rows.put_planned.Goals as goal

pub returns-clause-at : goal.returns-clause-at
returns-clause-at g c = λ v at fits.
    planned_at (g.G.Ground.state c.args.ground.now) (g.G.Ground.state c.change_item.new.ground) (known_of c.args.parts.now) c.args.change.now c.args.planned.row c.args.planned.blocks.items c.change_item.new.held c.change_item.new.rows c.note_row.new.before.rows
    c.requires.steady c.image_len.ensures.rises c.image_len.ensures.kept c.requires.plan
    (subst (λ (n : ItemId). Carries c.args.change.now n c.args.planned.row c.args.planned.blocks.items (g.G.Ground.state c.args.ground.now) (g.G.Ground.state c.change_item.new.ground) c.args.parts.now.held c.change_item.new.held c.args.parts.now.contents.rows c.change_item.new.rows) c.item_of-id.ensures.of c.in_ok-change_item.ensures.carried)
    (subst (λ (n : ItemId). Notes n c.args.parts.now.then.next c.args.parts.now.contents.rows.rows c.args.parts.now.then.rows.rows c.note_row.new.before.rows) c.item_of-id.ensures.of c.in-Ok.ensures.ok) c.saturating_add-parts.result
    v (record { same_size = g.met.G.Ground.same_size c.args.ground.now }) at c.requires.kind fits (counted c.args.parts.now.put_since c.len-blocks.result (length c.args.planned.blocks.items) c.saturating_add-parts.result (omega (arith, c.len-blocks.ensures, c.args.planned.blocks.ok)) c.saturating_add-parts.ensures)

pub returns-clause-steady : goal.returns-clause-steady
returns-clause-steady g c =
    planned_steady (g.G.Ground.state c.args.ground.now) (g.G.Ground.state c.change_item.new.ground) (known_of c.args.parts.now) c.args.change.now c.args.planned.row c.args.planned.blocks.items c.change_item.new.held c.change_item.new.rows c.note_row.new.before.rows
    c.requires.steady c.image_len.ensures.rises c.image_len.ensures.kept c.requires.plan
    (subst (λ (n : ItemId). Carries c.args.change.now n c.args.planned.row c.args.planned.blocks.items (g.G.Ground.state c.args.ground.now) (g.G.Ground.state c.change_item.new.ground) c.args.parts.now.held c.change_item.new.held c.args.parts.now.contents.rows c.change_item.new.rows) c.item_of-id.ensures.of c.in_ok-change_item.ensures.carried)
    (subst (λ (n : ItemId). Notes n c.args.parts.now.then.next c.args.parts.now.contents.rows.rows c.args.parts.now.then.rows.rows c.note_row.new.before.rows) c.item_of-id.ensures.of c.in-Ok.ensures.ok) c.saturating_add-parts.result

pub change_item-requires-clause-inside : goal.change_item-requires-clause-inside
change_item-requires-clause-inside g c =
    planned_inside (g.G.Ground.state c.args.ground.now) (g.G.Ground.state c.args.ground.now) (known_of c.args.parts.now) c.args.change.now c.args.planned.row c.args.planned.blocks.items c.args.parts.now.held c.args.parts.now.contents.rows c.args.parts.now.then.rows.rows
    c.requires.steady c.image_len.ensures.rises c.image_len.ensures.kept c.requires.plan c.requires.there

pub returns-clause-noted : goal.returns-clause-noted
returns-clause-noted g c = notes_one (item_of_change c.args.change.now) c.args.parts.now.then.next c.args.parts.now.contents.rows.rows c.args.parts.now.then.rows.rows c.note_row.new.before.rows
    (subst (λ (n : ItemId). Notes n c.args.parts.now.then.next c.args.parts.now.contents.rows.rows c.args.parts.now.then.rows.rows c.note_row.new.before.rows) c.item_of-id.ensures.of c.in-Ok.ensures.ok)
