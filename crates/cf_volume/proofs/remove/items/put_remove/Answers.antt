use Rattle.std.proofs.Common.{◌≡◌, ◌∙◌, ap, length, refl, subst, ℕ, ◌<◌, List}
use Rattle.cf_disk.specs.Disk.{size_of}
use Rattle.cf_model.specs.Formats.{without_record}
use Rattle.cf_model.specs.Numbers.{usn_after}
use Rattle.cf_volume.proofs.GoneCalls.{gone_call, gone_inside, gone_why, nothing_gone}
use Rattle.cf_volume_changes.proofs.GoneFits.{gone_steady}
use Rattle.cf_volume_changes.specs.Keys.{seen_key}
use Rattle.cf_volume_changes.specs.Notes.{Notes, NotesKey}
use Rattle.cf_volume_changes.specs.Steady.{known_of}
use Rattle.cf_base.specs.declared.ids.ItemId.{ItemId}
use Rattle.cf_table.specs.Changing.{item_of_change}
use Rattle.cf_volume.proofs.WrittenBytes.{notes_one}
use Rattle.cf_volume.proofs.remove.items.put_remove.Goals as goal

pub remove_item-requires : goal.remove_item-requires
remove_item-requires g c = gone_inside (λ (k : ℕ). k < length c.args.parts.now.held) c.args.parts.now.contents.rows.rows c.item_of-id.result c.requires.steady.inside

pub returns-clause-put : goal.returns-clause-put
returns-clause-put g c = λ v at book.
    let first : c.as_slice.result.now ≡ seen_key c.item_of-id.result = (let a = c.as_slice.ensures in let b = c.key.view_is in let d = c.in_ok-key.ensures.key in cc) in
    let second : c.as_slice-2.result.now ≡ seen_key c.item_of-id.result = (let a = c.as_slice-2.ensures in let b = c.key.view_is in let d = c.in_ok-key.ensures.key in cc) in
    gone_call (g.G.Ground.state c.args.ground.now) (size_of (g.G.Ground.state c.args.ground.now)) (known_of c.args.parts.now) c.item_of-id.result c.remove_item.new.held c.remove_item.new.rows c.remove.new.self c.note_row.new.before.rows c.note_record.new.before c.note_record.new.made
    c.seen_key.ensures.low c.requires.steady c.image_len.ensures.rises c.remove_item.ensures.drops c.remove_item.ensures.rows
    (c.remove.ensures ∙ ap (λ (l : List ℕ). without_record l c.args.parts.now.contents.records) second) c.in_ok-note_row.ensures.ok
    (subst (λ (l : List ℕ). NotesKey l c.args.parts.now.contents.records c.args.parts.now.then.records c.note_record.new.before c.args.parts.now.then.made c.note_record.new.made) first c.in_ok-note_record.ensures)
    (usn_after c.args.parts.now.contents.last.epoch c.args.parts.now.contents.last.place) refl c.requires.place v
    (record { same_size = g.met.G.Ground.same_size c.args.ground.now }) at c.args.change.now c.requires.kind c.item_of-id.ensures.of book

pub returns-clause-steady : goal.returns-clause-steady
returns-clause-steady g c =
    let first : c.as_slice.result.now ≡ seen_key c.item_of-id.result = (let a = c.as_slice.ensures in let b = c.key.view_is in let d = c.in_ok-key.ensures.key in cc) in
    let second : c.as_slice-2.result.now ≡ seen_key c.item_of-id.result = (let a = c.as_slice-2.ensures in let b = c.key.view_is in let d = c.in_ok-key.ensures.key in cc) in
    gone_steady (g.G.Ground.state c.args.ground.now) (size_of (g.G.Ground.state c.args.ground.now)) (known_of c.args.parts.now) c.item_of-id.result c.remove_item.new.held c.remove_item.new.rows c.remove.new.self c.note_row.new.before.rows c.note_record.new.before c.note_record.new.made
    c.seen_key.ensures.low c.requires.steady c.image_len.ensures.rises c.remove_item.ensures.drops c.remove_item.ensures.rows
    (c.remove.ensures ∙ ap (λ (l : List ℕ). without_record l c.args.parts.now.contents.records) second) c.in_ok-note_row.ensures.ok
    (subst (λ (l : List ℕ). NotesKey l c.args.parts.now.contents.records c.args.parts.now.then.records c.note_record.new.before c.args.parts.now.then.made c.note_record.new.made) first c.in_ok-note_record.ensures)

pub returns-clause-why : goal.returns-clause-why
returns-clause-why g c = λ v at. gone_why (g.G.Ground.state c.args.ground.now) (known_of c.args.parts.now) v c.args.change.now at c.requires.place c.requires.kind

pub returns-clause-noted : goal.returns-clause-noted
returns-clause-noted g c = notes_one (item_of_change c.args.change.now) c.args.parts.now.then.next c.args.parts.now.contents.rows.rows c.args.parts.now.then.rows.rows c.note_row.new.before.rows
    (subst (λ (n : ItemId). Notes n c.args.parts.now.then.next c.args.parts.now.contents.rows.rows c.args.parts.now.then.rows.rows c.note_row.new.before.rows) c.item_of-id.ensures.of c.in_ok-note_row.ensures.ok)

pub returns-clause-aimed : goal.returns-clause-aimed
returns-clause-aimed g c = λ v wanted. nothing_gone c.args.change.now v c.requires.kind
