use Rattle.std.proofs.Common.{◌≡◌, ◌≤◌, ◌+◌, ◌∙◌, ℕ, ap, sym, subst, refl, drop, arith, List, length}
use Rattle.std.proofs.lemmas.List.{drop_all}
use Rattle.std.proofs.lemmas.List.Elements.{All-get_or}
use Rattle.cf_base.specs.declared.answers.AuxRecord.{AuxRecord}
use Rattle.cf_volume_image.specs.RecordLists.{IsShort}
use Rattle.cf_model.specs.Formats.{with_record, with_records}
use Rattle.cf_volume_changes.proofs.DraftFlags.{next_of_list}
use Rattle.cf_volume_changes.proofs.RecordRoom.{keys_kept, keys_on}
use Rattle.cf_volume_changes.specs.Notes.{NotesKey}
use Rattle.cf_volume_changes.proofs.record_puts.put_each.Goals as goal

pub loop-aux-init : goal.loop-aux-init
loop-aux-init c = (refl, keys_kept c.args.records.now c.args.then.now c.args.made.now)

pub note_record-requires : goal.note_record-requires
note_record-requires c =
    let short = subst IsShort (sym c.aux-item.is) (All-get_or (λ (r : AuxRecord). IsShort r) c.args.list.now c.loop-aux.aux-index c.aux-item.result c.loop-aux-test.true c.requires) in
    let key : c.as_slice.result.now ≡ c.aux-item.result.key = (let a = c.as_slice.ensures in cc) in
    let long = ap length key in
    omega (arith, short.0, long)

pub put-requires : goal.put-requires
put-requires c = subst IsShort (sym (c.in_ok-copied.ensures ∙ c.aux-item.is)) (All-get_or (λ (r : AuxRecord). IsShort r) c.args.list.now c.loop-aux.aux-index c.aux-item.result c.loop-aux-test.true c.requires)

pub loop-aux-preserved : goal.loop-aux-preserved
loop-aux-preserved c =
    let next = next_of_list c.args.list.now c.loop-aux.aux-index c.aux-item.result c.loop-aux-test.true c.aux-item.is in
    let key : c.as_slice.result.now ≡ c.aux-item.result.key = (let a = c.as_slice.ensures in cc) in
    let notes = subst (λ (k : List ℕ). NotesKey k c.loop-aux.records c.loop-aux.then c.note_record.new.before c.loop-aux.made c.note_record.new.made) key c.in_ok-note_record.ensures in
    let is = c.in_ok-put.ensures.ok ∙ ap (λ (r : AuxRecord). with_record r c.loop-aux.records) c.in_ok-copied.ensures in (
      ap (with_records (drop (c.loop-aux.aux-index + 1) c.args.list.now)) is ∙ sym (ap (λ (l : List AuxRecord). with_records l c.loop-aux.records) next) ∙ c.loop-aux.invariant.0,
      keys_on c.args.records.now c.args.then.now c.args.made.now c.loop-aux.records c.loop-aux.then c.loop-aux.made c.put.new.self c.note_record.new.before c.note_record.new.made c.aux-item.result c.loop-aux.invariant.1 is notes,
    )

pub returns : goal.returns
returns c =
    let le : length c.args.list.now ≤ c.loop-aux.aux-index = let n = c.loop-aux-test.false in omega (arith, n) in
    record { records = ap (λ (l : List AuxRecord). with_records l c.loop-aux.records) (sym (drop_all c.loop-aux.aux-index c.args.list.now le)) ∙ c.loop-aux.invariant.0; known = c.loop-aux.invariant.1 }
