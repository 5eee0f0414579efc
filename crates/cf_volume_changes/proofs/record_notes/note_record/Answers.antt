use Rattle.std.proofs.Common.{sym, ◌∙◌}
use Rattle.cf_volume_changes.proofs.Noted.{on_ok_map}
use Rattle.cf_volume_changes.proofs.NotedKeys.{found_by_key, key_kept, key_made, key_new, no_record}
use Rattle.cf_volume_changes.proofs.record_notes.note_record.Goals as goal

pub copy_record-requires : goal.copy_record-requires
copy_record-requires c = found_by_key c.args.records.now c.args.key.now c.in-Some.record.now (sym c.in-Some.ensures)

pub returns-then-has-2 : goal.returns-then-has-2
returns-then-has-2 c = key_made c.args.key.now c.args.records.now c.args.before.now c.args.made.now (sym c.has-2.ensures ∙ c.if-has-2.true)

pub returns-in_ok-copy_record-in-Some : goal.returns-in_ok-copy_record-in-Some
returns-in_ok-copy_record-in-Some c = on_ok_map c.put.result
    (λ is. key_kept c.args.key.now c.args.records.now c.args.before.now c.put.new.self c.args.made.now c.in-Some.record.now c.in_ok-copy_record-in-Some.field-0 (sym c.in-Some.ensures) c.in_ok-copy_record-in-Some.ensures.same
    (no_record _ (sym c.has.ensures ∙ c.if-has.false)) is) c.put.ensures.ok

pub returns-in_ok-bare-in-None : goal.returns-in_ok-bare-in-None
returns-in_ok-bare-in-None c = on_ok_map c.put-in-None.result
    (λ is. key_new c.args.key.now c.args.records.now c.args.before.now c.args.made.now c.put-in-None.new.self c.in_ok-bare-in-None.field-0 (sym c.in-None.ensures) c.in_ok-bare-in-None.ensures.0
    (no_record _ (sym c.has.ensures ∙ c.if-has.false)) (no_record _ (sym c.has-2.ensures ∙ c.if-has-2.false)) is) c.put-in-None.ensures.ok
