use Rattle.std.proofs.Common.{List, ap, arith, length, subst, sym, ◌≡◌, ◌∙◌}
use Rattle.cf_table.specs.Slots.{AreSlots, rows_there}
use Rattle.cf_table.specs.declared.slots.Slot.{Slot}
use Rattle.cf_table.proofs.RowSlots.{insert_last, insert_slots, insert_there, slot_of}
use Rattle.cf_table.proofs.slots.insert_slot.Goals as goal

pub returns-then-place-len-clause-slots : goal.returns-then-place-len-clause-slots
returns-then-place-len-clause-slots c =
    let last : c.args.place ≡ length c.args.slots.now.items = omega (arith, c.if-place-len.true, c.len.ensures, c.args.slots.now.ok) in
    subst (λ (l : List Slot). AreSlots l) (sym (c.in_ok-push.ensures.items ∙ insert_last c.args.slots.now.items c.args.place (slot_of c.args.row) last))
    (insert_slots c.args.slots.now.items c.args.place c.args.row c.requires.slots c.requires.place c.requires.spellable)

pub returns-then-place-len-clause-puts : goal.returns-then-place-len-clause-puts
returns-then-place-len-clause-puts c =
    let last : c.args.place ≡ length c.args.slots.now.items = omega (arith, c.if-place-len.true, c.len.ensures, c.args.slots.now.ok) in
    ap rows_there (c.in_ok-push.ensures.items ∙ insert_last c.args.slots.now.items c.args.place (slot_of c.args.row) last) ∙ insert_there 0 c.args.slots.now.items c.args.place c.args.row c.requires.slots.rises c.requires.place

pub returns-clause-slots : goal.returns-clause-slots
returns-clause-slots c = subst (λ (l : List Slot). AreSlots l) (sym c.in_ok-insert.ensures.items) (insert_slots c.args.slots.now.items c.args.place c.args.row c.requires.slots c.requires.place c.requires.spellable)

pub returns-clause-puts : goal.returns-clause-puts
returns-clause-puts c = ap rows_there c.in_ok-insert.ensures.items ∙ insert_there 0 c.args.slots.now.items c.args.place c.args.row c.requires.slots.rises c.requires.place
