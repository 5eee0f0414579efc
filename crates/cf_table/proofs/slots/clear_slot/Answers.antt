use Rattle.std.proofs.Common.{ap, ◌∙◌}
use Rattle.std.proofs.lemmas.List.{get_or_default}
use Rattle.cf_table.specs.declared.slots.Slot.{Slot}
use Rattle.cf_table.proofs.RowSlots.{gone_slot, gone_slots, gone_there, slot_there}
use Rattle.cf_table.proofs.slots.clear_slot.Goals as goal

pub returns-clause-slots : goal.returns-clause-slots
returns-clause-slots c =
    gone_slots c.args.slots.now.items c.args.place c.index_mut.result.now.row c.requires.slots (slot_there c.args.slots.now.items c.args.id.0 c.args.place c.requires.place)
    (ap (λ (s : Slot). s.row) (c.index_mut.ensures.value ∙ get_or_default c.args.slots.now.items c.args.place c.index_mut.result.now (gone_slot c.index_mut.result.now.row) (slot_there c.args.slots.now.items c.args.id.0 c.args.place c.requires.place)))

pub returns-clause-removes : goal.returns-clause-removes
returns-clause-removes c = gone_there 0 c.args.slots.now.items c.args.place c.args.id c.index_mut.result.now.row c.requires.slots.rises c.requires.place
