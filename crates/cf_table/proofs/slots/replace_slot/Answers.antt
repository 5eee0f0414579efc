use Rattle.cf_table.proofs.RowSlots.{set_slots, set_there}
use Rattle.cf_table.proofs.slots.replace_slot.Goals as goal

pub returns-clause-slots : goal.returns-clause-slots
returns-clause-slots c = set_slots c.args.slots.now.items c.args.place c.args.row c.requires.slots c.requires.place c.requires.spellable

pub returns-clause-puts : goal.returns-clause-puts
returns-clause-puts c = set_there 0 c.args.slots.now.items c.args.place c.args.row c.requires.slots.rises c.requires.place
