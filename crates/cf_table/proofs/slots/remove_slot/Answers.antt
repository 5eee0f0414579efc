use Rattle.std.proofs.Common.{List, subst}
use Rattle.cf_table.specs.Slots.{all_rows}
use Rattle.cf_table.specs.Tables.{IsRowGap}
use Rattle.cf_table.specs.declared.slots.Slot.{Slot}
use Rattle.cf_table.proofs.RowSlots.{none_gone}
use Rattle.cf_table.proofs.TableMeans.{not_there}
use Rattle.cf_table.proofs.slots.remove_slot.Goals as goal

pub returns-in-Err-clause-removes : goal.returns-in-Err-clause-removes
returns-in-Err-clause-removes c =
    none_gone c.args.slots.now.items c.args.id
    (not_there (all_rows c.args.slots.now.items) c.args.id.0 c.in-Err.field-0 (subst (λ (l : List Slot). IsRowGap (all_rows l) c.args.id.0 c.in-Err.field-0) c.deref.ensures.value c.in-Err.ensures.absent))
