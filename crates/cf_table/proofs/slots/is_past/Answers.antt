use Rattle.std.proofs.Common.{arith, length, ◌-◌}
use Rattle.std.proofs.lemmas.Bool.{ltb-true}
use Rattle.cf_table.proofs.RowSlots.{past_last}
use Rattle.cf_table.proofs.slots.is_past.Goals as goal

pub returns-in-Some : goal.returns-in-Some
returns-in-Some c =
    let item = c.in-Some.ensures.item in
    λ less. past_last c.args.slots.now (length c.args.slots.now - 1) c.args.id c.in-Some.slot.now c.requires (omega (arith, item.3.0)) item.1 (ltb-true c.in-Some.slot.now.row.id.0 c.args.id less)
