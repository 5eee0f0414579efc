use Rattle.std.proofs.Common.{◌≡◌, ◌++◌, drop}
use Rattle.cf_item_rules.specs.PinStates.{set_each}
use Rattle.cf_item_rules.proofs.pins.set_each.Given as goal

abbrev pub invariant-loop-item : goal.invariant-loop-item
invariant-loop-item l = l.changes ++ set_each l.rows.rows l.state (drop l.item-index l.ids) ≡ set_each l.rows.rows l.state l.ids
