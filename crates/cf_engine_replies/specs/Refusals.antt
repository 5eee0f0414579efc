-- Refusals that count twice in a row, which mirror the code: no definitions to believe.
use Rattle.cf_base.specs.declared.codes.Code.TheVariants as code
use Rattle.cf_base.specs.declared.messages.Why.{Why}
use Rattle.cf_model.specs.Arrows.{Arrow, reading, then_do}
use Rattle.cf_model.specs.Books.{QueueEntry}
use Rattle.cf_model.specs.PushReplies.{by_why, held_and_closed, item_of_entry, move_away, name_taken_by, not_empty_by, nothing_further, was_name_taken, was_not_empty}
use Rattle.cf_model.specs.Skips.{in_volatile, skip}
use Rattle.cf_model.specs.State.{State}

-- the entry's item moves to its conflict name, where it is there
abbrev pub moved_off : QueueEntry → Arrow State (Unit {0})
moved_off e = reading (item_of_entry e) move_away

-- of an item, and of a tombstone
abbrev pub name_refused : QueueEntry → Arrow State (Unit {0})
name_refused e = reading (was_name_taken e.item) (name_taken_by e)

abbrev pub not_empty_refused : QueueEntry → Arrow State (Unit {0})
not_empty_refused e = reading (was_not_empty e.number) (not_empty_by e)

abbrev pub quota_refused : QueueEntry → Arrow State (Unit {0})
quota_refused e = then_do (nothing_further e) (skip code.Quota)

-- the item or the tombstone is held back first
abbrev pub held_refused : QueueEntry → Why → Arrow State (Unit {0})
held_refused e w = then_do (in_volatile (held_and_closed e)) (by_why w e)
