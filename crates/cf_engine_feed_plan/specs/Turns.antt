-- What steps make of a state, and which steps are those of an entry's turn.
use Rattle.std.specs.Prelude.{Bool, true, false, not, List, [], ◌∷◌, Option, Some, None, ◌≡◌, ◌||◌}
use Rattle.cf_base.specs.declared.ids.ItemId.{ItemId}
use Rattle.cf_base.specs.declared.messages.Entry.{Entry}
use Rattle.cf_model.specs.Arrows.{Arrow, and_then, ret}
use Rattle.cf_model.specs.Feeds.{copy_off, is_later, take_turn, turn}
use Rattle.cf_model.specs.Items.{Item, item_of}
use Rattle.cf_model.specs.Skips.{try_change, try_mark_now, try_seen}
use Rattle.cf_model.specs.State.{State, items_now}
use Rattle.cf_engine_feed_plan.specs.declared.entry_steps.Step.{Step}
use Rattle.cf_engine_feed_plan.specs.declared.entry_steps.Step.TheVariants.{Apply, Mark, Seen, CopyOff}
use Rattle.cf_engine_feed_plan.specs.declared.entry_steps.Turn.{Turn}
use Rattle.cf_engine_feed_plan.specs.declared.entry_steps.Turn.TheVariants.{Nothing, Postponed, Later, Do}

-- the item's local writes go on in a file of their own; nothing where the item is gone
abbrev pub copy_if : Option Item → Arrow State Bool
copy_if None = ret true
copy_if (Some i) = copy_off i

abbrev pub copy_now : ItemId → Arrow State Bool
copy_now item s = copy_if (item_of (items_now s) item) s

-- one step; whether it was done
abbrev pub do_step : Step → Arrow State Bool
do_step (Apply c) = try_change c
do_step (Mark item) = try_mark_now item
do_step (Seen p) = try_seen p
do_step (CopyOff item) = copy_now item

-- the steps in order, up to the first that is left out; whether all were done
abbrev pub do_steps : List Step → Arrow State Bool
do_steps [] = ret true
do_steps (x ∷ xs) = and_then (do_step x) (do_steps xs)

-- the turn that the steps are; of an entry that comes again there is none yet
abbrev pub turn_of : Turn → Arrow State Bool
turn_of Nothing = ret false
turn_of Postponed = ret true
turn_of Later = ret false
turn_of (Do xs) = turn (do_steps xs)

-- The steps are those of the entry's turn: what is done of them, and each state that a stop may leave, is what the rules of
-- feeds say. Only at its first turn does an entry come again.
abbrev pub IsTurn : Bool → Entry → State → Turn → Type 0
IsTurn last e s Later = (last ≡ false) × (is_later s e ≡ true)
IsTurn last e s steps = ((last || not (is_later s e)) ≡ true) × (turn_of steps s ≡ take_turn e s)
