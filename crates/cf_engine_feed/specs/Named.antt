-- The item that a step names: no other has another target after it.
use Rattle.cf_base.specs.declared.ids.ItemId.{ItemId}
use Rattle.cf_engine_feed_plan.specs.declared.entry_steps.Step.{Step}
use Rattle.cf_engine_feed_plan.specs.declared.entry_steps.Step.TheVariants.{Apply, Mark, Seen, CopyOff}
use Rattle.cf_model.specs.Given.{named_by}

-- a copy is the next item
abbrev pub item_of_step : ItemId → Step → ItemId
item_of_step next (Apply c) = named_by c
item_of_step next (Mark item) = item
item_of_step next (Seen p) = p.item
item_of_step next (CopyOff item) = next
