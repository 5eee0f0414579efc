-- A copy at its turn is the change that is given for it.
use Rattle.std.proofs.Common.{◌≡◌, Some, None, Option, ap}
use Rattle.std.specs.Prelude.{option_map}
use Rattle.cf_base.specs.declared.changes.Change.{Change}
use Rattle.cf_base.specs.declared.ids.ItemId.{ItemId}
use Rattle.cf_model.specs.Items.{Item, item_of}
use Rattle.cf_model.specs.Skips.{try_change}
use Rattle.cf_model.specs.State.{State, items_now}
use Rattle.cf_engine_feed_plan.specs.Lists.{copied_off, copy_of}
use Rattle.cf_engine_feed_plan.specs.Turns.{copy_if, do_step}
use Rattle.cf_engine_feed_plan.specs.declared.entry_steps.Step.TheVariants.{CopyOff}
use Rattle.cf_tree.proofs.Depths.{only}

pub copy_is : (s : State) (item : ItemId) (c : Change) → copy_of s.filter.volume.next_item (items_now s) item ≡ Some c → do_step (CopyOff item) s ≡ try_change c s
copy_is s item c h = cases (item_of (items_now s) item) h where
  cases : (o : Option Item) → option_map (copied_off s.filter.volume.next_item (items_now s)) o ≡ Some c → copy_if o s ≡ try_change c s
  cases None e = let z : ◌≡◌ {A = Option Change} None (Some c) = e in absurd cc
  cases (Some i) e = ap (λ (d : Change). try_change d s) (only (copied_off s.filter.volume.next_item (items_now s) i) c e)
