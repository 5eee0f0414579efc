-- The parts of `Space` keep identities named.
use Rattle.std.specs.Prelude.{Bool, ℕ, List, Option, Some, None, ◌-◌}
use Rattle.cf_base.specs.declared.answers.Shown.TheVariants as shown
use Rattle.cf_base.specs.declared.ids.ItemId.{ItemId}
use Rattle.cf_model.specs.Arrows.{each, Preserves, unit}
use Rattle.cf_model.specs.Blocks.{blocks_used}
use Rattle.cf_model.specs.Callbacks.{calling}
use Rattle.cf_model.specs.Dehydration.{dehydrate_range}
use Rattle.cf_model.specs.Fetching.{nothing_more}
use Rattle.cf_model.specs.Items.{Item, item_of}
use Rattle.cf_model.specs.Space.{dehydrate_now, dehydrate_whole, free, free_all, plan_now, show_freed, space, why_no_space}
use Rattle.cf_model.specs.State.{items_now}
use Rattle.cf_model.proofs.ArrowLaws.{keeps_each, keeps_ret, keeps_seq, keeps_then, keeps_unless}
use Rattle.cf_pair_identities.specs.Named.{Named}
use Rattle.cf_pair_identities.proofs.CallbacksNamed as callbacks_named
use Rattle.cf_pair_identities.proofs.DehydrationNamed as dehydration_named
use Rattle.cf_pair_identities.proofs.FetchingNamed as fetching_named

pub dehydrate_now_keeps : (full : Bool) → (x1 : Option Item) → Preserves (Named full) (dehydrate_now x1)
dehydrate_now_keeps full None = keeps_ret (Named full) unit
dehydrate_now_keeps full (Some i) =
    keeps_seq (Named full) (calling (dehydrate_range None i)) nothing_more
    (callbacks_named.calling_keeps full (dehydrate_range None i) (dehydration_named.dehydrate_range_keeps full None i))
    (fetching_named.nothing_more_keeps full)

pub dehydrate_whole_keeps : (full : Bool) → (x1 : ItemId) → Preserves (Named full) (dehydrate_whole x1)
dehydrate_whole_keeps full item = record { keeps = λ s h. (dehydrate_now_keeps full (item_of (items_now s) item)).keeps s h }

pub show_freed_keeps : (full : Bool) → (x1 : ℕ) → Preserves (Named full) (show_freed x1)
show_freed_keeps full before = record { keeps = λ s h. (keeps_ret (Named full) (shown.Freed (before - blocks_used (items_now s)))).keeps s h }

pub free_all_keeps : (full : Bool) → (x1 : ℕ) → (x2 : List ItemId) → Preserves (Named full) (free_all x1 x2)
free_all_keeps full before items = keeps_then (Named full) (each dehydrate_whole items) (show_freed before) (keeps_each (Named full) dehydrate_whole items (dehydrate_whole_keeps full)) (show_freed_keeps full before)

pub free_keeps : (full : Bool) → (x1 : ℕ) → Preserves (Named full) (free x1)
free_keeps full budget = record { keeps = λ s h. (free_all_keeps full (blocks_used (items_now s)) (plan_now budget s)).keeps s h }

pub space_keeps : (full : Bool) → (x1 : ℕ) → Preserves (Named full) (space x1)
space_keeps full budget = record { keeps = λ s h. (keeps_unless (Named full) shown.Refused (why_no_space budget s) (free budget) (free_keeps full budget)).keeps s h }
