-- The parts of `Space` are sure, each by its own parts.
use Rattle.std.proofs.Common.{refl}
use Rattle.std.specs.Prelude.{ℕ, List, Option, Some, None, ◌-◌}
use Rattle.cf_base.specs.declared.answers.Shown.TheVariants as shown
use Rattle.cf_base.specs.declared.ids.ItemId.{ItemId}
use Rattle.cf_model.specs.Arrows.{each, ret, unit, unless}
use Rattle.cf_model.specs.Blocks.{blocks_used}
use Rattle.cf_model.specs.Callbacks.{calling}
use Rattle.cf_model.specs.Dehydration.{dehydrate_range}
use Rattle.cf_model.specs.Fetching.{nothing_more}
use Rattle.cf_model.specs.Items.{Item, item_of}
use Rattle.cf_model.specs.State.{items_now}
use Rattle.cf_model.specs.Space.{dehydrate_now, dehydrate_whole, free, free_all, plan_now, show_freed, space, why_no_space}
use Rattle.cf_check_ways.specs.Ways.{IsSure, of_state}
use Rattle.cf_check_ways.proofs.Sure.{sure_each, sure_fixed, sure_ret, sure_seq, sure_then, sure_unless}
use Rattle.cf_check_ways.proofs.CallbacksSure as callbacks_sure
use Rattle.cf_check_ways.proofs.DehydrationSure as dehydration_sure
use Rattle.cf_check_ways.proofs.FetchingSure as fetching_sure

pub dehydrate_now_sure : (x1 : Option Item) → IsSure of_state (dehydrate_now x1)
dehydrate_now_sure None = sure_ret of_state unit
dehydrate_now_sure (Some i) = sure_seq of_state (calling (dehydrate_range None i)) nothing_more (callbacks_sure.calling_sure (dehydrate_range None i) (dehydration_sure.dehydrate_range_sure None i)) (fetching_sure.nothing_more_sure)

pub dehydrate_whole_sure : (x1 : ItemId) → IsSure of_state (dehydrate_whole x1)
dehydrate_whole_sure item = sure_fixed of_state (dehydrate_whole item) (λ x. dehydrate_now (item_of (items_now x) item)) (λ s. refl) (λ x. dehydrate_now_sure (item_of (items_now x) item))

pub show_freed_sure : (x1 : ℕ) → IsSure of_state (show_freed x1)
show_freed_sure before = sure_fixed of_state (show_freed before) (λ x. ret (shown.Freed (before - blocks_used (items_now x)))) (λ s. refl) (λ x. sure_ret of_state (shown.Freed (before - blocks_used (items_now x))))

pub free_all_sure : (x1 : ℕ) → (x2 : List ItemId) → IsSure of_state (free_all x1 x2)
free_all_sure before items = sure_then of_state (each dehydrate_whole items) (show_freed before) (sure_each of_state dehydrate_whole items (dehydrate_whole_sure)) (show_freed_sure before)

pub free_sure : (x1 : ℕ) → IsSure of_state (free x1)
free_sure budget = sure_fixed of_state (free budget) (λ x. free_all (blocks_used (items_now x)) (plan_now budget x)) (λ s. refl) (λ x. free_all_sure (blocks_used (items_now x)) (plan_now budget x))

pub space_sure : (x1 : ℕ) → IsSure of_state (space x1)
space_sure budget = sure_fixed of_state (space budget) (λ x. unless shown.Refused (why_no_space budget x) (free budget)) (λ s. refl) (λ x. sure_unless of_state shown.Refused (why_no_space budget x) (free budget) (free_sure budget))
