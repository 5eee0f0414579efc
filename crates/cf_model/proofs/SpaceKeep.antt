-- What the parts of `Space` keep, each by what its own parts keep.
use Rattle.std.specs.Prelude.{ℕ, List, Option, Some, None, ◌-◌}
use Rattle.cf_base.specs.declared.answers.Shown.TheVariants as shown
use Rattle.cf_base.specs.declared.ids.ItemId.{ItemId}
use Rattle.cf_model.specs.Arrows.{each, unit}
use Rattle.cf_model.specs.Blocks.{blocks_used}
use Rattle.cf_model.specs.Callbacks.{calling}
use Rattle.cf_model.specs.Dehydration.{dehydrate_range}
use Rattle.cf_model.specs.Fetching.{nothing_more}
use Rattle.cf_model.specs.Items.{Item, item_of}
use Rattle.cf_model.specs.State.{State, items_now}
use Rattle.cf_model.proofs.CallbacksKeep as callbacks_keep
use Rattle.cf_model.proofs.DehydrationKeep as dehydration_keep
use Rattle.cf_model.proofs.FetchingKeep as fetching_keep
use Rattle.cf_model.specs.Space.{dehydrate_now, dehydrate_whole, free, free_all, plan_now, show_freed, space, why_no_space}
use Rattle.cf_model.proofs.Closed.{Closed}
use Rattle.cf_model.proofs.ArrowLaws.{keeps_each, keeps_ret, keeps_seq, keeps_then, keeps_unless}
use Rattle.cf_model.specs.Arrows.{Preserves}
use Rattle.cf_model.specs.State.{with_filter}

pub dehydrate_now_keeps : (P : State → Type 0) → Closed P → (x1 : Option Item) → Preserves P (dehydrate_now x1)
dehydrate_now_keeps P closed None = keeps_ret P unit
dehydrate_now_keeps P closed (Some i) = keeps_seq P (calling (dehydrate_range None i)) nothing_more (callbacks_keep.calling_keeps P closed (dehydrate_range None i) (λ t1 i2. (dehydration_keep.dehydrate_range_keeps (λ x. P (with_filter x t1)) (closed.on_filter t1 i2) None i))) (fetching_keep.nothing_more_keeps P closed)

pub dehydrate_whole_keeps : (P : State → Type 0) → Closed P → (x1 : ItemId) → Preserves P (dehydrate_whole x1)
dehydrate_whole_keeps P closed item = record { keeps = λ s i_. ((dehydrate_now_keeps P closed (item_of (items_now s) item))).keeps s i_ }

pub show_freed_keeps : (P : State → Type 0) → Closed P → (x1 : ℕ) → Preserves P (show_freed x1)
show_freed_keeps P closed before = record { keeps = λ s i_. ((keeps_ret P (shown.Freed (before - blocks_used (items_now s))))).keeps s i_ }

pub free_all_keeps : (P : State → Type 0) → Closed P → (x1 : ℕ) → (x2 : List ItemId) → Preserves P (free_all x1 x2)
free_all_keeps P closed before items = keeps_then P (each dehydrate_whole items) (show_freed before) (keeps_each P dehydrate_whole items (dehydrate_whole_keeps P closed)) (show_freed_keeps P closed before)

pub free_keeps : (P : State → Type 0) → Closed P → (x1 : ℕ) → Preserves P (free x1)
free_keeps P closed budget = record { keeps = λ s i_. ((free_all_keeps P closed (blocks_used (items_now s)) (plan_now budget s))).keeps s i_ }

pub space_keeps : (P : State → Type 0) → Closed P → (x1 : ℕ) → Preserves P (space x1)
space_keeps P closed budget = record { keeps = λ s i_. ((keeps_unless P shown.Refused (why_no_space budget s) (free budget) (free_keeps P closed budget))).keeps s i_ }
