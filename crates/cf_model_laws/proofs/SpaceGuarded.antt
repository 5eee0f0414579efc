-- What the parts of `Space` keep in `replay`, each by what its own parts keep.
use Rattle.std.specs.Prelude.{ℕ, List, Option, Some, None, ◌-◌, ◌≡◌, ◌==◌}
use Rattle.cf_base.specs.declared.answers.Shown.TheVariants as shown
use Rattle.cf_base.specs.declared.ids.ItemId.{ItemId}
use Rattle.cf_model.specs.Arrows.{each, Preserves}
use Rattle.cf_model.specs.Blocks.{blocks_used}
use Rattle.cf_model.specs.Callbacks.{calling}
use Rattle.cf_model.specs.Dehydration.{dehydrate_range}
use Rattle.cf_model.specs.Fetching.{nothing_more}
use Rattle.cf_model.specs.Items.{Item, item_of}
use Rattle.cf_model.specs.State.{State, items_now, with_filter}
use Rattle.cf_model_laws.proofs.CallbacksGuarded as callbacks_keep
use Rattle.cf_model_laws.proofs.DehydrationGuarded as dehydration_keep
use Rattle.cf_model_laws.proofs.FetchingGuarded as fetching_keep
use Rattle.cf_model.specs.Space.{dehydrate_now, dehydrate_whole, free, free_all, plan_now, show_freed, space, why_no_space}
use Rattle.cf_model_laws.proofs.Guarded.{Commanding, Guarded}
use Rattle.cf_model.proofs.ArrowLaws.{keeps_each, keeps_ret, keeps_then, keeps_unless}
use Rattle.std.proofs.Common.{refl}
use Rattle.cf_model.specs.Trees.{Keeps}
use Rattle.cf_model.proofs.TreeLaws.{keeps_bind}
use Rattle.cf_model_laws.specs.Premises.{IsFair}
use Rattle.cf_model_laws.proofs.FoundItems.{found_again}

dehydrate_now_at : (P : State → Type 0) → Guarded P → Commanding P → (o : Option Item) (s : State) → ((i : Item) → o ≡ Some i → IsFair s.link → item_of (items_now s) i.id ≡ Some i) → P s → Keeps P (dehydrate_now o s)
dehydrate_now_at P closed commanding None s there h = h
dehydrate_now_at P closed commanding (Some i) s there h =
    keeps_bind P (calling (dehydrate_range None i) s) nothing_more
    (callbacks_keep.calling_at P closed (dehydrate_range None i) s (dehydration_keep.dehydrate_range_at s.link s.volatile.tokens (λ x. P (with_filter x s)) (closed.on_filter s h) (commanding.waits s) None i s.filter (λ fair. there i refl fair) h))
    (λ a t j. (fetching_keep.nothing_more_keeps P closed a).keeps t j)

dehydrate_whole_keeps : (P : State → Type 0) → Guarded P → Commanding P → (item : ItemId) → Preserves P (dehydrate_whole item)
dehydrate_whole_keeps P closed commanding item = record {
  keeps = λ s h. dehydrate_now_at P closed commanding (item_of (items_now s) item) s (λ i e fair. found_again (λ j. j.id.0 == item.0) 0 s.filter.volume.next_item.0 (items_now s) i ((closed.on_filter s h).sound s.filter h fair).now.order e) h;
}

pub show_freed_keeps : (P : State → Type 0) → Guarded P → (x1 : ℕ) → Preserves P (show_freed x1)
show_freed_keeps P closed before = record { keeps = λ s i_. ((keeps_ret P (shown.Freed (before - blocks_used (items_now s))))).keeps s i_ }

pub free_all_keeps : (P : State → Type 0) → Guarded P → Commanding P → (x1 : ℕ) → (x2 : List ItemId) → Preserves P (free_all x1 x2)
free_all_keeps P closed commanding before items = keeps_then P (each dehydrate_whole items) (show_freed before) (keeps_each P dehydrate_whole items (dehydrate_whole_keeps P closed commanding)) (show_freed_keeps P closed before)

pub free_keeps : (P : State → Type 0) → Guarded P → Commanding P → (x1 : ℕ) → Preserves P (free x1)
free_keeps P closed commanding budget = record { keeps = λ s i_. ((free_all_keeps P closed commanding (blocks_used (items_now s)) (plan_now budget s))).keeps s i_ }

pub space_keeps : (P : State → Type 0) → Guarded P → Commanding P → (x1 : ℕ) → Preserves P (space x1)
space_keeps P closed commanding budget = record { keeps = λ s i_. ((keeps_unless P shown.Refused (why_no_space budget s) (free budget) (free_keeps P closed commanding budget))).keeps s i_ }
