-- What the parts of `Placements` keep, each by what its own parts keep.
use Rattle.std.specs.Prelude.{ℕ, Bool, List, [], ◌∷◌, Option}
use Rattle.cf_base.specs.declared.answers.Shown.{Shown}
use Rattle.cf_base.specs.declared.answers.Shown.TheVariants as shown
use Rattle.cf_base.specs.declared.changes.Change.{Change}
use Rattle.cf_base.specs.declared.ids.ItemId.{ItemId}
use Rattle.cf_base.specs.declared.ids.Usn.{Usn}
use Rattle.cf_model.specs.Arrows.{Arrow, ret, then_do, unit}
use Rattle.cf_model.specs.Requests.{Nothing}
use Rattle.cf_model.specs.Changes.{changes}
use Rattle.cf_model.specs.Items.{Item}
use Rattle.cf_model.specs.LookUp.{Place}
use Rattle.cf_model.specs.Operations.{done}
use Rattle.cf_model.specs.Plans.{Creation, plan_convert, plan_keep, plan_mark, plan_unmark}
use Rattle.cf_model.specs.State.{Filter}
use Rattle.cf_model.specs.Waits.{on_ok}
use Rattle.cf_model.specs.Calls.{below_at, number_of, place_at}
use Rattle.cf_model.proofs.CallsKeep as calls_keep
use Rattle.cf_model.proofs.OperationsKeep as operations_keep
use Rattle.cf_model.proofs.WaitsKeep as waits_keep
use Rattle.cf_model.specs.Placements.{asking, asking_tests, convert, convert_item, create, create_at, keep_full, keep_item, make_planned, mark, mark_item, next_item, planned_at, planned_on, revert, revert_item, revert_plan, settle_changed, show_item, unmark, unmark_item, update, update_item, update_plan}
use Rattle.cf_model.proofs.Closed.{ClosedFilter}
use Rattle.cf_model.proofs.ArrowLaws.{keeps_each, keeps_reading, keeps_ret, keeps_then}
use Rattle.cf_model.specs.Arrows.{Preserves}
use Rattle.cf_model.specs.Changes.{same_book}
use Rattle.cf_model.specs.Changes.{change}

pub show_item_keeps : (P : Filter → Type 0) → ClosedFilter P → (x1 : List Change) → (x2 : ItemId) → Preserves P (show_item x1 x2)
show_item_keeps P closed cs item = calls_keep.changing_keeps P closed cs (ret (shown.Item item)) (keeps_ret P (shown.Item item))

pub make_planned_keeps : (P : Filter → Type 0) → ClosedFilter P → (x1 : List Change) → Preserves P (make_planned x1)
make_planned_keeps P closed cs = keeps_reading P next_item (show_item cs) (show_item_keeps P closed cs)

pub create_at_keeps : (P : Filter → Type 0) → ClosedFilter P → (x1 : Creation) → (x2 : Place) → Preserves P (create_at x1 x2)
create_at_keeps P closed what p = keeps_reading P (planned_at what p) (on_ok make_planned) (waits_keep.on_ok_keeps P closed make_planned (make_planned_keeps P closed))

pub create_keeps : (P : Filter → Type 0) → ClosedFilter P → (x1 : List ℕ) → (x2 : Creation) → Preserves P (create x1 x2)
create_keeps P closed path what = keeps_reading P (place_at path) (on_ok (create_at what)) (waits_keep.on_ok_keeps P closed (create_at what) (create_at_keeps P closed what))

pub planned_on_keeps : (P : Filter → Type 0) → ClosedFilter P → (x1 : ItemId) → (x2 : List Change) → Preserves P (planned_on x1 x2)
planned_on_keeps P closed item cs = calls_keep.changing_keeps P closed cs (number_of item) (calls_keep.number_of_keeps P closed item)

pub convert_item_keeps : (P : Filter → Type 0) → ClosedFilter P → (x1 : List ℕ) → (x2 : Item) → Preserves P (convert_item x1 x2)
convert_item_keeps P closed identity i = waits_keep.on_ok_keeps P closed (planned_on i.id) (planned_on_keeps P closed i.id) (plan_convert i identity)

pub convert_keeps : (P : Filter → Type 0) → ClosedFilter P → (x1 : List ℕ) → (x2 : List ℕ) → Preserves P (convert x1 x2)
convert_keeps P closed path identity = keeps_reading P (below_at path) (on_ok (convert_item identity)) (waits_keep.on_ok_keeps P closed (convert_item identity) (convert_item_keeps P closed identity))

pub revert_item_keeps : (P : Filter → Type 0) → ClosedFilter P → (x1 : Item) → Preserves P (revert_item x1)
revert_item_keeps P closed i = keeps_reading P (revert_plan i) (on_ok (planned_on i.id)) (waits_keep.on_ok_keeps P closed (planned_on i.id) (planned_on_keeps P closed i.id))

pub revert_keeps : (P : Filter → Type 0) → ClosedFilter P → (x1 : List ℕ) → Preserves P (revert x1)
revert_keeps P closed path = waits_keep.on_path_keeps P closed path revert_item (revert_item_keeps P closed)

pub update_item_keeps : (P : Filter → Type 0) → ClosedFilter P → (x1 : List ℕ) → (x2 : Option ℕ) → (x3 : Item) → Preserves P (update_item x1 x2 x3)
update_item_keeps P closed identity size i = keeps_reading P (update_plan identity size i) (on_ok (planned_on i.id)) (waits_keep.on_ok_keeps P closed (planned_on i.id) (planned_on_keeps P closed i.id))

pub update_keeps : (P : Filter → Type 0) → ClosedFilter P → (x1 : List ℕ) → (x2 : List ℕ) → (x3 : Option ℕ) → Preserves P (update x1 x2 x3)
update_keeps P closed path identity size = waits_keep.on_path_keeps P closed path (update_item identity size) (update_item_keeps P closed identity size)

pub unmark_item_keeps : (P : Filter → Type 0) → ClosedFilter P → (x1 : Item) → Preserves P (unmark_item x1)
unmark_item_keeps P closed i = waits_keep.on_ok_keeps P closed (planned_on i.id) (planned_on_keeps P closed i.id) (plan_unmark i)

pub unmark_keeps : (P : Filter → Type 0) → ClosedFilter P → (x1 : List ℕ) → Preserves P (unmark x1)
unmark_keeps P closed path = waits_keep.on_path_keeps P closed path unmark_item (unmark_item_keeps P closed)

pub settle_changed_keeps : (P : Filter → Type 0) → ClosedFilter P → (x1 : ItemId) → (x2 : List Change) → Preserves P (settle_changed x1 x2)
settle_changed_keeps P closed item [] = keeps_ret P unit
settle_changed_keeps P closed item (c ∷ cs) = closed.settled item Nothing

pub asking_keeps : (P : Filter → Type 0) → ClosedFilter P → (x1 : ItemId) → (x2 : Arrow Filter Shown) → (Preserves P (x2)) → (x3 : List Change) → Preserves P (asking x1 x2 x3)
asking_keeps P closed item answer answer_keeps cs = operations_keep.checked_keeps P closed (asking_tests item cs) (then_do (changes cs) (then_do (settle_changed item cs) answer)) (keeps_then P (changes cs) (then_do (settle_changed item cs) answer) (keeps_each P change cs (λ z. closed.change same_book z)) (keeps_then P (settle_changed item cs) answer (settle_changed_keeps P closed item cs) answer_keeps))

pub mark_item_keeps : (P : Filter → Type 0) → ClosedFilter P → (x1 : Usn) → (x2 : Item) → Preserves P (mark_item x1 x2)
mark_item_keeps P closed n i = waits_keep.on_ok_keeps P closed (asking i.id (number_of i.id)) (asking_keeps P closed i.id (number_of i.id) (calls_keep.number_of_keeps P closed i.id)) (plan_mark i n)

pub mark_keeps : (P : Filter → Type 0) → ClosedFilter P → (x1 : List ℕ) → (x2 : Usn) → Preserves P (mark x1 x2)
mark_keeps P closed path n = waits_keep.on_path_keeps P closed path (mark_item n) (mark_item_keeps P closed n)

pub keep_item_keeps : (P : Filter → Type 0) → ClosedFilter P → (x1 : Bool) → (x2 : Item) → Preserves P (keep_item x1 x2)
keep_item_keeps P closed on i = waits_keep.on_ok_keeps P closed (asking i.id done) (asking_keeps P closed i.id done (operations_keep.done_keeps P closed)) (plan_keep i on)

pub keep_full_keeps : (P : Filter → Type 0) → ClosedFilter P → (x1 : List ℕ) → (x2 : Bool) → Preserves P (keep_full x1 x2)
keep_full_keeps P closed path on = waits_keep.on_path_keeps P closed path (keep_item on) (keep_item_keeps P closed on)
