-- The parts of `Placements` are sure, each by its own parts.
use Rattle.std.proofs.Common.{◌||◌, cond, not, refl}
use Rattle.std.specs.Prelude.{ℕ, Bool, true, false, List, [], ◌∷◌, Option, Some, None}
use Rattle.cf_base.specs.declared.answers.Shown.{Shown}
use Rattle.cf_base.specs.declared.answers.Shown.TheVariants as shown
use Rattle.cf_base.specs.declared.changes.Change.{Change}
use Rattle.cf_base.specs.declared.changes.Change.TheVariants as change
use Rattle.cf_base.specs.declared.codes.Code.{Code}
use Rattle.cf_base.specs.declared.codes.Code.TheVariants as code
use Rattle.cf_base.specs.declared.ids.ItemId.{ItemId}
use Rattle.cf_base.specs.declared.ids.Usn.{Usn}
use Rattle.cf_model.specs.Arrows.{Arrow, ret, then_do, unit}
use Rattle.cf_model.specs.Requests.{Nothing}
use Rattle.cf_model.specs.Changes.{changes}
use Rattle.cf_model.specs.Items.{Item}
use Rattle.cf_model.specs.LookUp.{Place}
use Rattle.cf_model.specs.Operations.{done}
use Rattle.cf_model.specs.Plans.{Creation, plan_convert, plan_unmark, planned}
use Rattle.cf_model.specs.Numbers.{is_no_usn, same_usn}
use Rattle.cf_model.specs.State.{Filter}
use Rattle.cf_model.specs.Waits.{on_ok}
use Rattle.cf_model.specs.Words.{first_of, when}
use Rattle.cf_model.specs.Calls.{below_at, number_of, place_at}
use Rattle.cf_model.specs.Placements.{asking, asking_tests, convert, convert_item, create, create_at, keep_full, keep_item, make_planned, mark, mark_item, next_item, planned_at, planned_on, revert, revert_item, revert_plan, settle_changed, show_item, unmark, unmark_item, update, update_item, update_plan}
use Rattle.cf_check_ways.specs.Ways.{IsSure, of_filter}
use Rattle.cf_check_ways.proofs.Sure.{reads_fixed, sure_reading, sure_ret, sure_then}
use Rattle.cf_check_ways.proofs.ChangesSure.{PutNothing, PutsNothing, changes_sure}
use Rattle.cf_check_ways.proofs.VolumeSteps.{settle_sure}
use Rattle.cf_check_ways.proofs.RoomReads.{reads_asking}
use Rattle.cf_check_ways.proofs.CallsSure as calls_sure
use Rattle.cf_check_ways.proofs.OperationsSure as operations_sure
use Rattle.cf_check_ways.proofs.WaitsSure as waits_sure

pub show_item_sure : (x1 : List Change) → (x2 : ItemId) → IsSure of_filter (show_item x1 x2)
show_item_sure cs item = calls_sure.changing_sure cs (ret (shown.Item item)) (sure_ret of_filter (shown.Item item))

pub make_planned_sure : (x1 : List Change) → IsSure of_filter (make_planned x1)
make_planned_sure cs = sure_reading of_filter next_item (show_item cs) (reads_fixed of_filter next_item (λ s. refl)) (show_item_sure cs)

pub create_at_sure : (x1 : Creation) → (x2 : Place) → IsSure of_filter (create_at x1 x2)
create_at_sure what p = sure_reading of_filter (planned_at what p) (on_ok make_planned) (reads_fixed of_filter (planned_at what p) (λ s. refl)) (waits_sure.on_ok_sure make_planned (make_planned_sure))

pub create_sure : (x1 : List ℕ) → (x2 : Creation) → IsSure of_filter (create x1 x2)
create_sure path what = sure_reading of_filter (place_at path) (on_ok (create_at what)) (reads_fixed of_filter (place_at path) (λ s. refl)) (waits_sure.on_ok_sure (create_at what) (create_at_sure what))

pub planned_on_sure : (x1 : ItemId) → (x2 : List Change) → IsSure of_filter (planned_on x1 x2)
planned_on_sure item cs = calls_sure.changing_sure cs (number_of item) (calls_sure.number_of_sure item)

pub convert_item_sure : (x1 : List ℕ) → (x2 : Item) → IsSure of_filter (convert_item x1 x2)
convert_item_sure identity i = waits_sure.on_ok_sure (planned_on i.id) (planned_on_sure i.id) (plan_convert i identity)

pub convert_sure : (x1 : List ℕ) → (x2 : List ℕ) → IsSure of_filter (convert x1 x2)
convert_sure path identity = sure_reading of_filter (below_at path) (on_ok (convert_item identity)) (reads_fixed of_filter (below_at path) (λ s. refl)) (waits_sure.on_ok_sure (convert_item identity) (convert_item_sure identity))

pub revert_item_sure : (x1 : Item) → IsSure of_filter (revert_item x1)
revert_item_sure i = sure_reading of_filter (revert_plan i) (on_ok (planned_on i.id)) (reads_fixed of_filter (revert_plan i) (λ s. refl)) (waits_sure.on_ok_sure (planned_on i.id) (planned_on_sure i.id))

pub revert_sure : (x1 : List ℕ) → IsSure of_filter (revert x1)
revert_sure path = waits_sure.on_path_sure path revert_item (revert_item_sure)

pub update_item_sure : (x1 : List ℕ) → (x2 : Option ℕ) → (x3 : Item) → IsSure of_filter (update_item x1 x2 x3)
update_item_sure identity size i = sure_reading of_filter (update_plan identity size i) (on_ok (planned_on i.id)) (reads_fixed of_filter (update_plan identity size i) (λ s. refl)) (waits_sure.on_ok_sure (planned_on i.id) (planned_on_sure i.id))

pub update_sure : (x1 : List ℕ) → (x2 : List ℕ) → (x3 : Option ℕ) → IsSure of_filter (update x1 x2 x3)
update_sure path identity size = waits_sure.on_path_sure path (update_item identity size) (update_item_sure identity size)

pub unmark_item_sure : (x1 : Item) → IsSure of_filter (unmark_item x1)
unmark_item_sure i = waits_sure.on_ok_sure (planned_on i.id) (planned_on_sure i.id) (plan_unmark i)

pub unmark_sure : (x1 : List ℕ) → IsSure of_filter (unmark x1)
unmark_sure path = waits_sure.on_path_sure path unmark_item (unmark_item_sure)

pub settle_changed_sure : (x1 : ItemId) → (x2 : List Change) → IsSure of_filter (settle_changed x1 x2)
settle_changed_sure item [] = sure_ret of_filter unit
settle_changed_sure item (c ∷ cs) = settle_sure item Nothing

pub asking_sure : (x1 : ItemId) → (x2 : Arrow Filter Shown) → (IsSure of_filter (x2)) → (x3 : List Change) → PutNothing x3 → IsSure of_filter (asking x1 x2 x3)
asking_sure item answer answer_sure cs none = operations_sure.checked_sure (asking_tests item cs) (then_do (changes cs) (then_do (settle_changed item cs) answer)) (reads_asking item cs) (sure_then of_filter (changes cs) (then_do (settle_changed item cs) answer) (changes_sure cs none) (sure_then of_filter (settle_changed item cs) answer (settle_changed_sure item cs) answer_sure))

-- changes that put no bytes, where they are not refused
planned_sure : (f : List Change → Arrow Filter Shown) → ((cs : List Change) → PutNothing cs → IsSure of_filter (f cs)) → (why : Option Code) (cs : List Change) → PutNothing cs → IsSure of_filter (on_ok f (planned why cs))
planned_sure f f_sure None cs none = f_sure cs none
planned_sure f f_sure (Some c) cs none = sure_ret of_filter (shown.Refused c)

one_nothing : (may : Bool) (c : Change) → PutsNothing c → PutNothing (when may (c ∷ []))
one_nothing true c none = (none, record {})
one_nothing false c none = record {}

pub mark_item_sure : (x1 : Usn) → (x2 : Item) → IsSure of_filter (mark_item x1 x2)
mark_item_sure n i = planned_sure (asking i.id (number_of i.id)) (asking_sure i.id (number_of i.id) (calls_sure.number_of_sure i.id)) (first_of ((not i.placeholder, code.NotPlaceholder) ∷ (not (is_no_usn n || same_usn n i.number), code.UsnMismatch i.number) ∷ [])) (when (not i.in_sync) (change.Mark i.id i.number ∷ [])) (one_nothing (not i.in_sync) (change.Mark i.id i.number) (λ items. refl))

pub mark_sure : (x1 : List ℕ) → (x2 : Usn) → IsSure of_filter (mark x1 x2)
mark_sure path n = waits_sure.on_path_sure path (mark_item n) (mark_item_sure n)

pub keep_item_sure : (x1 : Bool) → (x2 : Item) → IsSure of_filter (keep_item x1 x2)
keep_item_sure on i = planned_sure (asking i.id done) (asking_sure i.id done (operations_sure.done_sure)) (first_of ((i.directory, code.IsDirectory) ∷ (not i.placeholder, code.NotPlaceholder) ∷ [])) (when (not (cond on i.keep (not i.keep))) (change.Keep i.id on ∷ [])) (one_nothing (not (cond on i.keep (not i.keep))) (change.Keep i.id on) (λ items. refl))

pub keep_full_sure : (x1 : List ℕ) → (x2 : Bool) → IsSure of_filter (keep_full x1 x2)
keep_full_sure path on = waits_sure.on_path_sure path (keep_item on) (keep_item_sure on)
