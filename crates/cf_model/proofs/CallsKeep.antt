-- What the parts of `Calls` keep, each by what its own parts keep.
use Rattle.std.specs.Prelude.{ℕ, Bool, true, false, List, [], ◌∷◌, length, ◌+◌}
use Rattle.cf_base.specs.declared.answers.Shown.{Shown}
use Rattle.cf_base.specs.declared.answers.Shown.TheVariants as shown
use Rattle.cf_base.specs.declared.changes.Change.{Change}
use Rattle.cf_base.specs.declared.changes.Change.TheVariants as change
use Rattle.cf_base.specs.declared.ids.Handle.{Handle}
use Rattle.cf_base.specs.declared.ids.ItemId.{ItemId}
use Rattle.cf_base.specs.declared.ids.Usn.{Usn}
use Rattle.cf_base.specs.declared.items.Pin.{Pin}
use Rattle.cf_base.specs.declared.items.Reach.{Reach}
use Rattle.cf_base.specs.declared.policies.Class.{Class}
use Rattle.cf_base.specs.declared.policies.Mode.{Mode}
use Rattle.cf_base.specs.declared.policies.Policy.{Policy}
use Rattle.cf_model.specs.Arrows.{Arrow, noted, reading, ret, then_do}
use Rattle.cf_model.specs.Requests.{Nothing}
use Rattle.cf_model.specs.Books.{with_access}
use Rattle.cf_model.specs.Changes.{change_with, changes}
use Rattle.cf_model.specs.Images.{runs_of}
use Rattle.cf_model.specs.Items.{Item}
use Rattle.cf_model.specs.LookUp.{Place}
use Rattle.cf_model.specs.Operations.{done}
use Rattle.cf_model.specs.Points.{commit}
use Rattle.cf_model.specs.Settling.{accessed, settle}
use Rattle.cf_model.specs.State.{Filter, in_volume, is_replay}
use Rattle.cf_model.specs.Waits.{on_ok}
use Rattle.cf_model.proofs.OperationsKeep as operations_keep
use Rattle.cf_model.proofs.WaitsKeep as waits_keep
use Rattle.cf_model.specs.Calls.{below_at, blocks_now, buried, change_all, changing, class_flags, count_now, delete, delete_item, delete_now, delete_tests, df, flush, has_size, info, info_item, info_of, move_of, next_handle, number_at, number_next, number_of, open_file, open_item, open_tests, opened_as, pin_item, pins_at, place_at, policy_tests, ranges, ranges_item, rename, rename_item, rename_tests, rename_to, room_tests, set_pin, set_policy, set_size, show_count, show_number, size_item, size_now, size_tests, used, used_item, used_now, with_handle, with_policy, write, write_item, write_now, write_tests}
use Rattle.cf_model.proofs.Closed.{ClosedFilter}
use Rattle.cf_model.proofs.ArrowLaws.{keeps_each, keeps_noted, keeps_reading, keeps_ret, keeps_then}
use Rattle.cf_model.specs.Arrows.{Preserves}
use Rattle.cf_model.specs.Changes.{same_book}
use Rattle.cf_model.specs.Changes.{change}

pub opened_as_keeps : (P : Filter → Type 0) → ClosedFilter P → (x1 : ItemId) → (x2 : Handle) → Preserves P (opened_as x1 x2)
opened_as_keeps P closed item h = keeps_then P (noted (with_handle item)) (ret (shown.Opened h)) (keeps_noted P (with_handle item) (closed.keeps_with_handle item)) (keeps_ret P (shown.Opened h))

pub open_item_keeps : (P : Filter → Type 0) → ClosedFilter P → (x1 : Item) → Preserves P (open_item x1)
open_item_keeps P closed i = operations_keep.checked_keeps P closed open_tests (reading next_handle (opened_as i.id)) (keeps_reading P next_handle (opened_as i.id) (opened_as_keeps P closed i.id))

pub open_file_keeps : (P : Filter → Type 0) → ClosedFilter P → (x1 : List ℕ) → Preserves P (open_file x1)
open_file_keeps P closed path = waits_keep.on_file_keeps P closed path open_item (open_item_keeps P closed)

pub changing_keeps : (P : Filter → Type 0) → ClosedFilter P → (x1 : List Change) → (x2 : Arrow Filter Shown) → (Preserves P (x2)) → Preserves P (changing x1 x2)
changing_keeps P closed cs answer answer_keeps = operations_keep.checked_keeps P closed (room_tests cs) (then_do (changes cs) answer) (keeps_then P (changes cs) answer (keeps_each P change cs (λ z. closed.change same_book z)) answer_keeps)

pub show_number_keeps : (P : Filter → Type 0) → ClosedFilter P → (x1 : Usn) → Preserves P (show_number x1)
show_number_keeps P closed n = keeps_ret P (shown.Number n)

pub number_of_keeps : (P : Filter → Type 0) → ClosedFilter P → (x1 : ItemId) → Preserves P (number_of x1)
number_of_keeps P closed item = keeps_reading P (number_at item) show_number (show_number_keeps P closed)

pub write_now_keeps : (P : Filter → Type 0) → ClosedFilter P → (x1 : ItemId) → (x2 : Change) → Preserves P (write_now x1 x2)
write_now_keeps P closed item c = keeps_then P (change_with (with_access item) c) (then_do (settle item Nothing) done) (closed.change (with_access item) c) (keeps_then P (settle item Nothing) done (closed.settled item Nothing) (operations_keep.done_keeps P closed))

pub write_item_keeps : (P : Filter → Type 0) → ClosedFilter P → (x1 : ℕ) → (x2 : List ℕ) → (x3 : ItemId) → Preserves P (write_item x1 x2 x3)
write_item_keeps P closed at [] item = operations_keep.done_keeps P closed
write_item_keeps P closed at (b ∷ bs) item = operations_keep.checked_keeps P closed (write_tests (at + length (b ∷ bs)) (change.Write item at (b ∷ bs) ∷ [])) (write_now item (change.Write item at (b ∷ bs))) (write_now_keeps P closed item (change.Write item at (b ∷ bs)))

pub write_keeps : (P : Filter → Type 0) → ClosedFilter P → (x1 : Handle) → (x2 : ℕ) → (x3 : List ℕ) → Preserves P (write x1 x2 x3)
write_keeps P closed h at bytes = waits_keep.on_handle_keeps P closed h (write_item at bytes) (write_item_keeps P closed at bytes)

pub size_now_keeps : (P : Filter → Type 0) → ClosedFilter P → (x1 : ItemId) → (x2 : ℕ) → (x3 : Bool) → Preserves P (size_now x1 x2 x3)
size_now_keeps P closed item n true = keeps_then P (noted (accessed item)) done (keeps_noted P (accessed item) (closed.keeps_accessed item)) (operations_keep.done_keeps P closed)
size_now_keeps P closed item n false = write_now_keeps P closed item (change.Size item n)

pub size_item_keeps : (P : Filter → Type 0) → ClosedFilter P → (x1 : ℕ) → (x2 : ItemId) → Preserves P (size_item x1 x2)
size_item_keeps P closed n item = operations_keep.checked_keeps P closed (size_tests item n) (reading (has_size item n) (size_now item n)) (keeps_reading P (has_size item n) (size_now item n) (size_now_keeps P closed item n))

pub set_size_keeps : (P : Filter → Type 0) → ClosedFilter P → (x1 : Handle) → (x2 : ℕ) → Preserves P (set_size x1 x2)
set_size_keeps P closed h n = waits_keep.on_handle_keeps P closed h (size_item n) (size_item_keeps P closed n)

pub show_count_keeps : (P : Filter → Type 0) → ClosedFilter P → (x1 : ℕ) → Preserves P (show_count x1)
show_count_keeps P closed n = keeps_ret P (shown.Count n)

pub flush_keeps : (P : Filter → Type 0) → ClosedFilter P → Preserves P (flush)
flush_keeps P closed = keeps_then P (in_volume commit) (reading count_now show_count) closed.commits (keeps_reading P count_now show_count (show_count_keeps P closed))

pub delete_now_keeps : (P : Filter → Type 0) → ClosedFilter P → (x1 : Mode) → (x2 : Item) → (x3 : Usn) → Preserves P (delete_now x1 x2 x3)
delete_now_keeps P closed m i number = keeps_then P (change_with (buried (is_replay m) i number) (change.Remove i.id)) (ret (shown.Done)) (closed.change (buried (is_replay m) i number) (change.Remove i.id)) (keeps_ret P (shown.Done))

pub delete_item_keeps : (P : Filter → Type 0) → ClosedFilter P → (x1 : Mode) → (x2 : Item) → Preserves P (delete_item x1 x2)
delete_item_keeps P closed m i = operations_keep.checked_keeps P closed (delete_tests i) (reading number_next (delete_now m i)) (keeps_reading P number_next (delete_now m i) (delete_now_keeps P closed m i))

pub delete_keeps : (P : Filter → Type 0) → ClosedFilter P → (x1 : Mode) → (x2 : List ℕ) → Preserves P (delete x1 x2)
delete_keeps P closed m path = keeps_reading P (below_at path) (on_ok (delete_item m)) (waits_keep.on_ok_keeps P closed (delete_item m) (delete_item_keeps P closed m))

pub rename_to_keeps : (P : Filter → Type 0) → ClosedFilter P → (x1 : Item) → (x2 : Place) → Preserves P (rename_to x1 x2)
rename_to_keeps P closed i p = operations_keep.checked_keeps P closed (rename_tests i p) (changing (move_of i p) done) (changing_keeps P closed (move_of i p) done (operations_keep.done_keeps P closed))

pub rename_item_keeps : (P : Filter → Type 0) → ClosedFilter P → (x1 : List ℕ) → (x2 : Item) → Preserves P (rename_item x1 x2)
rename_item_keeps P closed to i = keeps_reading P (place_at to) (on_ok (rename_to i)) (waits_keep.on_ok_keeps P closed (rename_to i) (rename_to_keeps P closed i))

pub rename_keeps : (P : Filter → Type 0) → ClosedFilter P → (x1 : List ℕ) → (x2 : List ℕ) → Preserves P (rename x1 x2)
rename_keeps P closed from to = keeps_reading P (below_at from) (on_ok (rename_item to)) (waits_keep.on_ok_keeps P closed (rename_item to) (rename_item_keeps P closed to))

pub change_all_keeps : (P : Filter → Type 0) → ClosedFilter P → (x1 : List Change) → Preserves P (change_all x1)
change_all_keeps P closed cs = changing_keeps P closed cs done (operations_keep.done_keeps P closed)

pub pin_item_keeps : (P : Filter → Type 0) → ClosedFilter P → (x1 : Pin) → (x2 : Reach) → (x3 : Item) → Preserves P (pin_item x1 x2 x3)
pin_item_keeps P closed pin reach i = keeps_reading P (pins_at i pin reach) change_all (change_all_keeps P closed)

pub set_pin_keeps : (P : Filter → Type 0) → ClosedFilter P → (x1 : List ℕ) → (x2 : Pin) → (x3 : Reach) → Preserves P (set_pin x1 x2 x3)
set_pin_keeps P closed path pin reach = waits_keep.on_path_keeps P closed path (pin_item pin reach) (pin_item_keeps P closed pin reach)

pub info_item_keeps : (P : Filter → Type 0) → ClosedFilter P → (x1 : Item) → Preserves P (info_item x1)
info_item_keeps P closed i = keeps_ret P (info_of i)

pub info_keeps : (P : Filter → Type 0) → ClosedFilter P → (x1 : List ℕ) → Preserves P (info x1)
info_keeps P closed path = waits_keep.on_path_keeps P closed path info_item (info_item_keeps P closed)

pub ranges_item_keeps : (P : Filter → Type 0) → ClosedFilter P → (x1 : Class) → (x2 : Item) → Preserves P (ranges_item x1 x2)
ranges_item_keeps P closed c i = keeps_ret P (shown.Ranges (runs_of (class_flags c i)))

pub ranges_keeps : (P : Filter → Type 0) → ClosedFilter P → (x1 : List ℕ) → (x2 : Class) → Preserves P (ranges x1 x2)
ranges_keeps P closed path c = waits_keep.on_file_keeps P closed path (ranges_item c) (ranges_item_keeps P closed c)

pub used_item_keeps : (P : Filter → Type 0) → ClosedFilter P → (x1 : Item) → Preserves P (used_item x1)
used_item_keeps P closed i = keeps_reading P (used_now i.id) ret (keeps_ret P)

pub used_keeps : (P : Filter → Type 0) → ClosedFilter P → (x1 : List ℕ) → Preserves P (used x1)
used_keeps P closed path = waits_keep.on_file_keeps P closed path used_item (used_item_keeps P closed)

pub df_keeps : (P : Filter → Type 0) → ClosedFilter P → Preserves P (df)
df_keeps P closed = keeps_reading P blocks_now ret (keeps_ret P)

pub set_policy_keeps : (P : Filter → Type 0) → ClosedFilter P → (x1 : Mode) → (x2 : Policy) → Preserves P (set_policy x1 x2)
set_policy_keeps P closed m p = operations_keep.checked_keeps P closed (policy_tests m p) (then_do (noted (with_policy p)) done) (keeps_then P (noted (with_policy p)) done (keeps_noted P (with_policy p) (closed.keeps_with_policy p)) (operations_keep.done_keeps P closed))
