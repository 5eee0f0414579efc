-- Calls without callbacks leave the callbacks that are still to be called, and how many keys were given, as they are.
use Rattle.std.specs.Prelude.{ℕ, Bool, true, false, List, Option, Result, Ok, Err}
use Rattle.cf_base.specs.declared.answers.Shown.{Shown}
use Rattle.cf_base.specs.declared.answers.Shown.TheVariants as shown
use Rattle.cf_base.specs.declared.changes.Change.{Change}
use Rattle.cf_base.specs.declared.changes.Change.TheVariants as change
use Rattle.cf_base.specs.declared.codes.Code.{Code}
use Rattle.cf_base.specs.declared.codes.Code.TheVariants as code
use Rattle.cf_base.specs.declared.ids.ItemId.{ItemId}
use Rattle.cf_base.specs.declared.items.Pin.{Pin}
use Rattle.cf_base.specs.declared.items.Reach.{Reach}
use Rattle.cf_base.specs.declared.policies.Class.{Class}
use Rattle.cf_base.specs.declared.policies.Mode.{Mode}
use Rattle.cf_base.specs.declared.policies.Policy.{Policy}
use Rattle.cf_model.specs.Arrows.{Arrow, Preserves, noted, reading, ret, then_do}
use Rattle.cf_model.specs.Calls.{below_at, blocks_now, buried, change_all, changing, count_now, delete, delete_item, delete_now, delete_tests, df, flush, info, info_item, info_of, move_of, next_handle, number_at, number_next, number_of, open_file, open_item, open_tests, opened_as, pin_item, pins_at, place_at, policy_tests, ranges, ranges_item, rename, rename_item, rename_tests, rename_to, room_tests, set_pin, set_policy, show_count, show_number, used, used_item, used_now, with_handle, with_policy}
use Rattle.cf_model.specs.Changes.{change as put, change_with, changes, same_book}
use Rattle.cf_model.specs.Items.{Item}
use Rattle.cf_model.specs.LookUp.{Place}
use Rattle.cf_model.specs.Operations.{checked, done}
use Rattle.cf_model.specs.Placements.{convert, convert_item, create, create_at, make_planned, next_item, planned_at, planned_on, revert, revert_item, revert_plan, show_item, unmark, unmark_item, update, update_item, update_plan}
use Rattle.cf_model.specs.Plans.{Creation, plan_convert, plan_unmark}
use Rattle.cf_model.specs.Points.{commit}
use Rattle.cf_model.specs.Settling.{tell}
use Rattle.cf_model.specs.State.{Filter, in_volume, is_replay}
use Rattle.cf_model.specs.Waits.{all_down, at_path, but_directory, connect, connected_again, disconnected, on_file, on_ok, on_path, refused}
use Rattle.cf_model.specs.Words.{first_of}
use Rattle.cf_model.proofs.ArrowLaws.{keeps_choose, keeps_each, keeps_noted, keeps_reading, keeps_ret, keeps_then, keeps_unless}
use Rattle.cf_model_laws.proofs.OutboxFacts.{Fact, Holds, change_keeps}

module _ (F : Fact) where
  abbrev P : Filter → Type 0
  P = Holds F

  -- paths and tests

  on_ok_still : {X : Type 0} (f : X → Arrow Filter Shown) → ((x : X) → Preserves P (f x)) → (r : Result X Code) → Preserves P (on_ok f r)
  on_ok_still f k (Ok x) = k x
  on_ok_still f k (Err c) = keeps_ret P (shown.Refused c)

  on_path_still : (path : List ℕ) (f : Item → Arrow Filter Shown) → ((i : Item) → Preserves P (f i)) → Preserves P (on_path path f)
  on_path_still path f k = keeps_reading P (at_path path) (on_ok f) (on_ok_still f k)

  on_file_still : (path : List ℕ) (f : Item → Arrow Filter Shown) → ((i : Item) → Preserves P (f i)) → Preserves P (on_file path f)
  on_file_still path f k = on_path_still path (but_directory f) (λ i. keeps_choose P i.directory (refused code.IsDirectory) (f i) (keeps_ret P (shown.Refused code.IsDirectory)) (k i))

  checked_still : (tests : Filter → List (Bool × Code)) (f : Arrow Filter Shown) → Preserves P f → Preserves P (checked tests f)
  checked_still tests f k = record { keeps = λ s h. (keeps_unless P shown.Refused (first_of (tests s)) f k).keeps s h }

  -- changes

  changing_still : (cs : List Change) (answer : Arrow Filter Shown) → Preserves P answer → Preserves P (changing cs answer)
  changing_still cs answer k = checked_still (room_tests cs) (then_do (changes cs) answer) (keeps_then P (changes cs) answer (keeps_each P put cs (λ c. change_keeps F same_book c)) k)

  number_still : (item : ItemId) → Preserves P (number_of item)
  number_still item = keeps_reading P (number_at item) show_number (λ n. keeps_ret P (shown.Number n))

  planned_still : (item : ItemId) (cs : List Change) → Preserves P (planned_on item cs)
  planned_still item cs = changing_still cs (number_of item) (number_still item)

  -- calls

  pub open_still : (path : List ℕ) → Preserves P (open_file path)
  open_still path =
      on_file_still path open_item
      (λ i. checked_still open_tests (reading next_handle (opened_as i.id))
      (keeps_reading P next_handle (opened_as i.id) (λ h. keeps_then P (noted (with_handle i.id)) (ret (shown.Opened h)) (keeps_noted P (with_handle i.id) (λ x k. k)) (keeps_ret P (shown.Opened h)))))

  pub flush_still : Preserves P flush
  flush_still = keeps_then P (in_volume commit) (reading count_now show_count) (record { keeps = λ x h. (h, h) }) (keeps_reading P count_now show_count (λ n. keeps_ret P (shown.Count n)))

  made_still : (cs : List Change) → Preserves P (make_planned cs)
  made_still cs = keeps_reading P next_item (show_item cs) (λ item. changing_still cs (ret (shown.Item item)) (keeps_ret P (shown.Item item)))

  pub create_still : (path : List ℕ) (what : Creation) → Preserves P (create path what)
  create_still path what = keeps_reading P (place_at path) (on_ok (create_at what)) (on_ok_still (create_at what) (λ p. keeps_reading P (planned_at what p) (on_ok make_planned) (on_ok_still make_planned made_still)))

  deleted_still : (m : Mode) (i : Item) → Preserves P (delete_item m i)
  deleted_still m i =
      checked_still (delete_tests i) (reading number_next (delete_now m i))
      (keeps_reading P number_next (delete_now m i) (λ n. keeps_then P (change_with (buried (is_replay m) i n) (change.Remove i.id)) (ret shown.Done) (change_keeps F (buried (is_replay m) i n) (change.Remove i.id)) (keeps_ret P shown.Done)))

  pub delete_still : (m : Mode) (path : List ℕ) → Preserves P (delete m path)
  delete_still m path = keeps_reading P (below_at path) (on_ok (delete_item m)) (on_ok_still (delete_item m) (deleted_still m))

  renamed_still : (i : Item) (p : Place) → Preserves P (rename_to i p)
  renamed_still i p = checked_still (rename_tests i p) (changing (move_of i p) done) (changing_still (move_of i p) done (keeps_ret P shown.Done))

  pub rename_still : (from to : List ℕ) → Preserves P (rename from to)
  rename_still from to = keeps_reading P (below_at from) (on_ok (rename_item to)) (on_ok_still (rename_item to) (λ i. keeps_reading P (place_at to) (on_ok (rename_to i)) (on_ok_still (rename_to i) (renamed_still i))))

  pub pin_still : (path : List ℕ) (pin : Pin) (reach : Reach) → Preserves P (set_pin path pin reach)
  pin_still path pin reach = on_path_still path (pin_item pin reach) (λ i. keeps_reading P (pins_at i pin reach) change_all (λ cs. changing_still cs done (keeps_ret P shown.Done)))

  pub info_still : (path : List ℕ) → Preserves P (info path)
  info_still path = on_path_still path info_item (λ i. keeps_ret P (info_of i))

  pub ranges_still : (path : List ℕ) (class : Class) → Preserves P (ranges path class)
  ranges_still path class = on_file_still path (ranges_item class) (λ i. record { keeps = λ x h. h })

  pub df_still : Preserves P df
  df_still = keeps_reading P blocks_now ret (λ answer. keeps_ret P answer)

  pub policy_still : (m : Mode) (p : Policy) → Preserves P (set_policy m p)
  policy_still m p = checked_still (policy_tests m p) (then_do (noted (with_policy p)) done) (keeps_then P (noted (with_policy p)) done (keeps_noted P (with_policy p) (λ x h. h)) (keeps_ret P shown.Done))

  pub used_still : (path : List ℕ) → Preserves P (used path)
  used_still path = on_file_still path used_item (λ i. keeps_reading P (used_now i.id) ret (λ answer. keeps_ret P answer))

  pub convert_still : (path identity : List ℕ) → Preserves P (convert path identity)
  convert_still path identity = keeps_reading P (below_at path) (on_ok (convert_item identity)) (on_ok_still (convert_item identity) (λ i. on_ok_still (planned_on i.id) (planned_still i.id) (plan_convert i identity)))

  pub revert_still : (path : List ℕ) → Preserves P (revert path)
  revert_still path = on_path_still path revert_item (λ i. keeps_reading P (revert_plan i) (on_ok (planned_on i.id)) (on_ok_still (planned_on i.id) (planned_still i.id)))

  pub update_still : (path identity : List ℕ) (size : Option ℕ) → Preserves P (update path identity size)
  update_still path identity size =
      on_path_still path (update_item identity size) (λ i. keeps_reading P (update_plan identity size i) (on_ok (planned_on i.id)) (on_ok_still (planned_on i.id) (planned_still i.id)))

  pub unmark_still : (path : List ℕ) → Preserves P (unmark path)
  unmark_still path = on_path_still path unmark_item (λ i. on_ok_still (planned_on i.id) (planned_still i.id) (plan_unmark i))

  -- where the end of all waits keeps it
  pub connect_still : Preserves P (reading all_down tell) → (on : Bool) → Preserves P (connect on)
  connect_still downs true = keeps_then P (noted connected_again) done (keeps_noted P connected_again (λ x h. h)) (keeps_ret P shown.Done)
  connect_still downs false = keeps_then P (noted disconnected) (then_do (reading all_down tell) done) (keeps_noted P disconnected (λ x h. h)) (keeps_then P (reading all_down tell) done downs (keeps_ret P shown.Done))
