-- The parts of `Calls` keep identities named.
use Rattle.std.specs.Prelude.{ℕ, Bool, true, false, List, [], ◌∷◌, length, ◌+◌, not}
use Rattle.cf_base.specs.declared.answers.Shown.{Shown}
use Rattle.cf_base.specs.declared.answers.Shown.TheVariants as shown
use Rattle.cf_base.specs.declared.changes.Change.{Change}
use Rattle.cf_base.specs.declared.changes.Change.TheVariants as change
use Rattle.cf_base.specs.declared.ids.Handle.{Handle}
use Rattle.cf_base.specs.declared.ids.ItemId.{ItemId}
use Rattle.cf_base.specs.declared.ids.Usn.{Usn}
use Rattle.cf_base.specs.declared.items.Pin.{Pin}
use Rattle.cf_base.specs.declared.items.Reach.{Reach}
use Rattle.cf_base.specs.declared.policies.Class.{Class}
use Rattle.cf_base.specs.declared.policies.Mode.{Mode}
use Rattle.cf_base.specs.declared.policies.Policy.{Policy}
use Rattle.cf_model.specs.Arrows.{Arrow, noted, Preserves, reading, ret, then_do}
use Rattle.cf_model.specs.Books.{with_access}
use Rattle.cf_model.specs.Calls.{below_at, blocks_now, buried, change_all, changing, class_flags, count_now, delete, delete_item, delete_now, delete_tests, df, flush, has_size, info, info_item, info_of, move_of, next_handle, number_next, open_file, open_item, open_tests, opened_as, pin_item, pins_at, place_at, policy_tests, ranges, ranges_item, rename, rename_item, rename_tests, rename_to, room_tests, set_pin, set_policy, set_size, show_count, size_item, size_now, size_tests, stands_there, used, used_item, used_now, with_handle, with_policy, write, write_item, write_now, write_tests}
use Rattle.cf_model.specs.Changes.{change_with, changes}
use Rattle.cf_model.specs.Effects.{changed, pinned}
use Rattle.cf_model.specs.Images.{runs_of}
use Rattle.cf_model.specs.Items.{Item}
use Rattle.cf_model.specs.LookUp.{Place}
use Rattle.cf_model.specs.Operations.{done}
use Rattle.cf_model.specs.Plans.{pin_changes, reached, same_pin, stored_pin}
use Rattle.cf_model.specs.Points.{commit}
use Rattle.cf_model.specs.Requests.{Nothing}
use Rattle.cf_model.specs.Settling.{accessed, settle}
use Rattle.cf_model.specs.State.{Filter, in_volume, is_replay}
use Rattle.cf_model.specs.Waits.{on_ok}
use Rattle.cf_model.specs.Words.{first_of, when}
use Rattle.cf_model.proofs.ArrowLaws.{keeps_noted, keeps_reading, keeps_ret, keeps_then, keeps_unless}
use Rattle.cf_model_laws.specs.Invariant.{All}
use Rattle.cf_model_laws.proofs.Gathered.{all_append}
use Rattle.cf_pair_identities.specs.Named.{Gives, NamedIn, NamedVolume}
use Rattle.cf_pair_identities.proofs.NamedKinds.{when_give}
use Rattle.cf_pair_identities.proofs.NamedSteps.{change_keeps, changes_keeps, commits_named, settled_named}
use Rattle.cf_pair_identities.proofs.OperationsNamed as operations_named
use Rattle.cf_pair_identities.proofs.WaitsNamed as waits_named

pub opened_as_keeps : (full : Bool) → (x1 : ItemId) → (x2 : Handle) → Preserves (NamedIn full) (opened_as x1 x2)
opened_as_keeps full item h = keeps_then (NamedIn full) (noted (with_handle item)) (ret (shown.Opened h)) (keeps_noted (NamedIn full) (with_handle item) (λ s h. h)) (keeps_ret (NamedIn full) (shown.Opened h))

pub open_item_keeps : (full : Bool) → (x1 : Item) → Preserves (NamedIn full) (open_item x1)
open_item_keeps full i = operations_named.checked_keeps full open_tests (reading next_handle (opened_as i.id)) (keeps_reading (NamedIn full) next_handle (opened_as i.id) (opened_as_keeps full i.id))

pub open_file_keeps : (full : Bool) → (x1 : List ℕ) → Preserves (NamedIn full) (open_file x1)
open_file_keeps full path = waits_named.on_file_keeps full path open_item (open_item_keeps full)

pub changing_keeps : (full : Bool) → (x1 : List Change) → All (Gives full) x1 → (x2 : Arrow Filter Shown) → (Preserves (NamedIn full) (x2)) → Preserves (NamedIn full) (changing x1 x2)
changing_keeps full cs g answer answer_keeps = operations_named.checked_keeps full (room_tests cs) (then_do (changes cs) answer) (keeps_then (NamedIn full) (changes cs) answer (changes_keeps full cs g) answer_keeps)

pub write_now_keeps : (full : Bool) → (x1 : ItemId) → (x2 : Change) → Gives full x2 → Preserves (NamedIn full) (write_now x1 x2)
write_now_keeps full item c g =
    keeps_then (NamedIn full)
    (change_with (with_access item) c)
    (then_do (settle item Nothing) done)
    (change_keeps full (with_access item) c g)
    (keeps_then (NamedIn full) (settle item Nothing) done (settled_named full item Nothing) (operations_named.done_keeps full))

pub write_item_keeps : (full : Bool) → (x1 : ℕ) → (x2 : List ℕ) → (x3 : ItemId) → Preserves (NamedIn full) (write_item x1 x2 x3)
write_item_keeps full at [] item = operations_named.done_keeps full
write_item_keeps full at (b ∷ bs) item = operations_named.checked_keeps full (write_tests (at + length (b ∷ bs)) (change.Write item at (b ∷ bs) ∷ [])) (write_now item (change.Write item at (b ∷ bs))) (write_now_keeps full item (change.Write item at (b ∷ bs)) tt)

pub write_keeps : (full : Bool) → (x1 : Handle) → (x2 : ℕ) → (x3 : List ℕ) → Preserves (NamedIn full) (write x1 x2 x3)
write_keeps full h at bytes = waits_named.on_handle_keeps full h (write_item at bytes) (write_item_keeps full at bytes)

pub size_now_keeps : (full : Bool) → (x1 : ItemId) → (x2 : ℕ) → (x3 : Bool) → Preserves (NamedIn full) (size_now x1 x2 x3)
size_now_keeps full item n true = keeps_then (NamedIn full) (noted (accessed item)) done (keeps_noted (NamedIn full) (accessed item) (λ s h. h)) (operations_named.done_keeps full)
size_now_keeps full item n false = write_now_keeps full item (change.Size item n) tt

pub size_item_keeps : (full : Bool) → (x1 : ℕ) → (x2 : ItemId) → Preserves (NamedIn full) (size_item x1 x2)
size_item_keeps full n item = operations_named.checked_keeps full (size_tests item n) (reading (has_size item n) (size_now item n)) (keeps_reading (NamedIn full) (has_size item n) (size_now item n) (size_now_keeps full item n))

pub set_size_keeps : (full : Bool) → (x1 : Handle) → (x2 : ℕ) → Preserves (NamedIn full) (set_size x1 x2)
set_size_keeps full h n = waits_named.on_handle_keeps full h (size_item n) (size_item_keeps full n)

pub show_count_keeps : (full : Bool) → (x1 : ℕ) → Preserves (NamedIn full) (show_count x1)
show_count_keeps full n = keeps_ret (NamedIn full) (shown.Count n)

pub flush_keeps : (full : Bool) → Preserves (NamedIn full) (flush)
flush_keeps full = keeps_then (NamedIn full) (in_volume commit) (reading count_now show_count) (commits_named full) (keeps_reading (NamedIn full) count_now show_count (show_count_keeps full))

pub delete_now_keeps : (full : Bool) → (x1 : Mode) → (x2 : Item) → (x3 : Usn) → Preserves (NamedIn full) (delete_now x1 x2 x3)
delete_now_keeps full m i number =
    keeps_then (NamedIn full)
    (change_with (buried (is_replay m) i number) (change.Remove i.id))
    (ret (shown.Done))
    (change_keeps full (buried (is_replay m) i number) (change.Remove i.id) tt)
    (keeps_ret (NamedIn full) (shown.Done))

pub delete_item_keeps : (full : Bool) → (x1 : Mode) → (x2 : Item) → Preserves (NamedIn full) (delete_item x1 x2)
delete_item_keeps full m i = operations_named.checked_keeps full (delete_tests i) (reading number_next (delete_now m i)) (keeps_reading (NamedIn full) number_next (delete_now m i) (delete_now_keeps full m i))

pub delete_keeps : (full : Bool) → (x1 : Mode) → (x2 : List ℕ) → Preserves (NamedIn full) (delete x1 x2)
delete_keeps full m path = keeps_reading (NamedIn full) (below_at path) (on_ok (delete_item m)) (waits_named.on_ok_keeps full (delete_item m) (delete_item_keeps full m))

pub rename_to_keeps : (full : Bool) → (x1 : Item) → (x2 : Place) → Preserves (NamedIn full) (rename_to x1 x2)
rename_to_keeps full i p = operations_named.checked_keeps full (rename_tests i p) (changing (move_of i p) done) (changing_keeps full (move_of i p) (when_give full (not (stands_there i p)) (change.Move i.id p.parent.id p.name ∷ []) (tt, tt)) done (operations_named.done_keeps full))

pub rename_item_keeps : (full : Bool) → (x1 : List ℕ) → (x2 : Item) → Preserves (NamedIn full) (rename_item x1 x2)
rename_item_keeps full to i = keeps_reading (NamedIn full) (place_at to) (on_ok (rename_to i)) (waits_named.on_ok_keeps full (rename_to i) (rename_to_keeps full i))

pub rename_keeps : (full : Bool) → (x1 : List ℕ) → (x2 : List ℕ) → Preserves (NamedIn full) (rename x1 x2)
rename_keeps full from to = keeps_reading (NamedIn full) (below_at from) (on_ok (rename_item to)) (waits_named.on_ok_keeps full (rename_item to) (rename_item_keeps full to))

pub change_all_keeps : (full : Bool) → (x1 : List Change) → All (Gives full) x1 → Preserves (NamedIn full) (change_all x1)
change_all_keeps full cs g = changing_keeps full cs g done (operations_named.done_keeps full)

pins_give : (full : Bool) (asked : Pin) (items is : List Item) → All (Gives full) (pin_changes asked items is)
pins_give full asked items [] = tt
pins_give full asked items (i ∷ is) =
    let p : Pin = stored_pin asked items i in
    all_append (Gives full) (when (not (same_pin p i.pin)) (change.SetPin i.id p ∷ [])) _ (when_give full (not (same_pin p i.pin)) (change.SetPin i.id p ∷ []) (tt, tt)) (pins_give full asked (changed i.id (pinned p) items) is)

pub pin_item_keeps : (full : Bool) → (x1 : Pin) → (x2 : Reach) → (x3 : Item) → Preserves (NamedIn full) (pin_item x1 x2 x3)
pin_item_keeps full pin reach i = record { keeps = λ s h. (change_all_keeps full (pins_at i pin reach s) (pins_give full pin s.volume.items (reached s.volume.items i reach))).keeps s h }

pub set_pin_keeps : (full : Bool) → (x1 : List ℕ) → (x2 : Pin) → (x3 : Reach) → Preserves (NamedIn full) (set_pin x1 x2 x3)
set_pin_keeps full path pin reach = waits_named.on_path_keeps full path (pin_item pin reach) (pin_item_keeps full pin reach)

pub info_item_keeps : (full : Bool) → (x1 : Item) → Preserves (NamedIn full) (info_item x1)
info_item_keeps full i = keeps_ret (NamedIn full) (info_of i)

pub info_keeps : (full : Bool) → (x1 : List ℕ) → Preserves (NamedIn full) (info x1)
info_keeps full path = waits_named.on_path_keeps full path info_item (info_item_keeps full)

pub ranges_item_keeps : (full : Bool) → (x1 : Class) → (x2 : Item) → Preserves (NamedIn full) (ranges_item x1 x2)
ranges_item_keeps full c i = keeps_ret (NamedIn full) (shown.Ranges (runs_of (class_flags c i)))

pub ranges_keeps : (full : Bool) → (x1 : List ℕ) → (x2 : Class) → Preserves (NamedIn full) (ranges x1 x2)
ranges_keeps full path c = waits_named.on_file_keeps full path (ranges_item c) (ranges_item_keeps full c)

pub used_item_keeps : (full : Bool) → (x1 : Item) → Preserves (NamedIn full) (used_item x1)
used_item_keeps full i = keeps_reading (NamedIn full) (used_now i.id) ret (keeps_ret (NamedIn full))

pub used_keeps : (full : Bool) → (x1 : List ℕ) → Preserves (NamedIn full) (used x1)
used_keeps full path = waits_named.on_file_keeps full path used_item (used_item_keeps full)

pub df_keeps : (full : Bool) → Preserves (NamedIn full) (df)
df_keeps full = keeps_reading (NamedIn full) blocks_now ret (keeps_ret (NamedIn full))

-- whatever policy it is, the volume stays
pub set_policy_keeps : (full : Bool) → (x1 : Mode) → (x2 : Policy) → Preserves (λ s. NamedVolume full s.volume) (set_policy x1 x2)
set_policy_keeps full m p = record {
  keeps = λ s h. (keeps_unless (λ x. NamedVolume full x.volume) shown.Refused (first_of (policy_tests m p s)) (then_do (noted (with_policy p)) done) (record { keeps = λ x k. k })).keeps s h;
}
