-- The parts of `Calls` are sure, each by its own parts.
use Rattle.std.proofs.Common.{◌≡◌, ◌∙◌, not, refl, sym, ap}
use Rattle.std.specs.Prelude.{ℕ, Bool, true, false, List, [], ◌∷◌, None, length, nat_lt, ◌+◌}
use Rattle.cf_base.specs.declared.answers.Shown.{Shown}
use Rattle.cf_base.specs.declared.answers.Shown.TheVariants as shown
use Rattle.cf_base.specs.declared.changes.Change.{Change}
use Rattle.cf_base.specs.declared.changes.Change.TheVariants as change
use Rattle.cf_base.specs.declared.codes.Code.TheVariants as code
use Rattle.cf_base.specs.declared.ids.Handle.{Handle}
use Rattle.cf_base.specs.declared.ids.ItemId.{ItemId}
use Rattle.cf_base.specs.declared.ids.Usn.{Usn}
use Rattle.cf_base.specs.declared.items.Pin.{Pin}
use Rattle.cf_base.specs.declared.items.Reach.{Reach}
use Rattle.cf_base.specs.declared.limits.TheConstants.{MOST_FILE_BYTES}
use Rattle.cf_base.specs.declared.policies.Class.{Class}
use Rattle.cf_base.specs.declared.policies.Mode.{Mode}
use Rattle.cf_base.specs.declared.policies.Policy.{Policy}
use Rattle.cf_model.specs.Arrows.{Arrow, noted, reading, ret, then_do}
use Rattle.cf_model.specs.Requests.{Nothing}
use Rattle.cf_model.specs.Books.{with_access}
use Rattle.cf_model.specs.Changes.{change_with, changes}
use Rattle.cf_model.specs.Images.{runs_of}
use Rattle.cf_model.specs.Items.{Item}
use Rattle.cf_model.specs.LookUp.{Place}
use Rattle.cf_model.specs.Operations.{done}
use Rattle.cf_model.specs.Points.{commit}
use Rattle.cf_model.specs.Settling.{accessed, settle}
use Rattle.cf_model.specs.State.{Filter, in_volume, is_replay}
use Rattle.cf_model.specs.Waits.{on_ok}
use Rattle.cf_model.specs.Words.{first_of, when}
use Rattle.cf_model.specs.Calls.{below_at, blocks_now, buried, change_all, changing, class_flags, count_now, delete, delete_item, delete_now, delete_tests, df, flush, has_size, info, info_item, info_of, move_of, next_handle, number_at, number_next, number_of, open_file, open_item, open_tests, opened_as, pin_item, pins_at, place_at, policy_tests, ranges, ranges_item, rename, rename_item, rename_tests, rename_to, room_tests, set_pin, set_policy, set_size, show_count, show_number, size_item, size_now, size_tests, used, used_item, used_now, with_handle, with_policy, write, write_item, write_now, write_tests}
use Rattle.cf_check_ways.specs.Ways.{IsSure, IsSureFrom, of_filter}
use Rattle.cf_check_ways.proofs.Sure.{plain_quiet, reads_fixed, sure_anywhere, sure_at_from, sure_known, sure_noted, sure_reading, sure_ret, sure_then, sure_then_from}
use Rattle.cf_check_ways.proofs.ChangesSure.{HaveRoom, change_sure, changes_sure_from, checked_sure_from, first_room, passes_first, tested_room}
use Rattle.cf_check_ways.proofs.VolumeSteps.{HasRoom, change_sure_from, commit_sure, settle_sure}
use Rattle.cf_check_ways.proofs.RoomReads.{reads_room, reads_size}
use Rattle.cf_check_ways.proofs.OperationsSure as operations_sure
use Rattle.cf_check_ways.proofs.WaitsSure as waits_sure

pub opened_as_sure : (x1 : ItemId) → (x2 : Handle) → IsSure of_filter (opened_as x1 x2)
opened_as_sure item h = sure_then of_filter (noted (with_handle item)) (ret (shown.Opened h)) (sure_noted of_filter (with_handle item) (plain_quiet of_filter (with_handle item) (λ s. refl) (λ s. refl) (λ s. refl) (λ s. refl) (λ s. refl) (λ s. refl))) (sure_ret of_filter (shown.Opened h))

pub open_item_sure : (x1 : Item) → IsSure of_filter (open_item x1)
open_item_sure i = operations_sure.checked_sure open_tests (reading next_handle (opened_as i.id)) (reads_fixed of_filter open_tests (λ s. refl)) (sure_reading of_filter next_handle (opened_as i.id) (reads_fixed of_filter next_handle (λ s. refl)) (opened_as_sure i.id))

pub open_file_sure : (x1 : List ℕ) → IsSure of_filter (open_file x1)
open_file_sure path = waits_sure.on_file_sure path open_item (open_item_sure)

pub changing_sure : (x1 : List Change) → (x2 : Arrow Filter Shown) → (IsSure of_filter (x2)) → IsSure of_filter (changing x1 x2)
changing_sure cs answer answer_sure =
    checked_sure_from (room_tests cs) (then_do (changes cs) answer) (reads_room cs)
    (sure_then_from of_filter (λ s. first_of (room_tests cs s) ≡ None) (changes cs) answer
    (sure_known of_filter (λ s. HaveRoom cs s.volume) (λ s. first_of (room_tests cs s) ≡ None) (changes cs) (tested_room cs) (changes_sure_from cs)) answer_sure)

pub show_number_sure : (x1 : Usn) → IsSure of_filter (show_number x1)
show_number_sure n = sure_ret of_filter (shown.Number n)

pub number_of_sure : (x1 : ItemId) → IsSure of_filter (number_of x1)
number_of_sure item = sure_reading of_filter (number_at item) show_number (reads_fixed of_filter (number_at item) (λ s. refl)) (show_number_sure)

pub write_now_sure : (x1 : ItemId) → (x2 : Change) → IsSureFrom of_filter (λ s. HasRoom x2 s.volume) (write_now x1 x2)
write_now_sure item c = sure_then_from of_filter (λ s. HasRoom c s.volume) (change_with (with_access item) c) (then_do (settle item Nothing) done) (change_sure_from (with_access item) c) (sure_then of_filter (settle item Nothing) done (settle_sure item Nothing) (operations_sure.done_sure))

write_fits : (end : ℕ) (c : Change) (s : Filter) → first_of (write_tests end (c ∷ []) s) ≡ None → HasRoom c s.volume
write_fits end c s h = first_room c [] s.volume (tested_room (c ∷ []) s (passes_first (nat_lt MOST_FILE_BYTES end) code.TooLarge (room_tests (c ∷ []) s) h).1)

pub write_item_sure : (x1 : ℕ) → (x2 : List ℕ) → (x3 : ItemId) → IsSure of_filter (write_item x1 x2 x3)
write_item_sure at [] item = operations_sure.done_sure
write_item_sure at (b ∷ bs) item =
    let c : Change = change.Write item at (b ∷ bs) in
    checked_sure_from (write_tests (at + length (b ∷ bs)) (c ∷ [])) (write_now item c) (reads_fixed of_filter (write_tests (at + length (b ∷ bs)) (c ∷ [])) (λ s. refl))
    (sure_known of_filter (λ s. HasRoom c s.volume) (λ s. first_of (write_tests (at + length (b ∷ bs)) (c ∷ []) s) ≡ None) (write_now item c) (write_fits (at + length (b ∷ bs)) c) (write_now_sure item c))

pub write_sure : (x1 : Handle) → (x2 : ℕ) → (x3 : List ℕ) → IsSure of_filter (write x1 x2 x3)
write_sure h at bytes = waits_sure.on_handle_sure h (write_item at bytes) (write_item_sure at bytes)

-- it has the size, or the change was tested
abbrev IsSized : ItemId → ℕ → Bool → Filter → Type 0
IsSized item n same s = (first_of (size_tests item n s) ≡ None) × (has_size item n s ≡ same)

size_fits : (item : ItemId) (n : ℕ) (s : Filter) → IsSized item n false s → HasRoom (change.Size item n) s.volume
size_fits item n s h = write_fits n (change.Size item n) s (ap (λ (b : Bool). first_of (write_tests n (when (not b) (change.Size item n ∷ [])) s)) (sym h.1) ∙ h.0)

pub size_now_sure : (x1 : ItemId) → (x2 : ℕ) → (x3 : Bool) → IsSureFrom of_filter (IsSized x1 x2 x3) (size_now x1 x2 x3)
size_now_sure item n true = sure_anywhere of_filter (IsSized item n true) (then_do (noted (accessed item)) done) (sure_then of_filter (noted (accessed item)) done (sure_noted of_filter (accessed item) (plain_quiet of_filter (accessed item) (λ s. refl) (λ s. refl) (λ s. refl) (λ s. refl) (λ s. refl) (λ s. refl))) (operations_sure.done_sure))
size_now_sure item n false = sure_known of_filter (λ s. HasRoom (change.Size item n) s.volume) (IsSized item n false) (write_now item (change.Size item n)) (size_fits item n) (write_now_sure item (change.Size item n))

pub size_item_sure : (x1 : ℕ) → (x2 : ItemId) → IsSure of_filter (size_item x1 x2)
size_item_sure n item =
    checked_sure_from (size_tests item n) (reading (has_size item n) (size_now item n)) (reads_size item n)
    (sure_at_from of_filter (λ s. first_of (size_tests item n s) ≡ None) (reading (has_size item n) (size_now item n)) (has_size item n) (size_now item n) (λ s. refl) (reads_fixed of_filter (has_size item n) (λ s. refl)) (size_now_sure item n))

pub set_size_sure : (x1 : Handle) → (x2 : ℕ) → IsSure of_filter (set_size x1 x2)
set_size_sure h n = waits_sure.on_handle_sure h (size_item n) (size_item_sure n)

pub show_count_sure : (x1 : ℕ) → IsSure of_filter (show_count x1)
show_count_sure n = sure_ret of_filter (shown.Count n)

pub flush_sure : IsSure of_filter (flush)
flush_sure = sure_then of_filter (in_volume commit) (reading count_now show_count) commit_sure (sure_reading of_filter count_now show_count (reads_fixed of_filter count_now (λ s. refl)) (show_count_sure))

pub delete_now_sure : (x1 : Mode) → (x2 : Item) → (x3 : Usn) → IsSure of_filter (delete_now x1 x2 x3)
delete_now_sure m i number = sure_then of_filter (change_with (buried (is_replay m) i number) (change.Remove i.id)) (ret (shown.Done)) (change_sure (buried (is_replay m) i number) (change.Remove i.id) (λ items. refl)) (sure_ret of_filter (shown.Done))

pub delete_item_sure : (x1 : Mode) → (x2 : Item) → IsSure of_filter (delete_item x1 x2)
delete_item_sure m i = operations_sure.checked_sure (delete_tests i) (reading number_next (delete_now m i)) (reads_fixed of_filter (delete_tests i) (λ s. refl)) (sure_reading of_filter number_next (delete_now m i) (reads_fixed of_filter number_next (λ s. refl)) (delete_now_sure m i))

pub delete_sure : (x1 : Mode) → (x2 : List ℕ) → IsSure of_filter (delete x1 x2)
delete_sure m path = sure_reading of_filter (below_at path) (on_ok (delete_item m)) (reads_fixed of_filter (below_at path) (λ s. refl)) (waits_sure.on_ok_sure (delete_item m) (delete_item_sure m))

pub rename_to_sure : (x1 : Item) → (x2 : Place) → IsSure of_filter (rename_to x1 x2)
rename_to_sure i p = operations_sure.checked_sure (rename_tests i p) (changing (move_of i p) done) (reads_fixed of_filter (rename_tests i p) (λ s. refl)) (changing_sure (move_of i p) done (operations_sure.done_sure))

pub rename_item_sure : (x1 : List ℕ) → (x2 : Item) → IsSure of_filter (rename_item x1 x2)
rename_item_sure to i = sure_reading of_filter (place_at to) (on_ok (rename_to i)) (reads_fixed of_filter (place_at to) (λ s. refl)) (waits_sure.on_ok_sure (rename_to i) (rename_to_sure i))

pub rename_sure : (x1 : List ℕ) → (x2 : List ℕ) → IsSure of_filter (rename x1 x2)
rename_sure from to = sure_reading of_filter (below_at from) (on_ok (rename_item to)) (reads_fixed of_filter (below_at from) (λ s. refl)) (waits_sure.on_ok_sure (rename_item to) (rename_item_sure to))

pub change_all_sure : (x1 : List Change) → IsSure of_filter (change_all x1)
change_all_sure cs = changing_sure cs done (operations_sure.done_sure)

pub pin_item_sure : (x1 : Pin) → (x2 : Reach) → (x3 : Item) → IsSure of_filter (pin_item x1 x2 x3)
pin_item_sure pin reach i = sure_reading of_filter (pins_at i pin reach) change_all (reads_fixed of_filter (pins_at i pin reach) (λ s. refl)) (change_all_sure)

pub set_pin_sure : (x1 : List ℕ) → (x2 : Pin) → (x3 : Reach) → IsSure of_filter (set_pin x1 x2 x3)
set_pin_sure path pin reach = waits_sure.on_path_sure path (pin_item pin reach) (pin_item_sure pin reach)

pub info_item_sure : (x1 : Item) → IsSure of_filter (info_item x1)
info_item_sure i = sure_ret of_filter (info_of i)

pub info_sure : (x1 : List ℕ) → IsSure of_filter (info x1)
info_sure path = waits_sure.on_path_sure path info_item (info_item_sure)

pub ranges_item_sure : (x1 : Class) → (x2 : Item) → IsSure of_filter (ranges_item x1 x2)
ranges_item_sure c i = sure_ret of_filter (shown.Ranges (runs_of (class_flags c i)))

pub ranges_sure : (x1 : List ℕ) → (x2 : Class) → IsSure of_filter (ranges x1 x2)
ranges_sure path c = waits_sure.on_file_sure path (ranges_item c) (ranges_item_sure c)

pub used_item_sure : (x1 : Item) → IsSure of_filter (used_item x1)
used_item_sure i = sure_reading of_filter (used_now i.id) ret (reads_fixed of_filter (used_now i.id) (λ s. refl)) (sure_ret of_filter)

pub used_sure : (x1 : List ℕ) → IsSure of_filter (used x1)
used_sure path = waits_sure.on_file_sure path used_item (used_item_sure)

pub df_sure : IsSure of_filter (df)
df_sure = sure_reading of_filter blocks_now ret (reads_fixed of_filter blocks_now (λ s. refl)) (sure_ret of_filter)

pub set_policy_sure : (x1 : Mode) → (x2 : Policy) → IsSure of_filter (set_policy x1 x2)
set_policy_sure m p = operations_sure.checked_sure (policy_tests m p) (then_do (noted (with_policy p)) done) (reads_fixed of_filter (policy_tests m p) (λ s. refl)) (sure_then of_filter (noted (with_policy p)) done (sure_noted of_filter (with_policy p) (plain_quiet of_filter (with_policy p) (λ s. refl) (λ s. refl) (λ s. refl) (λ s. refl) (λ s. refl) (λ s. refl))) (operations_sure.done_sure))
