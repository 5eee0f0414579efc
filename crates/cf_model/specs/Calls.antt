-- The other calls of an application and of a provider.
use Rattle.std.specs.Prelude.{ℕ, Bool, true, false, not, cond, List, [], ◌∷◌, ◌++◌, length, Option, Some, None, Result, nat_le, nat_lt, ◌+◌, ◌&&◌, ◌||◌, ◌==◌}
use Rattle.std.specs.List.{list_any}
use Rattle.cf_base.specs.Policies.{is_allowed}
use Rattle.cf_base.specs.declared.answers.Shown.{Shown}
use Rattle.cf_base.specs.declared.answers.Shown.TheVariants as shown
use Rattle.cf_base.specs.declared.changes.Change.{Change}
use Rattle.cf_base.specs.declared.changes.Change.TheVariants as change
use Rattle.cf_base.specs.declared.codes.Code.{Code}
use Rattle.cf_base.specs.declared.codes.Code.TheVariants as code
use Rattle.cf_base.specs.declared.ids.Handle.{Handle}
use Rattle.cf_base.specs.declared.ids.ItemId.{ItemId}
use Rattle.cf_base.specs.declared.ids.Usn.{Usn}
use Rattle.cf_base.specs.declared.items.Pin.{Pin}
use Rattle.cf_base.specs.declared.items.Reach.{Reach}
use Rattle.cf_base.specs.declared.limits.TheConstants.{MOST_FILE_BYTES, MOST_HANDLES}
use Rattle.cf_base.specs.declared.policies.Class.{Class}
use Rattle.cf_base.specs.declared.policies.Class.TheVariants as class
use Rattle.cf_base.specs.declared.policies.Mode.{Mode}
use Rattle.cf_base.specs.declared.policies.Policy.{Policy}
use Rattle.cf_base.specs.declared.policies.Population.{Population}
use Rattle.cf_base.specs.declared.policies.Population.TheVariants as population
use Rattle.cf_model.specs.Arrows.{Arrow, noted, reading, ret, then_do}
use Rattle.cf_model.specs.Requests.{Nothing}
use Rattle.cf_model.specs.Blocks.{blocks_used}
use Rattle.cf_model.specs.Books.{Book, Tombstone, access_of, with_access, with_tombstone}
use Rattle.cf_model.specs.Changes.{change_with, changes, next_number, no_places, why_no_room}
use Rattle.cf_model.specs.Dehydration.{in_use}
use Rattle.cf_model.specs.Identities.{base_version, is_untargeted, target_of}
use Rattle.cf_model.specs.Images.{runs_of}
use Rattle.cf_model.specs.Items.{here_flags, Item, item_of, kind_of, modified_flags, size_of}
use Rattle.cf_model.specs.LookUp.{Place, children, find_below, find_place, move_refused}
use Rattle.cf_model.specs.Numbers.{key_after, most, no_usn, no_version}
use Rattle.cf_model.specs.Operations.{checked, done}
use Rattle.cf_model.specs.Plans.{plan_pin}
use Rattle.cf_model.specs.Points.{commit}
use Rattle.cf_model.specs.Settling.{accessed, settle}
use Rattle.cf_model.specs.State.{Filter, in_volume, is_replay}
use Rattle.cf_model.specs.Waits.{on_file, on_handle, on_ok, on_path}
use Rattle.cf_model.specs.Words.{is_empty, part, same, when}

-- handles

abbrev pub next_handle : Filter → Handle
next_handle s = record { 0 = key_after s.volume.epoch s.handle_count }

abbrev pub with_handle : ItemId → Filter → Filter
with_handle item s = record s { handles = s.handles ++ record { handle = next_handle s; item = item } ∷ []; handle_count = s.handle_count + 1 }

abbrev pub open_tests : Filter → List (Bool × Code)
open_tests s = (nat_le MOST_HANDLES (length s.handles), code.TooManyHandles) ∷ (nat_le most s.handle_count, code.Exhausted) ∷ []

abbrev pub opened_as : ItemId → Handle → Arrow Filter Shown
opened_as item h = then_do (noted (with_handle item)) (ret (shown.Opened h))

abbrev pub open_item : Item → Arrow Filter Shown
open_item i = checked open_tests (reading next_handle (opened_as i.id))

abbrev pub open_file : List ℕ → Arrow Filter Shown
open_file path = on_file path open_item

-- Changes as one call: refused as Exhausted, TableFull or Full before the first of them. Then the lines of what waits
-- on the item, and the answer.

abbrev pub test_of : Option Code → List (Bool × Code)
test_of None = []
test_of (Some c) = (true, c) ∷ []

abbrev pub room_tests : List Change → Filter → List (Bool × Code)
room_tests cs s = test_of (why_no_room cs s.volume)

abbrev pub changing : List Change → Arrow Filter Shown → Arrow Filter Shown
changing cs answer = checked (room_tests cs) (then_do (changes cs) answer)

-- the number of an item

abbrev pub number_at : ItemId → Filter → Usn
number_at item s = part (λ i. i.number) no_usn (item_of s.volume.items item)

abbrev pub show_number : Usn → Arrow Filter Shown
show_number n = ret (shown.Number n)

abbrev pub number_of : ItemId → Arrow Filter Shown
number_of item = reading (number_at item) show_number

-- writes

abbrev pub write_tests : ℕ → List Change → Filter → List (Bool × Code)
write_tests end cs s = (nat_lt MOST_FILE_BYTES end, code.TooLarge) ∷ room_tests cs s

-- a write or a size, which is an access too
abbrev pub write_now : ItemId → Change → Arrow Filter Shown
write_now item c = then_do (change_with (with_access item) c) (then_do (settle item Nothing) done)

abbrev pub write_item : ℕ → List ℕ → ItemId → Arrow Filter Shown
write_item at [] item = done
write_item at (b ∷ bs) item = checked (write_tests (at + length (b ∷ bs)) (change.Write item at (b ∷ bs) ∷ [])) (write_now item (change.Write item at (b ∷ bs)))

-- a write of no bytes does nothing
abbrev pub write : Handle → ℕ → List ℕ → Arrow Filter Shown
write h at bytes = on_handle h (write_item at bytes)

abbrev pub size_now : ItemId → ℕ → Bool → Arrow Filter Shown
size_now item n true = then_do (noted (accessed item)) done
size_now item n false = write_now item (change.Size item n)

abbrev pub size_at : ItemId → Filter → ℕ
size_at item s = part size_of 0 (item_of s.volume.items item)

abbrev pub has_size : ItemId → ℕ → Filter → Bool
has_size item n s = size_at item s == n

abbrev pub size_tests : ItemId → ℕ → Filter → List (Bool × Code)
size_tests item n s = write_tests n (when (not (has_size item n s)) (change.Size item n ∷ [])) s

abbrev pub size_item : ℕ → ItemId → Arrow Filter Shown
size_item n item = checked (size_tests item n) (reading (has_size item n) (size_now item n))

abbrev pub set_size : Handle → ℕ → Arrow Filter Shown
set_size h n = on_handle h (size_item n)

-- commits

abbrev pub count_now : Filter → ℕ
count_now s = length s.volume.log

abbrev pub show_count : ℕ → Arrow Filter Shown
show_count n = ret (shown.Count n)

abbrev pub flush : Arrow Filter Shown
flush = then_do (in_volume commit) (reading count_now show_count)

-- An application's removal. In `replay` it leaves a tombstone where the item has a target, in the same step.

abbrev pub tombstone_for : Item → Usn → Tombstone
tombstone_for i number = record { number = number; rid = target_of i; version = cond i.directory no_version (base_version i) }

abbrev pub buried : Bool → Item → Usn → Book → Book
buried false i number b = b
buried true i number b = cond (is_untargeted i) b (with_tombstone (tombstone_for i number) b)

abbrev pub below_at : List ℕ → Filter → Result Item Code
below_at path s = find_below s.volume.items path

abbrev pub delete_tests : Item → Filter → List (Bool × Code)
delete_tests i s =
    (i.directory && not i.populated, code.NotPopulated) ∷ (not (is_empty (children s.volume.items i.id)), code.NotEmpty)
    ∷ (in_use i.id s, code.InUse) ∷ (no_places s.volume 1, code.Exhausted) ∷ []

abbrev pub delete_now : Mode → Item → Usn → Arrow Filter Shown
delete_now m i number = then_do (change_with (buried (is_replay m) i number) (change.Remove i.id)) (ret (shown.Done))

abbrev pub number_next : Filter → Usn
number_next s = next_number s.volume

abbrev pub delete_item : Mode → Item → Arrow Filter Shown
delete_item m i = checked (delete_tests i) (reading number_next (delete_now m i))

abbrev pub delete : Mode → List ℕ → Arrow Filter Shown
delete m path = reading (below_at path) (on_ok (delete_item m))

-- moves

abbrev pub place_at : List ℕ → Filter → Result Place Code
place_at path s = find_place s.volume.items path

abbrev pub stands_there : Item → Place → Bool
stands_there i p = (i.parent.0 == p.parent.id.0) && same i.name p.name

abbrev pub move_of : Item → Place → List Change
move_of i p = when (not (stands_there i p)) (change.Move i.id p.parent.id p.name ∷ [])

abbrev pub rename_tests : Item → Place → Filter → List (Bool × Code)
rename_tests i p s = test_of (move_refused s.volume.items i.id p.parent.id p.name)

abbrev pub rename_to : Item → Place → Arrow Filter Shown
rename_to i p = checked (rename_tests i p) (changing (move_of i p) done)

abbrev pub rename_item : List ℕ → Item → Arrow Filter Shown
rename_item to i = reading (place_at to) (on_ok (rename_to i))

-- the whole look-up of the first path comes before that of the second
abbrev pub rename : List ℕ → List ℕ → Arrow Filter Shown
rename from to = reading (below_at from) (on_ok (rename_item to))

-- pins

abbrev pub pins_at : Item → Pin → Reach → Filter → List Change
pins_at i pin reach s = plan_pin s.volume.items i pin reach

abbrev pub change_all : List Change → Arrow Filter Shown
change_all cs = changing cs done

abbrev pub pin_item : Pin → Reach → Item → Arrow Filter Shown
pin_item pin reach i = reading (pins_at i pin reach) change_all

abbrev pub set_pin : List ℕ → Pin → Reach → Arrow Filter Shown
set_pin path pin reach = on_path path (pin_item pin reach)

-- what a call tells

abbrev pub info_of : Item → Shown
info_of i = shown.Info i.id (kind_of i) (size_of i) i.pin i.in_sync i.number i.identity

abbrev pub info_item : Item → Arrow Filter Shown
info_item i = ret (info_of i)

abbrev pub info : List ℕ → Arrow Filter Shown
info path = on_path path info_item

abbrev pub class_flags : Class → Item → List Bool
class_flags class.OnDisk i = here_flags i
class_flags class.Validated i = i.valid
class_flags class.Modified i = modified_flags i

abbrev pub ranges_item : Class → Item → Arrow Filter Shown
ranges_item c i = ret (shown.Ranges (runs_of (class_flags c i)))

abbrev pub ranges : List ℕ → Class → Arrow Filter Shown
ranges path c = on_file path (ranges_item c)

abbrev pub used_now : ItemId → Filter → Shown
used_now item s = shown.Used (access_of s.volume.book item)

abbrev pub used_item : Item → Arrow Filter Shown
used_item i = reading (used_now i.id) ret

-- the clock of a file's last access
abbrev pub used : List ℕ → Arrow Filter Shown
used path = on_file path used_item

abbrev pub blocks_now : Filter → Shown
blocks_now s = shown.Blocks (blocks_used s.volume.items) s.volume.clusters

abbrev pub df : Arrow Filter Shown
df = reading blocks_now ret

-- policy

abbrev pub is_always_population : Population → Bool
is_always_population population.AlwaysFull = true
is_always_population _ = false

abbrev pub policy_tests : Mode → Policy → Filter → List (Bool × Code)
policy_tests m p s =
    (not (is_allowed m p), code.BadPolicy) ∷ (not (is_empty s.handles) || not (is_empty s.waiting.waits), code.InUse)
    ∷ (is_always_population p.population && list_any (λ i. i.directory && not i.populated) s.volume.items, code.NotPopulated) ∷ []

abbrev pub with_policy : Policy → Filter → Filter
with_policy p s = record s { policy = p }

abbrev pub set_policy : Mode → Policy → Arrow Filter Shown
set_policy m p = checked (policy_tests m p) (then_do (noted (with_policy p)) done)
