-- What the parts of `Calls` keep in `replay`, each by what its own parts keep.
use Rattle.std.proofs.lemmas.Bool.{eqb-true}
use Rattle.std.specs.Prelude.{ℕ, Bool, true, false, List, [], ◌∷◌, length, ◌+◌, cond, not, ◌||◌}
use Rattle.cf_base.specs.declared.answers.Shown.{Shown}
use Rattle.cf_base.specs.declared.answers.Shown.TheVariants as shown
use Rattle.cf_base.specs.declared.changes.Change.{Change}
use Rattle.cf_base.specs.declared.changes.Change.TheVariants as change
use Rattle.cf_base.specs.declared.ids.Handle.{Handle}
use Rattle.cf_base.specs.declared.ids.ItemId.{ItemId}
use Rattle.cf_base.specs.declared.ids.Usn.{Usn}
use Rattle.cf_base.specs.declared.items.Pin.{Pin}
use Rattle.cf_base.specs.declared.items.Reach.{Reach}
use Rattle.cf_base.specs.declared.policies.Class.{Class}
use Rattle.cf_base.specs.declared.policies.Mode.{Mode}
use Rattle.cf_base.specs.declared.policies.Policy.{Policy}
use Rattle.cf_model.specs.Arrows.{Arrow, noted, reading, ret, then_do, Preserves}
use Rattle.cf_model.specs.Requests.{Nothing}
use Rattle.cf_model.specs.Books.{with_access, Book, with_tombstone}
use Rattle.cf_model.specs.Changes.{change_with, changes, next_number}
use Rattle.cf_model.specs.Images.{runs_of}
use Rattle.cf_model.specs.Items.{Item, item_of}
use Rattle.std.specs.Prelude.{Some}
use Rattle.std.proofs.Common.{inl, subst, inr, refl, sym, ◌⊎◌}
use Rattle.cf_model_laws.specs.Premises.{IsFair}
use Rattle.cf_model.specs.LookUp.{Place}
use Rattle.cf_model.specs.Operations.{done}
use Rattle.cf_model.specs.Points.{commit}
use Rattle.cf_model.specs.State.{Filter, in_volume, is_replay, Link}
use Rattle.cf_model.specs.Waits.{on_handle, on_ok, on_open, opened_by}
use Rattle.std.specs.Prelude.{Option, None}
use Rattle.cf_model.specs.State.{Open}
use Rattle.std.specs.Prelude.{Result, Ok, Err, nat_lt, ◌==◌}
use Rattle.std.proofs.Common.{inr, sym}
use Rattle.cf_base.specs.declared.codes.Code.{Code}
use Rattle.cf_base.specs.declared.codes.Code.TheVariants as code
use Rattle.cf_base.specs.declared.limits.TheConstants.{MOST_PATH_NAMES}
use Rattle.cf_model.specs.Arrows.{unit}
use Rattle.cf_model.specs.Changes.{change, same_book}
use Rattle.cf_model.specs.Calls.{test_of}
use Rattle.cf_model.specs.Feeds.{is_under}
use Rattle.cf_model.specs.LookUp.{child_of, children, depth_at, find_below, find_place, height_at, move_refused}
use Rattle.cf_model.specs.Words.{first_of, is_empty, says}
use Rattle.cf_model_laws.specs.Fitting.{Fits, IsLeaf}
use Rattle.cf_model_laws.specs.Seats.{IsOpenOn, IsSeated}
use Rattle.cf_model_laws.proofs.FoundItems.{IsChild, found_child, place_seated}
use Rattle.cf_model_laws.proofs.RightItems.{no_way}
use Rattle.cf_model_laws.proofs.SoundSettles.{each_found}
use Rattle.cf_model_laws.proofs.OperationsGuarded as operations_keep
use Rattle.cf_model_laws.proofs.WaitsGuarded as waits_keep
use Rattle.cf_model.specs.Calls.{blocks_now, buried, changing, class_flags, count_now, delete, delete_item, delete_now, delete_tests, df, flush, has_size, info, info_item, info_of, move_of, next_handle, number_next, open_file, open_item, open_tests, opened_as, pin_item, pins_at, policy_tests, ranges, ranges_item, rename, rename_item, rename_tests, rename_to, room_tests, set_pin, set_policy, set_size, show_count, size_item, size_now, size_tests, used, used_item, used_now, with_policy, write, write_item, write_now, write_tests, tombstone_for, stands_there}
use Rattle.cf_model_laws.proofs.Guarded.{Buries, GuardedFilter, KeepsCursor}
use Rattle.cf_model.proofs.ArrowLaws.{keeps_reading, keeps_ret, keeps_then}
use Rattle.std.proofs.Common.{◌≡◌, ◌+◌, ◌∷◌, refl, List, [], ℕ, Bool, true, false}
use Rattle.cf_base.specs.Policies.{is_allowed, is_always_full, is_partial}
use Rattle.cf_base.specs.declared.policies.Mode.TheVariants as mode
use Rattle.cf_model.specs.Dehydration.{in_use}
use Rattle.cf_model.specs.Effects.{changed, pinned}
use Rattle.cf_model.specs.Identities.{is_untargeted, target_of}
use Rattle.cf_model.specs.Plans.{pin_changes, reached, same_pin, stored_pin}
use Rattle.cf_model.specs.Trees.{Keeps}
use Rattle.cf_model.specs.Words.{when}
use Rattle.cf_model.proofs.TreeLaws.{keeps_bind}
use Rattle.cf_model_laws.specs.Invariant.{All}
use Rattle.cf_model_laws.proofs.Gathered.{all_append}
use Rattle.cf_model_laws.proofs.Plainly.{IsPlain, checked_at, head_false, plains_keep, tail_none, tail_of}
use Rattle.cf_model_laws.proofs.RightItems.{no_way}
use Rattle.cf_model_laws.proofs.SoundChanges.{KeepsEntries}
use Rattle.cf_model_laws.proofs.SoundSettles.{not_false, not_true, right_true}
use Rattle.cf_model_laws.specs.Taken.{Knowledge}

open_item_at : {On : Knowledge} (l : Link) (tokens : ℕ) (P : Filter → Type 0) → GuardedFilter On l tokens P → (i : Item) (x : Filter) → (IsFair l → (item_of x.volume.items i.id ≡ Some i) × (i.directory ≡ false)) → P x → Keeps P (open_item i x)
open_item_at l tokens P closed i x there h = checked_at P open_tests (reading next_handle (opened_as i.id)) x h (λ e. closed.keeps_with_handle i.id x (λ fair. inl (i, (there fair).0, (there fair).1)) h)

pub open_file_keeps : {On : Knowledge} (l : Link) (tokens : ℕ) (P : Filter → Type 0) → GuardedFilter On l tokens P → (x1 : List ℕ) → Preserves P (open_file x1)
open_file_keeps l tokens P closed path = waits_keep.on_file_at l tokens P closed path open_item (open_item_at l tokens P closed)

pub changing_keeps : {On : Knowledge} (l : Link) (tokens : ℕ) (P : Filter → Type 0) → GuardedFilter On l tokens P → (cs : List Change) → All IsPlain cs → (answer : Arrow Filter Shown) → Preserves P answer → Preserves P (changing cs answer)
changing_keeps l tokens P closed cs plain answer answer_keeps = operations_keep.checked_keeps l tokens P closed (room_tests cs) (then_do (changes cs) answer) (keeps_then P (changes cs) answer (plains_keep l tokens P closed cs plain) answer_keeps)

-- a write or a size, and what follows
access_same : (item : ItemId) → KeepsEntries (with_access item)
access_same item b = refl

-- on the file of a handle, which is open
on_handle_at : (P : Filter → Type 0) → (h : Handle) (f : ItemId → Arrow Filter Shown) → ((item : ItemId) (x : Filter) → IsOpenOn x item → P x → Keeps P (f item x)) → Preserves P (on_handle h f)
on_handle_at P h f k = record { keeps = λ x j. by x j (opened_by h x) refl } where
  by : (x : Filter) → P x → (o : Option Open) → opened_by h x ≡ o → Keeps P (on_open f o x)
  by x j None e = j
  by x j (Some o) e = k o.item x (h, o, e, refl) j

write_item_at : {On : Knowledge} (l : Link) (tokens : ℕ) (P : Filter → Type 0) → GuardedFilter On l tokens P → (at : ℕ) (bytes : List ℕ) (item : ItemId) (x : Filter) → IsOpenOn x item → P x → Keeps P (write_item at bytes item x)
write_item_at l tokens P closed at [] item x used h = h
write_item_at l tokens P closed at (b ∷ bs) item x used h =
    checked_at P (write_tests (at + length (b ∷ bs)) (change.Write item at (b ∷ bs) ∷ [])) (write_now item (change.Write item at (b ∷ bs))) x h
    (λ e. closed.touch (with_access item) (change.Write item at (b ∷ bs)) item Nothing x tt (access_same item) (λ fair. ((λ z. absurd z), (λ k. k), λ b. refl)) (λ id k. k) (λ fair. used) (λ fair. (tt, inl (λ b. refl), inl tt, λ b. refl)) h)

pub write_keeps : {On : Knowledge} (l : Link) (tokens : ℕ) (P : Filter → Type 0) → GuardedFilter On l tokens P → (x1 : Handle) → (x2 : ℕ) → (x3 : List ℕ) → Preserves P (write x1 x2 x3)
write_keeps l tokens P closed h at bytes = on_handle_at P h (write_item at bytes) (write_item_at l tokens P closed at bytes)

size_now_at : {On : Knowledge} (l : Link) (tokens : ℕ) (P : Filter → Type 0) → GuardedFilter On l tokens P → (item : ItemId) (n : ℕ) (b : Bool) (x : Filter) → IsOpenOn x item → P x → Keeps P (size_now item n b x)
size_now_at l tokens P closed item n true x used h = closed.keeps_accessed item x h
size_now_at l tokens P closed item n false x used h = closed.touch (with_access item) (change.Size item n) item Nothing x tt (access_same item) (λ fair. ((λ z. absurd z), (λ k. k), λ b. refl)) (λ id k. k) (λ fair. used) (λ fair. (tt, inl (λ b. refl), inl tt, λ b. refl)) h

size_item_at : {On : Knowledge} (l : Link) (tokens : ℕ) (P : Filter → Type 0) → GuardedFilter On l tokens P → (n : ℕ) (item : ItemId) (x : Filter) → IsOpenOn x item → P x → Keeps P (size_item n item x)
size_item_at l tokens P closed n item x used h = checked_at P (size_tests item n) (reading (has_size item n) (size_now item n)) x h (λ e. size_now_at l tokens P closed item n (has_size item n x) x used h)

pub set_size_keeps : {On : Knowledge} (l : Link) (tokens : ℕ) (P : Filter → Type 0) → GuardedFilter On l tokens P → (x1 : Handle) → (x2 : ℕ) → Preserves P (set_size x1 x2)
set_size_keeps l tokens P closed h n = on_handle_at P h (size_item n) (size_item_at l tokens P closed n)

pub show_count_keeps : {On : Knowledge} (l : Link) (tokens : ℕ) (P : Filter → Type 0) → GuardedFilter On l tokens P → (x1 : ℕ) → Preserves P (show_count x1)
show_count_keeps l tokens P closed n = keeps_ret P (shown.Count n)

pub flush_keeps : {On : Knowledge} (l : Link) (tokens : ℕ) (P : Filter → Type 0) → GuardedFilter On l tokens P → Preserves P (flush)
flush_keeps l tokens P closed = keeps_then P (in_volume commit) (reading count_now show_count) closed.commits (keeps_reading P count_now show_count (show_count_keeps l tokens P closed))

buried_same : (b : Bool) (i : Item) (n : Usn) → KeepsEntries (buried b i n)
buried_same false i n book = refl
buried_same true i n book = by (is_untargeted i) where
  by : (b : Bool) → (cond b book (with_tombstone (tombstone_for i n) book)).entries ≡ book.entries
  by true = refl
  by false = refl

buried_seen : (b : Bool) (i : Item) (n : Usn) (book : Book) → (buried b i n book).seen ≡ book.seen
buried_seen false i n book = refl
buried_seen true i n book = by (is_untargeted i) where
  by : (b : Bool) → (cond b book (with_tombstone (tombstone_for i n) book)).seen ≡ book.seen
  by true = refl
  by false = refl

buried_cursor : (b : Bool) (i : Item) (n : Usn) → KeepsCursor (buried b i n)
buried_cursor false i n book = refl
buried_cursor true i n book = by (is_untargeted i) where
  by : (b : Bool) → (cond b book (with_tombstone (tombstone_for i n) book)).cursor ≡ book.cursor
  by true = refl
  by false = refl

-- the removal that an application asks for
abbrev pub Removing : Link → (Filter → Type 0) → Type 0
Removing l P = (f : Book → Book) (item : ItemId) (x : Filter) → KeepsEntries f → ((b : Book) → (f b).seen ≡ b.seen) → KeepsCursor f → in_use item x ≡ false → (IsFair l → IsLeaf x.volume.items item × Buries f item x) → P x → Keeps P (change_with f (change.Remove item) x)

-- in `replay` it leaves a tombstone, if the item has a target
buries_now : (i : Item) (x : Filter) → item_of x.volume.items i.id ≡ Some i → Buries (buried true i (number_next x)) i.id x
buries_now i x there = (i, there, by (is_untargeted i) refl) where
  by : (b : Bool) → is_untargeted i ≡ b
      → (((target_of i).0 ≡ 0) × ((d : Book) → cond b d (with_tombstone (tombstone_for i (number_next x)) d) ≡ d)) ⊎ ((d : Book) → cond b d (with_tombstone (tombstone_for i (number_next x)) d) ≡ with_tombstone (tombstone_for i (next_number x.volume)) d)
  by true q = inl (eqb-true (target_of i).0 0 q, λ d. refl)
  by false q = inr (λ d. refl)

delete_now_at : (l : Link) (P : Filter → Type 0) → Removing l P → (m : Mode) → is_replay m ≡ true → (i : Item) (x : Filter) → in_use i.id x ≡ false → (IsFair l → IsLeaf x.volume.items i.id × (item_of x.volume.items i.id ≡ Some i)) → P x → Keeps P (delete_now m i (number_next x) x)
delete_now_at l P removes m is i x idle leaf h =
    keeps_bind P (change_with (buried (is_replay m) i (number_next x)) (change.Remove i.id) x) (λ _ t. ret (shown.Done) t)
    (removes (buried (is_replay m) i (number_next x)) i.id x (buried_same (is_replay m) i (number_next x)) (buried_seen (is_replay m) i (number_next x)) (buried_cursor (is_replay m) i (number_next x)) idle
    (λ fair. ((leaf fair).0, subst (λ (b : Bool). Buries (buried b i (number_next x)) i.id x) (sym is) (buries_now i x (leaf fair).1))) h) (λ a t j. j)

none_below : {A : Type 0} (xs : List A) → not (is_empty xs) ≡ false → xs ≡ []
none_below [] e = refl
none_below (x ∷ xs) e = no_way (sym e)

delete_item_at : {On : Knowledge} (l : Link) (tokens : ℕ) (P : Filter → Type 0) → GuardedFilter On l tokens P → Removing l P → (m : Mode) → is_replay m ≡ true → (i : Item) (x : Filter) → (IsFair l → IsChild x.volume.items i) → P x → Keeps P (delete_item m i x)
delete_item_at l tokens P closed removes m is i x child h =
    checked_at P (delete_tests i) (reading number_next (delete_now m i)) x h (λ e.
    let rest = tail_none (delete_tests i x) e in
    delete_now_at l P removes m is i x (head_false (tail_of (tail_of (delete_tests i x))) (tail_none (tail_of (delete_tests i x)) rest))
    (λ fair. (
      (
        each_found i.id (λ j. j.directory ≡ true → children x.volume.items j.id ≡ []) 0 x.volume.next_item.0 x.volume.items i (closed.sound x h fair).now.order (child fair).0
            (λ d. none_below (children x.volume.items i.id) (head_false (tail_of (delete_tests i x)) rest)),
        inr (i, (child fair).0, (child fair).1),
      ),
      (child fair).0,
    )) h)

pub delete_keeps : {On : Knowledge} (l : Link) (tokens : ℕ) (P : Filter → Type 0) → GuardedFilter On l tokens P → Removing l P → (m : Mode) → is_replay m ≡ true → (path : List ℕ) → Preserves P (delete m path)
delete_keeps l tokens P closed removes m is path = record { keeps = λ x h. by x h (find_below x.volume.items path) refl } where
  by : (x : Filter) → P x → (o : Result Item Code) → find_below x.volume.items path ≡ o → Keeps P (on_ok (delete_item m) o x)
  by x h (Err c) e = h
  by x h (Ok i) e = delete_item_at l tokens P closed removes m is i x (λ fair. found_child path i x.volume.next_item.0 x.volume.items (closed.sound x h fair).now.order e) h

-- a move to a place, which was tested
no_test : (o : Option Code) → first_of (test_of o) ≡ None → o ≡ None
no_test None e = refl
no_test (Some c) e = e

move_at : {On : Knowledge} (l : Link) (tokens : ℕ) (P : Filter → Type 0) → GuardedFilter On l tokens P → (i : Item) (p : Place) (b : Bool) (x : Filter) → (IsFair l → Fits l.remote x (change.Move i.id p.parent.id p.name)) → P x
    → Keeps P (changes (when b (change.Move i.id p.parent.id p.name ∷ [])) x)
move_at l tokens P closed i p false x fit h = h
move_at l tokens P closed i p true x fit h =
    keeps_bind P (change (change.Move i.id p.parent.id p.name) x) (λ _ t. ret unit t) (closed.change same_book (change.Move i.id p.parent.id p.name) x (λ b. refl) (λ fair. ((λ z b. refl), (λ k. k), λ b. refl)) (λ id k. k) fit (λ fair. (tt, inl (λ b. refl), inl tt, λ b. refl)) h) (λ a t j. j)

rename_to_at : {On : Knowledge} (l : Link) (tokens : ℕ) (P : Filter → Type 0) → GuardedFilter On l tokens P → (i : Item) (p : Place) (x : Filter) → (IsFair l → IsChild x.volume.items i) → (IsFair l → IsSeated x.volume.items p.parent.id true) → P x → Keeps P (rename_to i p x)
rename_to_at l tokens P closed i p x child seat h = checked_at P (rename_tests i p) (changing (move_of i p) done) x h (λ e.
    let refused = (is_under x.volume.items p.parent.id i.id, code.IntoItself)
    ∷ (nat_lt MOST_PATH_NAMES (depth_at x.volume.items p.parent.id + 1 + height_at x.volume.items i.id), code.TooDeep)
    ∷ (says (λ j. not (j.id.0 == i.id.0)) (child_of x.volume.items p.parent.id p.name), code.Exists) ∷ [] in
    checked_at P (room_tests (move_of i p)) (then_do (changes (move_of i p)) done) x h (λ q.
    keeps_bind P (changes (move_of i p) x) (λ _ t. done t)
    (move_at l tokens P closed i p (not (stands_there i p)) x
    (λ fair. inr (seat fair, head_false refused (no_test (move_refused x.volume.items i.id p.parent.id p.name) e), inr (i, (child fair).0, (child fair).1))) h) (λ a t j. j)))

rename_item_at : {On : Knowledge} (l : Link) (tokens : ℕ) (P : Filter → Type 0) → GuardedFilter On l tokens P → (to : List ℕ) (i : Item) (x : Filter) → (IsFair l → IsChild x.volume.items i) → P x → Keeps P (rename_item to i x)
rename_item_at l tokens P closed to i x child h = by (find_place x.volume.items to) refl where
  by : (o : Result Place Code) → find_place x.volume.items to ≡ o → Keeps P (on_ok (rename_to i) o x)
  by (Err c) e = h
  by (Ok p) e = rename_to_at l tokens P closed i p x child (λ fair. place_seated to p x.volume.next_item.0 x.volume.items (closed.sound x h fair).now.order e) h

pub rename_keeps : {On : Knowledge} (l : Link) (tokens : ℕ) (P : Filter → Type 0) → GuardedFilter On l tokens P → (x1 : List ℕ) → (x2 : List ℕ) → Preserves P (rename x1 x2)
rename_keeps l tokens P closed from to = record { keeps = λ x h. by x h (find_below x.volume.items from) refl } where
  by : (x : Filter) → P x → (o : Result Item Code) → find_below x.volume.items from ≡ o → Keeps P (on_ok (rename_item to) o x)
  by x h (Err c) e = h
  by x h (Ok i) e = rename_item_at l tokens P closed to i x (λ fair. found_child from i x.volume.next_item.0 x.volume.items (closed.sound x h fair).now.order e) h

plain_pin : (id : ItemId) (p : Pin) (b : Bool) → All IsPlain (when b (change.SetPin id p ∷ []))
plain_pin id p true = (record { fits = λ r x. tt; free = λ id k. k; unnamed = tt; holds = λ items. tt }, tt)
plain_pin id p false = tt

plain_pins : (asked : Pin) (items is : List Item) → All IsPlain (pin_changes asked items is)
plain_pins asked items [] = tt
plain_pins asked items (i ∷ is) =
    all_append IsPlain (when (not (same_pin (stored_pin asked items i) i.pin)) (change.SetPin i.id (stored_pin asked items i) ∷ [])) (pin_changes asked (changed i.id (pinned (stored_pin asked items i)) items) is)
    (plain_pin i.id (stored_pin asked items i) (not (same_pin (stored_pin asked items i) i.pin))) (plain_pins asked (changed i.id (pinned (stored_pin asked items i)) items) is)

pub pin_item_keeps : {On : Knowledge} (l : Link) (tokens : ℕ) (P : Filter → Type 0) → GuardedFilter On l tokens P → (pin : Pin) (reach : Reach) (i : Item) → Preserves P (pin_item pin reach i)
pin_item_keeps l tokens P closed pin reach i =
    record { keeps = λ x h. (changing_keeps l tokens P closed (pins_at i pin reach x) (plain_pins pin x.volume.items (reached x.volume.items i reach)) done (operations_keep.done_keeps l tokens P closed)).keeps x h }

pub set_pin_keeps : {On : Knowledge} (l : Link) (tokens : ℕ) (P : Filter → Type 0) → GuardedFilter On l tokens P → (x1 : List ℕ) → (x2 : Pin) → (x3 : Reach) → Preserves P (set_pin x1 x2 x3)
set_pin_keeps l tokens P closed path pin reach = waits_keep.on_path_keeps l tokens P closed path (pin_item pin reach) (pin_item_keeps l tokens P closed pin reach)

pub info_item_keeps : {On : Knowledge} (l : Link) (tokens : ℕ) (P : Filter → Type 0) → GuardedFilter On l tokens P → (x1 : Item) → Preserves P (info_item x1)
info_item_keeps l tokens P closed i = keeps_ret P (info_of i)

pub info_keeps : {On : Knowledge} (l : Link) (tokens : ℕ) (P : Filter → Type 0) → GuardedFilter On l tokens P → (x1 : List ℕ) → Preserves P (info x1)
info_keeps l tokens P closed path = waits_keep.on_path_keeps l tokens P closed path info_item (info_item_keeps l tokens P closed)

pub ranges_item_keeps : {On : Knowledge} (l : Link) (tokens : ℕ) (P : Filter → Type 0) → GuardedFilter On l tokens P → (x1 : Class) → (x2 : Item) → Preserves P (ranges_item x1 x2)
ranges_item_keeps l tokens P closed c i = keeps_ret P (shown.Ranges (runs_of (class_flags c i)))

pub ranges_keeps : {On : Knowledge} (l : Link) (tokens : ℕ) (P : Filter → Type 0) → GuardedFilter On l tokens P → (x1 : List ℕ) → (x2 : Class) → Preserves P (ranges x1 x2)
ranges_keeps l tokens P closed path c = waits_keep.on_file_keeps l tokens P closed path (ranges_item c) (ranges_item_keeps l tokens P closed c)

pub used_item_keeps : {On : Knowledge} (l : Link) (tokens : ℕ) (P : Filter → Type 0) → GuardedFilter On l tokens P → (x1 : Item) → Preserves P (used_item x1)
used_item_keeps l tokens P closed i = keeps_reading P (used_now i.id) ret (keeps_ret P)

pub used_keeps : {On : Knowledge} (l : Link) (tokens : ℕ) (P : Filter → Type 0) → GuardedFilter On l tokens P → (x1 : List ℕ) → Preserves P (used x1)
used_keeps l tokens P closed path = waits_keep.on_file_keeps l tokens P closed path used_item (used_item_keeps l tokens P closed)

pub df_keeps : {On : Knowledge} (l : Link) (tokens : ℕ) (P : Filter → Type 0) → GuardedFilter On l tokens P → Preserves P (df)
df_keeps l tokens P closed = keeps_reading P blocks_now ret (keeps_ret P)

unvalidated : (m : Mode) (p : Policy) → is_replay m ≡ true → is_allowed m p ≡ true → p.validate ≡ false
unvalidated mode.Filter p e h = no_way e
unvalidated mode.Replay p e h =
    let a : not (is_always_full p.hydration || p.validate || p.restart) ≡ true = right_true (not (is_partial p.population)) (not (is_always_full p.hydration || p.validate || p.restart)) h in
    by (is_always_full p.hydration) p.validate p.restart (not_true (is_always_full p.hydration || p.validate || p.restart) a) where
      by : (x y z : Bool) → (x || y || z) ≡ false → y ≡ false
      by true true z e = cc
      by true false z e = refl
      by false true z e = cc
      by false false z e = refl

pub set_policy_keeps : (P : Filter → Type 0) (m : Mode) (p : Policy) → is_replay m ≡ true → (p.validate ≡ false → (x : Filter) → P x → P (with_policy p x)) → Preserves P (set_policy m p)
set_policy_keeps P m p replay rules =
    record { keeps = λ x h. checked_at P (policy_tests m p) (then_do (noted (with_policy p)) done) x h (λ e. rules (unvalidated m p replay (not_false (is_allowed m p) (head_false (policy_tests m p x) e))) x h) }
