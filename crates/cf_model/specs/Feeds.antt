-- What a feed makes of the items.
use Rattle.std.specs.Prelude.{ℕ, Bool, true, false, not, cond, List, [], filter, find, Option, Some, None, unwrap_or, nat_lt, ◌&&◌, ◌||◌, ◌∷◌, ◌++◌, ◌==◌}
use Rattle.std.specs.List.{list_any}
use Rattle.cf_base.specs.declared.changes.Change.{Change}
use Rattle.cf_base.specs.declared.changes.Change.TheVariants as change
use Rattle.cf_base.specs.declared.ids.ItemId.{ItemId}
use Rattle.cf_base.specs.declared.items.Kind.{Kind}
use Rattle.cf_base.specs.declared.items.Kind.TheVariants as kind
use Rattle.cf_base.specs.declared.items.SeenPath.{SeenPath}
use Rattle.cf_base.specs.declared.messages.Entry.{Entry}
use Rattle.cf_base.specs.declared.policies.Policy.{Policy}
use Rattle.cf_model.specs.Arrows.{Arrow, and_then, choose, noted, only_if, reading, ret, seq, then_do, unit}
use Rattle.cf_model.specs.Requests.{is_list}
use Rattle.cf_model.specs.Books.{seen_of}
use Rattle.cf_model.specs.ConflictNames.{conflict_name}
use Rattle.cf_model.specs.Effects.{untargeted}
use Rattle.cf_model.specs.Identities.{base_version, by_target, entry_identity, has_target, is_untargeted, no_identity}
use Rattle.cf_model.specs.Items.{Item, base_of, is_dirty, item_of}
use Rattle.cf_model.specs.LookUp.{child_of, children, depth_at, is_below}
use Rattle.cf_model.specs.Numbers.{no_item, no_usn, root_id}
use Rattle.cf_model.specs.Plans.{placeholder_dir}
use Rattle.cf_model.specs.PushReplies.{round_closed, whatever}
use Rattle.cf_model.specs.Skips.{in_use, in_volatile, try_change, try_clear_name, try_cursor, try_mark_now, try_seen}
use Rattle.cf_model.specs.State.{Running, State, Volatile, book_now, items_now}
use Rattle.cf_model.specs.Words.{is_empty, part, same, says, sorted}

-- what became of an entry at its turn: whether it was postponed
abbrev pub Turn : Type 0
Turn = Arrow State Bool

abbrev pub taken : Bool → Arrow State Bool
taken done = ret false

-- an entry that was not postponed, whether all its steps were done or not
abbrev pub turn : Arrow State Bool → Turn
turn steps = seq steps taken

abbrev pub has_child : State → ItemId → Bool
has_child s id = not (is_empty (children (items_now s) id))

abbrev pub is_parent : Entry → Item → Bool
is_parent e i = has_target i e.parent && i.directory && i.populated

-- the local directory that an entry's parent is, if it is here and populated
abbrev pub parent_here : State → Entry → Option Item
parent_here s e = find (is_parent e) (items_now s)

abbrev pub seen_entry : ItemId → Entry → SeenPath
seen_entry id e = record { item = id; parent = e.parent; name = e.name }

-- Gone: the entry is dead, or its parent is not here

-- no item of the remote is this one any more
abbrev pub untarget : Item → Arrow State Bool
untarget i = and_then (only_if i.in_sync (try_change (change.Clear i.id))) (try_change (change.Rebase i.id (untargeted i.identity) (base_of i) no_usn))

-- an empty directory, or a clean file
abbrev pub is_removable : State → Item → Bool
is_removable s i = cond i.directory (not (has_child s i.id)) (not (is_dirty i))

abbrev pub remove_or_untarget : Item → Bool → Arrow State Bool
remove_or_untarget i true = try_change (change.Remove i.id)
remove_or_untarget i false = untarget i

abbrev pub gone_unless : Item → Bool → Turn
gone_unless i true = ret true
gone_unless i false = turn (λ s. remove_or_untarget i (is_removable s i) s)

-- an item in use is postponed
abbrev pub gone : Item → Turn
gone i s = gone_unless i (in_use s i.id) s

-- New: the entry is live and not known, and its parent is here

-- a local directory becomes the one of the entry
abbrev pub adopt : Entry → Item → Arrow State Bool
adopt e i =
    and_then (only_if (not i.placeholder) (try_change (change.Convert i.id no_identity)))
    (and_then (try_change (change.Rebase i.id (entry_identity e) 0 no_usn))
    (and_then (try_seen (seen_entry i.id e))
    (try_mark_now i.id)))

abbrev pub kind_of_entry : Policy → Entry → Kind
kind_of_entry p e = cond e.dir (placeholder_dir p) kind.PlaceholderFile

abbrev pub make_of : State → Entry → Item → Change
make_of s e p = change.Make s.filter.volume.next_item p.id e.name (kind_of_entry s.filter.policy e) (cond e.dir 0 e.len) (entry_identity e)

-- the new item, which has the id, its path seen, and its mark
abbrev pub make_after : Entry → Item → Arrow State Bool
make_after e p s =
    and_then (try_change (make_of s e p))
    (and_then (try_seen (seen_entry s.filter.volume.next_item e))
    (try_mark_now s.filter.volume.next_item)) s

-- whoever stands at the name is moved off first
abbrev pub make_entry : Entry → Item → Arrow State Bool
make_entry e p = and_then (try_clear_name p.id e.name no_item) (make_after e p)

abbrev pub is_adoptable : Entry → Item → Bool
is_adoptable e i = e.dir && i.directory && is_untargeted i

abbrev pub new_over : Entry → Item → Option Item → Arrow State Bool
new_over e p None = make_entry e p
new_over e p (Some i) = choose (is_adoptable e i) (adopt e i) (make_entry e p)

abbrev pub new_entry : Entry → Item → Turn
new_entry e p = turn (λ s. new_over e p (child_of (items_now s) p.id e.name) s)

-- Changed: the entry is live and known, and its parent is here

-- in the root the parent keeps its name where no child has it
abbrev pub name_in_root : List Item → Item → List ℕ
name_in_root items p = elim (child_of items root_id p.name) as (λ _. List ℕ) [ None ↦ p.name | Some i ↦ conflict_name items root_id p.name ]

abbrev pub is_under : List Item → ItemId → ItemId → Bool
is_under items id top = (id.0 == top.0) || is_below items id top

-- where a directory would come under itself its new parent is first moved to the root
abbrev pub free_parent : Item → Item → Arrow State Bool
free_parent i p s = only_if (is_under (items_now s) p.id i.id) (try_change (change.Move p.id root_id (name_in_root (items_now s) p))) s

abbrev pub stands_in : Item → List ℕ → Item → Bool
stands_in p name i = (i.parent.0 == p.id.0) && same i.name name

abbrev pub move_in : Entry → Item → Item → Arrow State Bool
move_in e i p s = only_if (not (says (stands_in p e.name) (item_of (items_now s) i.id))) (try_change (change.Move i.id p.id e.name)) s

-- the occupant, then the parent, then the item
abbrev pub move_entry : Entry → Item → Item → Arrow State Bool
move_entry e i p =
    and_then (try_clear_name p.id e.name i.id)
    (and_then (free_parent i p)
    (and_then (move_in e i p)
    (try_seen (seen_entry i.id e))))

abbrev pub is_path_of : Entry → SeenPath → Bool
is_path_of e p = (p.parent.0 == e.parent.0) && same p.name e.name

-- the entry's path is the one seen
abbrev pub is_seen_so : State → Item → Entry → Bool
is_seen_so s i e = says (is_path_of e) (seen_of (book_now s) i.id)

abbrev pub is_newer : Item → Entry → Bool
is_newer i e = not i.directory && nat_lt (base_version i).0 e.version.0

-- the local writes go on in a file of their own
abbrev pub copy_off : Item → Arrow State Bool
copy_off i s = try_change (change.Copy s.filter.volume.next_item i.id i.parent (conflict_name (items_now s) i.parent i.name)) s

abbrev pub take_over : Entry → Option Item → Arrow State Bool
take_over e None = ret true
take_over e (Some i) = only_if (is_newer i e) (and_then (only_if (is_dirty i) (copy_off i)) (try_change (change.Take i.id (entry_identity e) e.len)))

-- the newer version takes the place of the file's bytes
abbrev pub take_entry : Entry → ItemId → Arrow State Bool
take_entry e id s = take_over e (item_of (items_now s) id) s

abbrev pub changed_steps : Entry → Item → Item → Arrow State Bool
changed_steps e i p s =
    and_then (only_if (not (is_seen_so s i e)) (move_entry e i p))
    (and_then (take_entry e i.id)
    (try_mark_now i.id)) s

abbrev pub changed_unless : Entry → Item → Item → Bool → Turn
changed_unless e i p true = ret true
changed_unless e i p false = turn (changed_steps e i p)

-- a newer version of an item in use is postponed whole
abbrev pub changed_entry : Entry → Item → Item → Turn
changed_entry e i p s = changed_unless e i p (is_newer i e && in_use s i.id) s

-- the case of an entry; one of no case has no step

abbrev pub unknown : Bool → Entry → Option Item → Turn
unknown true e (Some p) = new_entry e p
unknown true e None = ret false
unknown false e p = ret false

abbrev pub known : Bool → Entry → Item → Option Item → Turn
known true e i (Some p) = changed_entry e i p
known true e i None = gone i
known false e i p = gone i

abbrev pub turn_by : Entry → Option Item → Option Item → Turn
turn_by e None p = unknown e.live e p
turn_by e (Some i) p = known e.live e i p

abbrev pub take_turn : Entry → Turn
take_turn e s = turn_by e (by_target (items_now s) e.rid) (parent_here s e) s

-- all entries

-- a dead directory that is not empty comes again after the live entries
abbrev pub comes_again : State → Entry → Item → Bool
comes_again s e i = not e.live && i.directory && has_child s i.id && not (in_use s i.id)

abbrev pub is_later : State → Entry → Bool
is_later s e = says (comes_again s e) (by_target (items_now s) e.rid)

-- what the turns so far gave: whether one was postponed, and the entries that come again
pub record Fed : Type 0 where
  pub postponed : Bool
  pub later : List Entry

abbrev pub with_turn : Fed → Bool → Arrow State Fed
with_turn f postponed = ret (record f { postponed = f.postponed || postponed })

abbrev pub first_turn_by : Bool → Entry → Fed → Arrow State Fed
first_turn_by true e f = ret (record f { later = f.later ++ e ∷ [] })
first_turn_by false e f = seq (take_turn e) (with_turn f)

abbrev pub first_turn : Entry → Fed → Arrow State Fed
first_turn e f s = first_turn_by (is_later s e) e f s

abbrev pub second_turn : Entry → Fed → Arrow State Fed
second_turn e f = seq (take_turn e) (with_turn f)

abbrev pub turns : (Entry → Fed → Arrow State Fed) → List Entry → Fed → Arrow State Fed
turns f [] so_far = ret so_far
turns f (e ∷ es) so_far = seq (f e so_far) (turns f es)

abbrev pub depth_of_entry : List Item → Entry → ℕ
depth_of_entry items e = part (λ i. depth_at items i.id) 0 (by_target items e.rid)

-- dead entries, the deepest local item first, and then live ones in the order given
abbrev pub in_turn : List Item → List Entry → List Entry
in_turn items es =
    sorted (λ d e. nat_lt (depth_of_entry items e) (depth_of_entry items d)) (filter (λ e. not e.live) es) ++ filter (λ e. e.live) es

-- those that come again, in the order of their first turns
abbrev pub second_turns : Fed → Arrow State Fed
second_turns f = turns second_turn f.later f

abbrev pub all_turns : List Entry → Arrow State Fed
all_turns es s = seq (turns first_turn (in_turn (items_now s) es) (record { postponed = false; later = [] })) second_turns s

-- nothing is held back any more
abbrev pub all_released : Volatile → Volatile
all_released v = record v { held_items = []; held_tombstones = [] }

abbrev pub clock_seen : ℕ → Running → Running
clock_seen clock r = record r { first_clock = Some (unwrap_or r.first_clock clock) }

abbrev pub with_clock_seen : ℕ → State → State
with_clock_seen clock s = record s { running = clock_seen clock s.running }

abbrev pub is_listing : State → Bool
is_listing s = list_any (λ a. is_list a.ask.kind) s.filter.waiting.asks

abbrev pub is_whole : ℕ → Fed → State → Bool
is_whole skips f s = not f.postponed && (s.running.skips == skips) && not (is_listing s)

abbrev pub cursor_if : ℕ → Bool → Arrow State (Unit {0})
cursor_if clock false = ret unit
cursor_if clock true = seq (try_cursor clock) whatever

-- where nothing was postponed or skipped and no list ask is live the cursor becomes the reply's clock
abbrev pub end_feed : ℕ → ℕ → Fed → Arrow State (Unit {0})
end_feed clock skips f =
    then_do (in_volatile all_released) (then_do (noted (with_clock_seen clock)) (reading (is_whole skips f) (cursor_if clock)))

abbrev pub apply_entries : ℕ → List Entry → Arrow State (Unit {0})
apply_entries clock es s = seq (all_turns es) (end_feed clock s.running.skips) s

-- a reply that is taken closes its round: a later one to the same request counts no more
abbrev pub apply_feed : ℕ → List Entry → Arrow State (Unit {0})
apply_feed clock es = then_do (in_volatile round_closed) (apply_entries clock es)
