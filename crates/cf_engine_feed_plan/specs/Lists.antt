-- The steps of an entry as lists, from the items as they are before the first of them.
use Rattle.std.specs.Prelude.{ℕ, Bool, not, cond, List, [], ◌∷◌, ◌++◌, Option, Some, None, option_map, ◌&&◌}
use Rattle.cf_base.specs.declared.changes.Change.{Change}
use Rattle.cf_base.specs.declared.changes.Change.TheVariants as change
use Rattle.cf_base.specs.declared.ids.ItemId.{ItemId}
use Rattle.cf_base.specs.declared.items.SeenPath.{SeenPath}
use Rattle.cf_base.specs.declared.messages.Entry.{Entry}
use Rattle.cf_base.specs.declared.policies.Policy.{Policy}
use Rattle.cf_model.specs.ConflictNames.{conflict_name}
use Rattle.cf_model.specs.Effects.{untargeted}
use Rattle.cf_model.specs.Feeds.{is_adoptable, is_newer, is_path_of, is_under, kind_of_entry, name_in_root, seen_entry, stands_in}
use Rattle.cf_model.specs.Identities.{entry_identity, no_identity}
use Rattle.cf_model.specs.Items.{Item, base_of, is_dirty, item_of}
use Rattle.cf_model.specs.LookUp.{child_of, children}
use Rattle.cf_model.specs.Numbers.{no_item, no_usn, root_id}
use Rattle.cf_model.specs.Skips.{conflict_move, if_other}
use Rattle.cf_model.specs.Words.{is_empty, part, says, when}
use Rattle.cf_engine_feed_plan.specs.declared.entry_steps.Step.{Step}
use Rattle.cf_engine_feed_plan.specs.declared.entry_steps.Step.TheVariants.{Apply, Mark, Seen, CopyOff}
use Rattle.cf_engine_feed_plan.specs.declared.entry_steps.Turn.{Turn}
use Rattle.cf_engine_feed_plan.specs.declared.entry_steps.Turn.TheVariants.{Nothing, Postponed, Later, Do}

-- a change that there may be
abbrev pub applied : Option Change → List Step
applied None = []
applied (Some c) = Apply c ∷ []

-- whoever stands at the name, but for one item, moves to its conflict name
abbrev pub off : List Item → ItemId → List ℕ → ItemId → Option Change
off items parent name but = option_map (conflict_move items) (part (if_other but) None (child_of items parent name))

-- gone

abbrev pub untarget_steps : Item → List Step
untarget_steps i = when i.in_sync (Apply (change.Clear i.id) ∷ []) ++ Apply (change.Rebase i.id (untargeted i.identity) (base_of i) no_usn) ∷ []

abbrev pub has_child : List Item → ItemId → Bool
has_child items id = not (is_empty (children items id))

-- an empty directory, or a clean file
abbrev pub is_removable : List Item → Item → Bool
is_removable items i = cond i.directory (not (has_child items i.id)) (not (is_dirty i))

abbrev pub gone_steps : List Item → Item → List Step
gone_steps items i = cond (is_removable items i) (Apply (change.Remove i.id) ∷ []) (untarget_steps i)

-- new

abbrev pub adopt_steps : Entry → Item → List Step
adopt_steps e i = when (not i.placeholder) (Apply (change.Convert i.id no_identity) ∷ []) ++ Apply (change.Rebase i.id (entry_identity e) 0 no_usn) ∷ Seen (seen_entry i.id e) ∷ Mark i.id ∷ []

abbrev pub make_of : Policy → ItemId → Entry → ItemId → Change
make_of policy next e parent = change.Make next parent e.name (kind_of_entry policy e) (cond e.dir 0 e.len) (entry_identity e)

abbrev pub make_steps : Policy → ItemId → List Item → Entry → ItemId → List Step
make_steps policy next items e parent = applied (off items parent e.name no_item) ++ Apply (make_of policy next e parent) ∷ Seen (seen_entry next e) ∷ Mark next ∷ []

abbrev pub new_over : Policy → ItemId → List Item → Entry → ItemId → Option Item → List Step
new_over policy next items e parent None = make_steps policy next items e parent
new_over policy next items e parent (Some i) = cond (is_adoptable e i) (adopt_steps e i) (make_steps policy next items e parent)

abbrev pub new_steps : Policy → ItemId → List Item → Entry → ItemId → List Step
new_steps policy next items e parent = new_over policy next items e parent (child_of items parent e.name)

-- changed

-- the parent of the entry moves to the root, where the item would come under itself
abbrev pub lift : List Item → Item → Item → Option Change
lift items i p = cond (is_under items p.id i.id) (Some (change.Move p.id root_id (name_in_root items p))) None

abbrev pub enter : Entry → Item → Item → Option Change
enter e i p = cond (stands_in p e.name i) None (Some (change.Move i.id p.id e.name))

abbrev pub move_steps : List Item → Entry → Item → Item → List Step
move_steps items e i p = applied (off items p.id e.name i.id) ++ applied (lift items i p) ++ applied (enter e i p) ++ Seen (seen_entry i.id e) ∷ []

abbrev pub take_steps : Entry → Item → List Step
take_steps e i = when (is_newer i e) (when (is_dirty i) (CopyOff i.id ∷ []) ++ Apply (change.Take i.id (entry_identity e) e.len) ∷ [])

abbrev pub changed_steps : List Item → Option SeenPath → Entry → Item → Item → List Step
changed_steps items seen e i p = when (not (says (is_path_of e) seen)) (move_steps items e i p) ++ take_steps e i ++ Mark i.id ∷ []

-- the copy in which a file's local writes go on
abbrev pub copied_off : ItemId → List Item → Item → Change
copied_off next items i = change.Copy next i.id i.parent (conflict_name items i.parent i.name)

abbrev pub copy_of : ItemId → List Item → ItemId → Option Change
copy_of next items item = option_map (copied_off next items) (item_of items item)

-- the turn of an entry, by the items as they are before it, the local item that is the entry's, and its parent

abbrev pub gone_turn : Bool → Bool → List Item → Entry → Item → Turn
gone_turn last used items e i = cond used Postponed (cond (not last && (not e.live && (i.directory && has_child items i.id))) Later (Do (gone_steps items i)))

abbrev pub changed_turn : Bool → List Item → Option SeenPath → Entry → Item → Item → Turn
changed_turn used items seen e i p = cond (is_newer i e && used) Postponed (Do (changed_steps items seen e i p))

abbrev pub known_turn : Bool → Bool → List Item → Option SeenPath → Entry → Item → Option Item → Turn
known_turn last used items seen e i None = gone_turn last used items e i
known_turn last used items seen e i (Some p) = cond e.live (changed_turn used items seen e i p) (gone_turn last used items e i)

abbrev pub unknown_turn : Policy → ItemId → List Item → Entry → Option Item → Turn
unknown_turn policy next items e None = Nothing
unknown_turn policy next items e (Some p) = cond e.live (Do (new_steps policy next items e p.id)) Nothing

abbrev pub turn_steps : Policy → ItemId → Bool → Bool → List Item → Option SeenPath → Entry → Option Item → Option Item → Turn
turn_steps policy next last used items seen e None p = unknown_turn policy next items e p
turn_steps policy next last used items seen e (Some i) p = known_turn last used items seen e i p
