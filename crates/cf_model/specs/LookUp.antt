-- Items by path, and where they stand in the tree.
use Rattle.std.specs.Prelude.{ℕ, zero, suc, Bool, true, false, not, cond, List, [], length, map, filter, Option, Some, None, Result, Ok, Err, find, nat_lt, ◌+◌, ◌-◌, ◌&&◌, ◌||◌, ◌∷◌, ◌==◌, if◌then◌else◌}
use Rattle.std.specs.List.{list_all, list_any}
use Rattle.cf_base.specs.declared.codes.Code.{Code}
use Rattle.cf_base.specs.declared.codes.Code.TheVariants as code
use Rattle.cf_base.specs.declared.ids.ItemId.{ItemId}
use Rattle.cf_base.specs.declared.items.Pin.{Pin}
use Rattle.cf_base.specs.declared.items.Pin.TheVariants as pin
use Rattle.cf_base.specs.declared.limits.TheConstants.{MOST_PATH_NAMES}
use Rattle.cf_model.specs.Items.{Item, item_of, pin_of, root}
use Rattle.cf_model.specs.Texts.{is_name}
use Rattle.cf_model.specs.Words.{but_last, comes_before, first_of, greatest, last_of, same, says, sorted, split_at}

-- children

abbrev pub is_child : ItemId → Item → Bool
is_child id i = i.parent.0 == id.0

-- the children of a directory, by id
abbrev pub children : List Item → ItemId → List Item
children items id = filter (is_child id) items

abbrev pub is_child_named : ItemId → List ℕ → Item → Bool
is_child_named id name i = (i.parent.0 == id.0) && same i.name name

abbrev pub child_of : List Item → ItemId → List ℕ → Option Item
child_of items id name = find (is_child_named id name) items

abbrev pub by_name : List Item → List Item
by_name items = sorted (λ i j. comes_before i.name j.name) items

-- paths

abbrev pub after_slash : List ℕ → List (List ℕ)
after_slash [] = []
after_slash (b ∷ bs) = split_at 47 (b ∷ bs)

-- the names of a path, which begins with a slash; those of the root alone are none
abbrev pub names_of : List ℕ → List (List ℕ)
names_of [] = [] ∷ []
names_of (b ∷ bs) = cond (b == 47) (after_slash bs) ([] ∷ [])

-- from an item on, by these names
abbrev pub walk : List Item → Item → List (List ℕ) → Result Item Code
walk items at [] = Ok at
walk items at (n ∷ ns) =
    if not at.directory then Err code.NotDirectory else (if not at.populated then Err code.NotPopulated else
    (elim (child_of items at.id n) as (λ _. Result Item Code) [ None ↦ Err code.NotFound | Some next ↦ walk items next ns ]))

abbrev pub root_of : List Item → Item
root_of [] = root
root_of (i ∷ is) = i

-- why the names are no path, before anything is looked up
abbrev pub bad_names : List (List ℕ) → Option Code
bad_names names = first_of ((nat_lt MOST_PATH_NAMES (length names), code.TooDeep) ∷ (not (list_all is_name names), code.BadPath) ∷ [])

abbrev pub refused_or : {A : Type 0} → Option Code → Result A Code → Result A Code
refused_or (Some c) r = Err c
refused_or None r = r

abbrev pub find_names : List Item → List (List ℕ) → Result Item Code
find_names items names = refused_or (bad_names names) (walk items (root_of items) names)

-- the item of a path
abbrev pub find_path : List Item → List ℕ → Result Item Code
find_path items path = find_names items (names_of path)

-- the root is refused too
abbrev pub find_below : List Item → List ℕ → Result Item Code
find_below items path = elim (names_of path) as (λ _. Result Item Code) [ [] ↦ Err code.BadPath | n ∷ ns ↦ find_names items (n ∷ ns) ]

-- a directory and a name in it, which may be free
pub record Place : Type 0 where
  pub parent : Item
  pub name : List ℕ

-- a place in the item that was found
abbrev pub place_in : List ℕ → Result Item Code → Result Place Code
place_in name (Err c) = Err c
place_in name (Ok p) = cond (not p.directory) (Err code.NotDirectory) (cond (not p.populated) (Err code.NotPopulated) (Ok (record { parent = p; name = name })))

abbrev pub place_of : List Item → List (List ℕ) → Result Place Code
place_of items [] = Err code.BadPath
place_of items (n ∷ ns) = refused_or (bad_names (n ∷ ns)) (place_in (last_of n ns) (walk items (root_of items) (but_last n ns)))

-- where a path that is to be made or moved to leads
abbrev pub find_place : List Item → List ℕ → Result Place Code
find_place items path = place_of items (names_of path)

-- the tree

-- the ids from an item up to the root, the root left out; fuel is the number of items
abbrev pub line_up : ℕ → List Item → Option Item → List ℕ
line_up zero items i = []
line_up (suc fuel) items None = []
line_up (suc fuel) items (Some i) = cond (i.id.0 == 1) [] (i.id.0 ∷ line_up fuel items (item_of items i.parent))

abbrev pub item_line : List Item → ItemId → List ℕ
item_line items id = line_up (length items) items (item_of items id)

-- how many names the path of an item has
abbrev pub depth_at : List Item → ItemId → ℕ
depth_at items id = length (item_line items id)

-- the item is the other or below it; of the root see `is_in_tree_of`
abbrev pub is_below : List Item → ItemId → ItemId → Bool
is_below items id top = list_any (λ k. k == top.0) (item_line items id)

abbrev pub is_in_tree_of : List Item → ItemId → ItemId → Bool
is_in_tree_of items id top = (top.0 == 1) || is_below items id top

-- how many names the longest path from the item down has below the item
abbrev pub height_at : List Item → ItemId → ℕ
height_at items id = greatest (map (λ i. depth_at items i.id) (filter (λ i. is_below items i.id id) items)) - depth_at items id

-- why an item may not move to a place
abbrev pub move_refused : List Item → ItemId → ItemId → List ℕ → Option Code
move_refused items id parent name = first_of (
    ((parent.0 == id.0) || is_below items parent id, code.IntoItself)
    ∷ (nat_lt MOST_PATH_NAMES (depth_at items parent + 1 + height_at items id), code.TooDeep)
    ∷ (says (λ i. not (i.id.0 == id.0)) (child_of items parent name), code.Exists) ∷ [])

-- items by depth, then by id
abbrev pub by_depth : List Item → List Item → List Item
by_depth items list = sorted (λ i j. nat_lt (depth_at items i.id) (depth_at items j.id)) list

-- the item and all below it, by depth, then by id
abbrev pub tree_of : List Item → ItemId → List Item
tree_of items top = by_depth items (filter (λ i. is_in_tree_of items i.id top) items)

-- exclusion

abbrev pub is_excluded_pin : Pin → Bool
is_excluded_pin pin.Excluded = true
is_excluded_pin _ = false

-- an item is excluded where it or one above it, the root among them, is stored so
abbrev pub is_excluded : List Item → ItemId → Bool
is_excluded items id = list_any (λ k. is_excluded_pin (pin_of items (record { 0 = k }))) (1 ∷ item_line items id)
