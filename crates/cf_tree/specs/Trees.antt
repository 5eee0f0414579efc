-- When items form a tree.
use Rattle.std.specs.Prelude.{ℕ, zero, suc, true, false, List, [], Some, None, All, Bool, MatchOption, ◌+◌, ◌≤◌, ◌<◌, ◌≡◌, ◌∷◌, ◌==◌}
use Rattle.cf_base.specs.Names.{is_name}
use Rattle.cf_base.specs.declared.changes.Change.{Change}
use Rattle.cf_base.specs.declared.changes.Change.TheVariants as change
use Rattle.cf_base.specs.declared.ids.ItemId.{ItemId}
use Rattle.cf_base.specs.declared.ids.Usn.{Usn}
use Rattle.cf_model.specs.Effects.{effect}
use Rattle.cf_model.specs.Items.{Item, item_of}
use Rattle.cf_model.specs.LookUp.{child_of, depth_at}
use Rattle.cf_table.specs.Tables.{row_of}
use Rattle.cf_table.specs.declared.rows.Row.{Row}

-- the ids rise, from low on
abbrev pub RiseFrom : ℕ → List Item → Type 0
RiseFrom low [] = Unit {0}
RiseFrom low (i ∷ is) = (low ≤ i.id.0) × RiseFrom (i.id.0 + 1) is

-- the first item is the root, a directory that has no parent
abbrev pub BeginWithRoot : List Item → Type 0
BeginWithRoot [] = ⊥
BeginWithRoot (r ∷ is) = (r.id.0 ≡ 1) × (r.directory ≡ true) × (r.parent.0 ≡ 0)

-- n names lead from the root to the item, through directories
abbrev pub IsUnder : ℕ → List Item → Item → Type 0
IsUnder zero items i = i.id.0 ≡ 1
IsUnder (suc n) items i = ((i.id.0 == 1) ≡ false) × MatchOption (item_of items i.parent) ⊥ (λ p. (p.directory ≡ true) × IsUnder n items p)

-- at most 32 names lead to the item, and it is the one of its name in its directory
pub record Stands (items : List Item) (i : Item) : Type 0 where
  pub depth : ℕ
  pub few : depth ≤ 32
  pub under : IsUnder depth items i
  pub alone : child_of items i.parent i.name ≡ Some i

-- the items form a tree
pub record IsTree (items : List Item) : Type 0 where
  pub order : RiseFrom 1 items
  pub root : BeginWithRoot items
  pub places : (id : ItemId) (i : Item) → item_of items id ≡ Some i → Stands items i

-- no directory whose entries have not come has a child
abbrev pub AreOpen : List Item → Type 0
AreOpen items = (id : ItemId) (i p : Item) → item_of items id ≡ Some i → item_of items i.parent ≡ Some p → p.populated ≡ true

-- each row but that of the root has a name
abbrev pub HaveNames : List Row → Type 0
HaveNames rows = (id : ItemId) (r : Row) → row_of rows id ≡ Some r → (r.id.0 == 1) ≡ false → is_name r.name ≡ true

-- the change leaves each item its place
abbrev pub keeps_places : Change → Bool
keeps_places (change.Make item parent name kind size identity) = false
keeps_places (change.Remove item) = false
keeps_places (change.Move item parent name) = false
keeps_places (change.Copy item from parent name) = false
keeps_places _ = true

-- a directory under which one more name has room
pub record MayHold (items : List Item) (parent : ItemId) : Type 0 where
  pub above : Item
  pub there : item_of items parent ≡ Some above
  pub directory : above.directory ≡ true
  pub few : depth_at items parent < 32

-- one more item under a name that is free in a directory with room; its id comes after all others
pub record MayCome (items : List Item) (item parent : ItemId) (name : List ℕ) : Type 0 where
  pub last : All (λ i. i.id.0 < item.0) items
  pub room : MayHold items parent
  pub free : child_of items parent name ≡ None

-- each of the changes in turn keeps a tree, whatever numbers they get
abbrev pub KeepTrees : List Change → List Item → Type 0
KeepTrees [] items = Unit {0}
KeepTrees (c ∷ cs) items = (n : Usn) → IsTree (effect items c n) × KeepTrees cs (effect items c n)
