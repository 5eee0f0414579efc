-- The live items in order of parent and name, and how the store keeps its items.
use Rattle.std.specs.Prelude.{◌≡◌, ◌⊎◌, ℕ, Bool, false, not, cond, List, [], ◌∷◌, ◌++◌, map, filter, ◌==◌, ◌≤◌, ◌<◌, Option, Some, None, option_map, count_by, sum_by, length, get_or, take, drop, suc, true}
use Rattle.std.specs.Cmp.Lexicographic.{slice_cmp}
use Rattle.std.specs.List.{AllByRecursion}
use Rattle.std.specs.declared.cmp.Ordering.{Ordering}
use Rattle.std.specs.declared.cmp.Ordering.TheVariants.{Less, Equal, Greater}
use Rattle.std.specs.Ordering.{is_lt, nat_cmp, ordering_then}
use Rattle.cf_collections.specs.Split.{behind, front, rest}
use Rattle.cf_base.specs.declared.ids.Rid.{Rid}
use Rattle.cf_model.specs.Growth.{CountsFrom}
use Rattle.cf_base.specs.declared.messages.Entry.{Entry}
use Rattle.cf_model.specs.Store.{Stored, entry_told, stored_at}
use Rattle.cf_model.specs.Words.{says}
use Rattle.cf_remote.specs.Held.{held_len}

-- how an item compares to a place: by parent, then by name
abbrev pub against : Rid → List ℕ → Stored → Ordering
against parent name s = ordering_then (nat_cmp s.parent.0 parent.0) (slice_cmp nat_cmp s.name name)

abbrev pub comes : Stored → Stored → Ordering
comes s t = against t.parent t.name s

-- A place in the index: that of a parent and a name. The index may hold a rid that no item has, where a place is kept for one;
-- `kept_before` says whether it comes before this one.
pub record PlaceIn : Type 0 where
  pub items : List Stored
  pub parent : Rid
  pub name : List ℕ
  pub kept_before : Bool

-- whether an item that may be there comes before a place
abbrev pub comes_first : Rid → List ℕ → Bool → Option Stored → Bool
comes_first parent name kept None = kept
comes_first parent name kept (Some s) = is_lt (against parent name s)

abbrev pub is_before : PlaceIn → Rid → Bool
is_before p rid = comes_first p.parent p.name p.kept_before (stored_at p.items rid)

-- the place of a parent and a name, before which no other is kept
abbrev pub place : List Stored → Rid → List ℕ → PlaceIn
place items parent name = record { items = items; parent = parent; name = name; kept_before = false }

-- rids with one more at a place, and without the first one that does not come before it
abbrev pub put_at : PlaceIn → Rid → List Rid → List Rid
put_at p rid rids = front (is_before p) rids ++ rid ∷ behind (is_before p) rids

abbrev pub gone_at : PlaceIn → List Rid → List Rid
gone_at p rids = front (is_before p) rids ++ rest (behind (is_before p) rids)

-- each item comes before those after it
abbrev pub Rises : List Stored → Type 0
Rises [] = Unit {0}
Rises (s ∷ ss) = AllByRecursion (λ t. comes s t ≡ Less) ss × Rises ss

abbrev pub Has : List Stored → Stored → Type 0
Has [] s = ⊥
Has (t ∷ ts) s = (s ≡ t) ⊎ Has ts s

-- with one more item, at its place
abbrev pub placed : Stored → List Stored → List Stored
placed t [] = t ∷ []
placed t (s ∷ ss) = cond (is_lt (comes s t)) (s ∷ placed t ss) (t ∷ s ∷ ss)

abbrev pub without : Rid → List Stored → List Stored
without rid ss = filter (λ s. not (s.rid.0 == rid.0)) ss

abbrev pub rids_of : List Stored → List Rid
rids_of ss = map (λ s. s.rid) ss

-- the live ones of the items, in order
pub record IsOrder (items ordered : List Stored) : Type 0 where
  pub rises : Rises ordered
  pub stands : (s : Stored) → Has ordered s → Has items s × (s.live ≡ true)
  pub complete : (s : Stored) → Has items s → s.live ≡ true → Has ordered s

-- the rids of some of the items, in order
pub record IsPart (items : List Stored) (index : List Rid) (ordered : List Stored) : Type 0 where
  pub counted : CountsFrom 1 items
  pub rises : Rises ordered
  pub stands : (s : Stored) → Has ordered s → Has items s
  pub rids : index ≡ rids_of ordered

-- the rids of the live ones, in order
pub record IsIndex (items : List Stored) (index : List Rid) (ordered : List Stored) : Type 0 where
  pub counted : CountsFrom 1 items
  pub order : IsOrder items ordered
  pub rids : index ≡ rids_of ordered

-- the item at i is at that place
pub record IsAt (parent : Rid) (name : List ℕ) (ordered : List Stored) (i : ℕ) : Type 0 where
  pub in_range : i < length ordered
  pub at : (d : Stored) → against parent name (get_or ordered i d) ≡ Equal
  pub before : AllByRecursion (λ s. against parent name s ≡ Less) (take i ordered)
  pub after : AllByRecursion (λ s. against parent name s ≡ Greater) (drop (suc i) ordered)

-- no item is at that place, which is before i
pub record IsGap (parent : Rid) (name : List ℕ) (ordered : List Stored) (i : ℕ) : Type 0 where
  pub in_range : i ≤ length ordered
  pub before : AllByRecursion (λ s. against parent name s ≡ Less) (take i ordered)
  pub after : AllByRecursion (λ s. against parent name s ≡ Greater) (drop i ordered)

-- the item of a place, or none
abbrev pub IsFound : Rid → List ℕ → List Stored → Option Stored → Type 0
IsFound parent name ordered None = (i : ℕ) × IsGap parent name ordered i
IsFound parent name ordered (Some s) = (i : ℕ) × IsAt parent name ordered i × ((d : Stored) → get_or ordered i d ≡ s)

pub record IsIndexed (items : List Stored) (index : List Rid) : Type 0 where
  pub ordered : List Stored
  pub is : IsIndex items index ordered

-- whether the item of a rid is in a directory
abbrev pub is_inside : List Stored → Rid → Rid → Bool
is_inside items directory rid = says (λ s. s.parent.0 == directory.0) (stored_at items rid)

abbrev pub children : Rid → List Stored → List Stored
children rid ordered = filter (λ s. s.parent.0 == rid.0) ordered

-- what is told of the item with the rid
abbrev pub told_at : List Stored → Rid → Option Entry
told_at items rid = option_map entry_told (stored_at items rid)

-- none of them is at the place
abbrev pub IsFree : Rid → List ℕ → List Stored → Type 0
IsFree parent name ordered = (s : Stored) → Has ordered s → against parent name s ≡ Equal → ⊥

-- Each item but the root has a directory as its parent, live or dead.
abbrev pub StandInDirectories : List Stored → Type 0
StandInDirectories items = (s : Stored) → Has items s → (s.rid.0 == 1) ≡ false → says (λ t. t.directory) (stored_at items s.parent) ≡ true

-- items as they are kept, with the index beside them, how many live, and how many bytes are held
pub record IsShelf (items : List Stored) (index : List Rid) (live held : ℕ) : Type 0 where
  pub indexed : IsIndexed items index
  pub lives : live ≡ count_by (λ s. s.live) items
  pub holds : held ≡ sum_by held_len items
  pub within : held ≤ 536870912
  pub directories : StandInDirectories items
