-- Where a marked item stands.
use Rattle.std.specs.Prelude.{ℕ, true, List, [], Some, None, ◌∷◌, ◌++◌, ◌≡◌, ◌⊎◌}
use Rattle.cf_base.specs.declared.changes.Change.{Change}
use Rattle.cf_base.specs.declared.changes.Change.TheVariants as change
use Rattle.cf_base.specs.declared.ids.ItemId.{ItemId}
use Rattle.cf_base.specs.declared.ids.Usn.{Usn}
use Rattle.cf_base.specs.declared.items.Kind.{Kind}
use Rattle.cf_model.specs.Books.{Book, seen_of}
use Rattle.cf_model.specs.Identities.{stands_at_seen}
use Rattle.cf_model.specs.Items.{Item, item_of}
use Rattle.cf_model.specs.State.{State, book_now, items_now}
use Rattle.cf_model_laws.specs.Premises.{IsFair}

-- the last change is a Mark of the item, these are the changes before it
abbrev pub IsMarkedLast : List (Usn × Change) → List (Usn × Change) → ItemId → Type 0
IsMarkedLast log front item = (n : Usn) × (number : Usn) × (log ≡ front ++ (n, change.Mark item number) ∷ [])

-- the last change is the item's Make
abbrev pub IsMadeLast : List (Usn × Change) → ItemId → Type 0
IsMadeLast log item =
    (front : List (Usn × Change)) × (n : Usn) × (parent : ItemId) × (name : List ℕ) × (kind : Kind) × (size : ℕ) × (identity : List ℕ)
    × (log ≡ front ++ (n, change.Make item parent name kind size identity) ∷ [])

-- the item is there, and stands at the path seen
abbrev pub StandsAtSeen : List Item → Book → ItemId → Type 0
StandsAtSeen items b item = (i : Item) × (item_of items item ≡ Some i) × (stands_at_seen items b i ≡ true)

-- no path of the item is seen
abbrev pub IsUnseen : Book → ItemId → Type 0
IsUnseen b item = seen_of b item ≡ None

-- As long as a Make is the last change, its item stands at the path seen, or none is seen of it.
abbrev pub IsMadeAtSeen : State → Type 0
IsMadeAtSeen s = IsFair s.link → (item : ItemId) → IsMadeLast s.filter.volume.log item → StandsAtSeen (items_now s) (book_now s) item ⊎ IsUnseen (book_now s) item

-- As long as a Mark is the last change, its item stands at the path seen; or none is seen of it, and the Mark is directly behind
-- its Make: in a listing the paths come to be seen only with the last change.
abbrev pub IsMarkedAtSeen : State → Type 0
IsMarkedAtSeen s =
    IsFair s.link → (front : List (Usn × Change)) (item : ItemId) → IsMarkedLast s.filter.volume.log front item → StandsAtSeen (items_now s) (book_now s) item ⊎ (IsMadeLast front item × IsUnseen (book_now s) item)
