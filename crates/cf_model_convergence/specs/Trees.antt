-- Items that are trees, and items that are used as what they are.
use Rattle.std.specs.Prelude.{ℕ, zero, suc, Bool, true, false, List, [], length, take, Some, ◌&&◌, ◌==◌, ◌≡◌, ◌≤◌}
use Rattle.std.specs.List.{list_any}
use Rattle.cf_base.specs.declared.changes.Change.{Change}
use Rattle.cf_base.specs.declared.ids.ItemId.{ItemId}
use Rattle.cf_base.specs.declared.ids.Usn.{Usn}
use Rattle.cf_base.specs.declared.waits.Ask.{Ask}
use Rattle.cf_model.specs.Items.{Item, item_of}
use Rattle.cf_model.specs.Logs.{items_of}
use Rattle.cf_model.specs.Missing.{Wait}
use Rattle.cf_model.specs.Numbers.{root_id}
use Rattle.cf_model.specs.Requests.{Waiting, is_list, is_list_wait}
use Rattle.cf_model.specs.State.{Open, State}
use Rattle.cf_model_laws.specs.Invariant.{All}
use Rattle.cf_model_laws.specs.Seats.{IsSeated}

-- so many steps lead from an item up to the root
abbrev pub Climbs : List Item → ℕ → ItemId → Type 0
Climbs items zero id = id.0 ≡ 1
Climbs items (suc n) id = ((id.0 ≡ 1) → ⊥) × (i : Item) × (item_of items id ≡ Some i) × Climbs items n i.parent

abbrev pub IsUnder : List Item → Item → Type 0
IsUnder items i = ((i.id.0 ≡ 1) → ⊥) → (p : Item) × (item_of items i.parent ≡ Some p) × (p.directory ≡ true)

-- The root is here. Each other item stands in a directory that is here, and so up to the root.
pub record AreTrees (items : List Item) : Type 0 where
  pub top : (i : Item) × (item_of items root_id ≡ Some i) × (i.directory ≡ true) × (i.parent.0 ≡ 0)
  pub under : All (IsUnder items) items
  pub reached : All (λ i. (n : ℕ) × Climbs items n i.id) items

-- a directory has neither bytes nor writes
abbrev pub AreBare : List Item → Type 0
AreBare items = All (λ i. i.directory ≡ true → (i.held ≡ []) × (i.writes ≡ [])) items

-- after each of the changes
abbrev pub AtAll : (List Item → Type 0) → List (Usn × Change) → Type 0
AtAll P log = (n : ℕ) → n ≤ length log → P (items_of (take n log))

-- After each of the changes items are trees, and directories are bare. Handles and waits are of files, list waits of directories.
pub record ArePlaced (log : List (Usn × Change)) (hs : List Open) (ws : List Wait) : Type 0 where
  pub trees : AtAll AreTrees log
  pub bare : AtAll AreBare log
  pub opened : All (λ o. IsSeated (items_of log) o.item false) hs
  pub waited : All (λ w. IsSeated (items_of log) w.item (is_list_wait w.kind)) ws

-- a list wait waits on the item
abbrev pub is_listing_on : List Wait → ItemId → Bool
is_listing_on ws item = list_any (λ w. (w.item.0 == item.0) && is_list_wait w.kind) ws

-- each live list ask is waited for
abbrev pub AreListsWaited : List Ask → Waiting → Type 0
AreListsWaited outbox w = All (λ a. is_list a.ask.kind ≡ true → is_listing_on w.waits a.ask.item ≡ true) w.asks

-- no list call waits
abbrev pub NoneLists : State → Type 0
NoneLists s = All (λ w. is_list_wait w.kind ≡ false) s.filter.waiting.waits
