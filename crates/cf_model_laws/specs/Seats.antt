-- Which item is where: of what kind it is here, and of which items calls speak.
use Rattle.std.specs.Prelude.{Bool, true, false, List, Some, is_some, ◌≡◌, ◌≤◌, ◌⊎◌}
use Rattle.std.specs.List.{list_any}
use Rattle.cf_base.specs.declared.ids.Handle.{Handle}
use Rattle.cf_base.specs.declared.ids.ItemId.{ItemId}
use Rattle.cf_model.specs.Items.{Item, item_of}
use Rattle.cf_model.specs.Requests.{Live, is_list, is_list_wait, live_of}
use Rattle.cf_model.specs.State.{Filter, Open}
use Rattle.cf_model.specs.Waits.{Need, opened_by}

-- The item is here, a directory or a file; or it is the root, a directory.
abbrev pub IsSeated : List Item → ItemId → Bool → Type 0
IsSeated items id directory = ((i : Item) × (item_of items id ≡ Some i) × (i.directory ≡ directory)) ⊎ ((id.0 ≡ 1) × (directory ≡ true))

-- the item is not the root: it has a parent, or another id
abbrev pub IsBelowRoot : List Item → ItemId → Type 0
IsBelowRoot items item = (item.0 ≡ 1 → ⊥) ⊎ ((i : Item) × (item_of items item ≡ Some i) × (1 ≤ i.parent.0))

-- a list ask is live on the item
abbrev pub IsListed : Filter → ItemId → Type 0
IsListed x item = (a : Live) × (live_of x.waiting.asks a.ask.key ≡ Some a) × (is_list a.ask.kind ≡ true) × (a.ask.item.0 ≡ item.0)

-- a handle is open on the item
abbrev pub IsOpenOn : Filter → ItemId → Type 0
IsOpenOn x item = (h : Handle) × (o : Open) × (opened_by h x ≡ Some o) × (o.item ≡ item)

-- a byte of the item is here
abbrev pub HasByte : Filter → ItemId → Type 0
HasByte x item = (i : Item) × (item_of x.volume.items item ≡ Some i) × (list_any is_some i.held ≡ true)

-- A list wait is of a directory, another of a file, or of an item that is open or of which a byte is here. None but one of a file has a background wait
-- beside it.
pub record NeedsWell (n : Need) (x : Filter) : Type 0 where
  pub on : IsSeated x.volume.items n.item (is_list_wait n.kind) ⊎ ((is_list_wait n.kind ≡ false) × (IsOpenOn x n.item ⊎ HasByte x n.item))
  pub alone : n.background ≡ true → is_list_wait n.kind ≡ false
