-- What a feed's turns leave where they report nothing.
use Rattle.std.specs.Prelude.{Bool, List, true, false, None, Some, ◌==◌, ◌≡◌, ◌⊎◌}
use Rattle.cf_base.specs.declared.items.SeenPath.{SeenPath}
use Rattle.cf_base.specs.declared.ids.ItemId.{ItemId}
use Rattle.cf_base.specs.declared.messages.Entry.{Entry}
use Rattle.cf_model.specs.Books.{seen_of, with_seen}
use Rattle.cf_model.specs.Feeds.{is_newer, is_seen_so, parent_here, seen_entry}
use Rattle.cf_model.specs.Identities.{by_target}
use Rattle.cf_model.specs.Items.{Item}
use Rattle.cf_model.specs.Skips.{in_use, with_book}
use Rattle.cf_model.specs.State.{State, book_now, items_now}
use Rattle.cf_model_laws.specs.Invariant.{All, Among}

-- The items are as they were, the entry's path is the one seen of the item, and its version is not newer than a file's base.
pub record IsTakenIn (e : Entry) (i : Item) (s t : State) : Type 0 where
  pub items : items_now t ≡ items_now s
  pub seen : is_seen_so t i e ≡ true
  pub version : is_newer i e ≡ false

-- Nothing but the path that is seen of the item may be another.
abbrev pub SeesOnly : Entry → Item → State → State → Type 0
SeesOnly e i s t = (t ≡ s) ⊎ (t ≡ with_book (with_seen (seen_entry i.id e)) s)

-- A turn that reports nothing: its item is in use, and it is postponed; it is dead or its parent is not here, and no item is its; or
-- it is taken in.
abbrev pub IsTurnOf : Entry → State → Bool → State → Type 0
IsTurnOf e s postponed t =
    ((postponed ≡ true) × (t ≡ s) × (i : Item) × (by_target (items_now s) e.rid ≡ Some i) × (in_use s i.id ≡ true))
    ⊎ ((postponed ≡ false) × (t ≡ s) × (by_target (items_now s) e.rid ≡ None) × ((e.live ≡ false) ⊎ (parent_here s e ≡ None)))
    ⊎ ((postponed ≡ false) × (e.live ≡ true) × (i : Item) × (by_target (items_now s) e.rid ≡ Some i) × IsTakenIn e i s t × SeesOnly e i s t)

-- What all turns of a feed leave of an entry, where they report nothing: its item is in use, and an entry was postponed; or no item is
-- its, and it is dead or its parent is not here; or it is taken in.
abbrev pub IsLeftBy : Bool → Entry → State → State → Type 0
IsLeftBy postponed e s t =
    ((postponed ≡ true) × (i : Item) × (by_target (items_now s) e.rid ≡ Some i) × (in_use s i.id ≡ true))
    ⊎ ((by_target (items_now s) e.rid ≡ None) × ((e.live ≡ false) ⊎ (parent_here s e ≡ None)))
    ⊎ ((e.live ≡ true) × (i : Item) × (by_target (items_now s) e.rid ≡ Some i) × IsTakenIn e i s t)

-- the state with these paths seen
abbrev pub with_paths : List SeenPath → State → State
with_paths ps s = with_book (λ b. record b { seen = ps }) s

-- the item is that of none of the entries
abbrev pub IsOfNone : List Entry → List Item → ItemId → Type 0
IsOfNone es items id = (e : Entry) → Among e es → (i : Item) → by_target items e.rid ≡ Some i → (i.id.0 == id.0) ≡ false

-- Nothing but paths seen of the entries' items is another, and each entry is left so.
pub record AreTurned (es : List Entry) (postponed : Bool) (s t : State) : Type 0 where
  pub paths : List SeenPath
  pub same : t ≡ with_paths paths s
  pub entries : All (λ e. IsLeftBy postponed e s t) es
  pub others : (id : ItemId) → IsOfNone es (items_now s) id → seen_of (book_now t) id ≡ seen_of (book_now s) id
