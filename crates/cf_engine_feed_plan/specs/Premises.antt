-- What a call is told of the state.
use Rattle.std.specs.Prelude.{Bool, false, List, Option, Some, None, ◌≡◌, ◌≤◌, ◌==◌}
use Rattle.cf_base.specs.declared.ids.ItemId.{ItemId}
use Rattle.cf_base.specs.declared.items.SeenPath.{SeenPath}
use Rattle.cf_base.specs.declared.messages.Entry.{Entry}
use Rattle.cf_base.specs.declared.policies.Policy.{Policy}
use Rattle.cf_model.specs.Books.{seen_of}
use Rattle.cf_model.specs.Feeds.{parent_here}
use Rattle.cf_model.specs.Identities.{by_target}
use Rattle.cf_model.specs.Items.{Item, item_of}
use Rattle.cf_model.specs.Skips.{in_use}
use Rattle.cf_model.specs.State.{State, book_now, items_now}
use Rattle.cf_table.specs.Means.{Means}
use Rattle.cf_table.specs.Tables.{MeansAll, Table}
use Rattle.cf_table.specs.declared.rows.Row.{Row}
use Rattle.cf_tree.specs.Trees.{IsTree}

-- a row and the item that it means, or neither
abbrev pub FoundAs : Option Row → Option Item → Type 0
FoundAs None None = Unit {0}
FoundAs None (Some i) = ⊥
FoundAs (Some r) None = ⊥
FoundAs (Some r) (Some i) = Means r i

-- the id of an item that may be there
abbrev pub id_of : Option Item → Option ItemId
id_of None = None
id_of (Some i) = Some i.id

-- an entry as it may come in a reply: it is not of its own parent
abbrev pub IsProper : Entry → Type 0
IsProper e = (e.rid.0 == e.parent.0) ≡ false

-- the rows and the policy are those of the state, whose items form a tree
pub record IsOf (t : Table) (policy : Policy) (s : State) : Type 0 where
  pub rows : MeansAll t.rows (items_now s)
  pub tree : IsTree (items_now s)
  pub next : t.next ≡ s.filter.volume.next_item
  pub some : 2 ≤ t.next.0
  pub ruled : policy ≡ s.filter.policy

-- an item that was found, by its id
pub record IsHere (items : List Item) (id : Option ItemId) (o : Option Item) : Type 0 where
  pub is : id ≡ id_of o
  pub there : (i : Item) → o ≡ Some i → item_of items i.id ≡ Some i

-- what is known of the entry is what is so in the state
pub record Knows (item parent : Option ItemId) (seen : Option SeenPath) (used : Bool) (e : Entry) (s : State) : Type 0 where
  pub is_item : item ≡ id_of (by_target (items_now s) e.rid)
  pub is_parent : parent ≡ id_of (parent_here s e)
  pub is_seen : (i : Item) → by_target (items_now s) e.rid ≡ Some i → seen ≡ seen_of (book_now s) i.id
  pub is_used : (i : Item) → by_target (items_now s) e.rid ≡ Some i → used ≡ in_use s i.id
