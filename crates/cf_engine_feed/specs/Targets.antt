-- The local items by the item of the remote that each is.
use Rattle.std.specs.Prelude.{ℕ, Bool, false, ◌==◌, List, Option, find, cond, Some, None, ◌≡◌, ◌&&◌}
use Rattle.cf_base.specs.declared.ids.ItemId.{ItemId}
use Rattle.cf_base.specs.declared.ids.Rid.{Rid}
use Rattle.cf_engine_feed.specs.Indexes.{IsIndex, Says, target_at}
use Rattle.cf_engine_feed.specs.declared.indexes.Targets.{Targets}
use Rattle.cf_engine_feed_plan.specs.Premises.{id_of}
use Rattle.cf_model.specs.Identities.{has_target}
use Rattle.cf_model.specs.Items.{Item}
use Rattle.cf_table.specs.Tables.{MeansAll}
use Rattle.cf_table.specs.declared.rows.Row.{Row}
use Rattle.cf_tree.specs.Trees.{RiseFrom}

-- a directory whose entries have come, which this item of the remote is
abbrev pub is_parent_of : Rid → Item → Bool
is_parent_of parent i = has_target i parent && i.directory && i.populated

-- it is the first item by id that passes the test
abbrev pub IsFirst : (Item → Bool) → List Row → Option ItemId → Type 0
IsFirst test rows found = (items : List Item) → MeansAll rows items → found ≡ id_of (find test items)

-- the same, where the index is that of the items
abbrev pub IsFirstBy : (Item → Bool) → Targets → List Row → Option ItemId → Type 0
IsFirstBy test targets rows found = (items : List Item) → MeansAll rows items → RiseFrom 1 items → IsIndex targets (target_at items) → found ≡ id_of (find test items)

-- the id of a directory whose entries have come
abbrev pub open_id : Row → Option ItemId
open_id r = cond (r.dir && r.populated) (Some r.id) None

-- The index of items in which this one alone was another becomes that of the rows' items.
abbrev pub Refreshes : ItemId → ℕ → List Row → Targets → Targets → Type 0
Refreshes item before rows old new =
    (items : List Item) (f : ItemId → ℕ) → MeansAll rows items → f item ≡ before → ((d : ItemId) → (d.0 == item.0) ≡ false → target_at items d ≡ f d) → IsIndex old f → IsIndex new (target_at items)

-- the same, where the entry of the item of the remote is known
abbrev pub IsFirstSaid : (Item → Bool) → Rid → List Row → ℕ → Option ItemId → Type 0
IsFirstSaid test rid rows id found = (items : List Item) → MeansAll rows items → RiseFrom 1 items → (rid.0 == 0) ≡ false → Says (Some id) (target_at items) rid.0 → found ≡ id_of (find test items)
