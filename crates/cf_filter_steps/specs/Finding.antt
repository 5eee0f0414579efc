-- What a look-up finds, and what a plan on it is.
use Rattle.std.specs.Prelude.{◌≡◌, ◌<◌, ◌==◌, ℕ, false, true, List, Some, Result, Ok, Err}
use Rattle.cf_base.specs.declared.changes.Change.{Change}
use Rattle.cf_base.specs.declared.codes.Code.{Code}
use Rattle.cf_base.specs.declared.codes.CallError.{CallError}
use Rattle.cf_base.specs.declared.codes.CallError.TheVariants as fail
use Rattle.cf_base.specs.declared.ids.ItemId.{ItemId}
use Rattle.cf_model.specs.Items.{Item, item_of}
use Rattle.cf_model.specs.LookUp.{Place, depth_at}
use Rattle.cf_model.specs.State.{Filter}
use Rattle.cf_item_rules.specs.PlaceholderPlans.{IsPlan}
use Rattle.cf_model.specs.Texts.{is_name}
use Rattle.cf_filter_steps.specs.Answering.{IsAt, Sense}
use Rattle.cf_filter_steps.specs.Suiting.{IsOpenDirectory}
use Rattle.cf_table.specs.Tables.{MeansAll, Table}

-- The rows mean the items, and the id that the next one gets is known.
pub record HasRows {X : Type 0} (S : Sense X) (x : X) (t : Table) : Type 0 where
  pub rows : (s : Filter) → S.means x s → MeansAll t.rows s.volume.items
  pub next : (s : Filter) → S.means x s → t.next ≡ s.volume.next_item

-- the item with this id was found, or there was this refusal
abbrev pub Found : List Item → Result ItemId Code → Result Item Code → Type 0
Found items (Ok id) q = (i : Item) × (q ≡ Ok i) × (item_of items id ≡ Some i)
Found items (Err c) q = q ≡ Err c

pub record Finds {X : Type 0} (S : Sense X) (v : Filter → Result Item Code) (x : X) (r : Result ItemId Code) : Type 0 where
  pub is : (s : Filter) → S.means x s → Found s.volume.items r (v s)

-- the same of an item that is not the root
abbrev pub FoundBelow : List Item → Result ItemId Code → Result Item Code → Type 0
FoundBelow items (Ok id) q = (i : Item) × (q ≡ Ok i) × (item_of items id ≡ Some i) × ((id.0 == 1) ≡ false)
FoundBelow items (Err c) q = q ≡ Err c

pub record FindsBelow {X : Type 0} (S : Sense X) (v : Filter → Result Item Code) (x : X) (r : Result ItemId Code) : Type 0 where
  pub is : (s : Filter) → S.means x s → FoundBelow s.volume.items r (v s)

-- a name in an open directory, at most 32 names from the root
pub record IsPlace (items : List Item) (id : ItemId) (name : List ℕ) (i : Item) : Type 0 where
  pub there : item_of items id ≡ Some i
  pub opened : IsOpenDirectory i
  pub named : is_name name ≡ true
  pub high : depth_at items id < 32

-- a place in the directory with this id was found, or there was this refusal, or no memory
abbrev pub FoundPlace : List Item → Result (ItemId × List ℕ) CallError → Result Place Code → Type 0
FoundPlace items (Ok p) q = (i : Item) × (q ≡ Ok (record { parent = i; name = p.1 })) × IsPlace items p.0 p.1 i
FoundPlace items (Err (fail.No c)) q = q ≡ Err c
FoundPlace items (Err fail.OutOfMemory) q = Unit {0}

pub record FindsPlace {X : Type 0} (S : Sense X) (v : Filter → Result Place Code) (x : X) (r : Result (ItemId × List ℕ) CallError) : Type 0 where
  pub is : (s : Filter) → S.means x s → FoundPlace s.volume.items r (v s)

-- the plan of a call on the item with this id
pub record Plans {X : Type 0} (S : Sense X) (id : ItemId) (plan : Item → Filter → Result (List Change) Code) (x : X) (r : Result (List Change) CallError) : Type 0 where
  pub is : (s : Filter) (i : Item) → S.means x s → IsAt id i s → IsPlan r (plan i s)
