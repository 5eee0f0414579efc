-- What an item's turn is.
use Rattle.std.specs.Prelude.{◌≡◌, ◌<◌, ◌≤◌, ◌⊎◌, ℕ, Bool, true, false, List, Option, Some, None, drop, get_or, length, map}
use Rattle.cf_base.specs.declared.ids.ItemId.{ItemId}
use Rattle.cf_engine_queue.specs.Books.{tombstone_value}
use Rattle.cf_engine_queue.specs.declared.uploads.Tombstone as queue
use Rattle.cf_engine_steps.specs.Answering.{Whole}
use Rattle.cf_engine_uploads.specs.declared.turns.Course.{Course}
use Rattle.cf_engine_uploads.specs.declared.turns.Turn.{Turn}
use Rattle.cf_engine_uploads.specs.declared.turns.Course.TheVariants.{Nothing, New, Moved, Changed, Settled}
use Rattle.cf_filter_steps.specs.Answering.{IsAt, Sense}
use Rattle.cf_model.specs.Arrows.{Arrow, each, ret, unit}
use Rattle.cf_model.specs.Books.{MoveItem, Tombstone}
use Rattle.cf_model.specs.Items.{Item}
use Rattle.cf_model.specs.LookUp.{by_depth}
use Rattle.cf_model.specs.Pushes.{is_left_out, mark_item, push_by_case, push_item, push_lists, push_tombstone, push_turn, upload, upload_new}
use Rattle.cf_model.specs.State.{State, items_now}
use Rattle.cf_table.specs.Means.{Means}
use Rattle.cf_table.specs.declared.rows.Row.{Row}

-- what is done with an item that is there
abbrev pub done_by : Course → Item → Arrow State (Unit {0})
done_by Nothing i = ret unit
done_by New i = upload_new i
done_by Moved i = push_item MoveItem i
done_by Changed i = upload i
done_by Settled i = mark_item i.id

abbrev pub is_nothing : Course → Bool
is_nothing Nothing = true
is_nothing _ = false

-- it is the case of the item that the row means, which stands there
pub record IsCase {X : Type 0} (S : Sense X) (row : Row) (x : X) (c : Course) : Type 0 where
  pub is : (s : State) (i : Item) → S.means x s.filter → Means row i → IsAt i.id i s.filter → done_by c i s ≡ push_by_case i s

-- whether that item is left out
pub record IsLeftOut {X : Type 0} (W : Whole X) (row : Row) (x : X) (b : Bool) : Type 0 where
  pub is : (s : State) (i : Item) → W.means x s → Means row i → b ≡ is_left_out s i

-- The turn is nothing, or this of an item that is there.
abbrev pub IsTurn : Course → ItemId → State → Type 0
IsTurn Nothing id s = ret unit s ≡ push_turn id s
IsTurn c id s = (i : Item) × IsAt id i s.filter × (done_by c i s ≡ push_turn id s)

pub record PlansTurn {X : Type 0} (W : Whole X) (id : ItemId) (x : X) (c : Course) : Type 0 where
  pub is : (s : State) → W.means x s → IsTurn c id s

-- the turns from one place on are those from another on
abbrev pub SameTurns : {X : Type 0} → Whole X → List ItemId → ℕ → ℕ → X → Type 0
SameTurns W ids from to x = (s : State) → W.means x s → each push_turn (drop from ids) s ≡ each push_turn (drop to ids) s

-- The turns from a place on are those from an item on that has something to do. Where there is no such item, they are nothing.
abbrev pub IsNext : {X : Type 0} → Whole X → List ItemId → ℕ → X → Option Turn → Type 0
IsNext W ids from x None = SameTurns W ids from (length ids) x
IsNext W ids from x (Some t) =
    (from ≤ t.place) × (t.place < length ids) × SameTurns W ids from t.place x × ((d : ItemId) → PlansTurn W (get_or ids t.place d) x t.course) × (is_nothing t.course ≡ false)

-- it has something to do
abbrev pub HasTurn : {X : Type 0} → Whole X → ItemId → X → Type 0
HasTurn W id x = (c : Course) × (is_nothing c ≡ false) × PlansTurn W id x c

-- whether these rows' items, or all items, have nothing to do
abbrev pub AreIdle : {X : Type 0} → Whole X → List Row → X → Bool → Type 0
AreIdle W rows x true = (k : ℕ) (d : Row) → k < length rows → PlansTurn W (get_or rows k d).id x Nothing
AreIdle W rows x false = (id : ItemId) × HasTurn W id x

abbrev pub IsIdle : {X : Type 0} → Whole X → X → Bool → Type 0
IsIdle W x true = (id : ItemId) → PlansTurn W id x Nothing
IsIdle W x false = (id : ItemId) × HasTurn W id x

-- whether there is no tombstone either
abbrev pub IsDone : {X : Type 0} → Whole X → List queue.Tombstone → X → Bool → Type 0
IsDone W ts x true = (length ts ≡ 0) × IsIdle W x true
IsDone W ts x false = (0 < length ts) ⊎ IsIdle W x false

-- all turns, of these tombstones and of the items as they are now
abbrev pub push_with : List Tombstone → Arrow State (Unit {0})
push_with ts s = push_lists ts (map (λ i. i.id) (by_depth (items_now s) (items_now s))) s

-- the turn of a tombstone as its record has it
abbrev pub push_one : queue.Tombstone → Arrow State (Unit {0})
push_one t = push_tombstone (tombstone_value t)
