-- A state that a pass finds when all that its feed reports is known.
use Rattle.std.specs.Prelude.{false, [], Some, ◌<◌, ◌≤◌, ◌∷◌, ◌≡◌}
use Rattle.cf_model.specs.Items.{Item, item_of}
use Rattle.cf_model.specs.LookUp.{item_line}
use Rattle.cf_model.specs.Skips.{in_use}
use Rattle.cf_model.specs.State.{State, book_now, items_now}
use Rattle.cf_model.specs.Store.{Stored}
use Rattle.cf_model_convergence.specs.Matching.{IsBelow}
use Rattle.cf_model_convergence.specs.Resting.{IsKnown, IsTargetOf}
use Rattle.cf_model_convergence.specs.Tidy.{IsTidy}

-- Items are trees, and no parent is in use. What is known of each target is right, but for one that the cursor has not passed of an item in use. No upload is on its way, and nothing is held
-- back.
pub record IsReady (s : State) : Type 0 where
  pub tidy : IsTidy s.link.remote
  pub tree : (i : Item) → IsBelow s i → (p : Item) × (item_of (items_now s) i.parent ≡ Some p) × (item_line (items_now s) i.id ≡ i.id.0 ∷ item_line (items_now s) p.id)
  pub passed : (i : Item) (r : Stored) → IsBelow s i → IsTargetOf s i r → r.changed ≤ (book_now s).cursor → IsKnown (book_now s) i r
  pub ahead : (i : Item) (r : Stored) → IsBelow s i → in_use s i.id ≡ false → IsTargetOf s i r → (book_now s).cursor < r.changed → IsKnown (book_now s) i r
  pub idle : (i p : Item) → IsBelow s i → item_of (items_now s) i.parent ≡ Some p → in_use s p.id ≡ false
  pub none : (book_now s).entries ≡ []
  pub items_free : s.volatile.held_items ≡ []
  pub tombstones_free : s.volatile.held_tombstones ≡ []
