-- A change of a pin state fits any rows.
use Rattle.std.proofs.Common.{suc, zero, ◌+◌, Bool, true, false, not, List, [], ◌∷◌, ◌++◌, arith}
use Rattle.std.specs.Prelude.{All}
use Rattle.cf_base.specs.declared.changes.Change.{Change}
use Rattle.cf_base.specs.declared.changes.Change.TheVariants as change
use Rattle.cf_base.specs.declared.items.Pin.{Pin}
use Rattle.cf_base.specs.declared.items.Reach.{Reach}
use Rattle.cf_model.specs.Effects.{changed, pinned}
use Rattle.cf_model.specs.Items.{Item}
use Rattle.cf_model.specs.Plans.{pin_changes, plan_pin, reached, same_pin, stored_pin}
use Rattle.cf_model.specs.Words.{when}
use Rattle.cf_table.specs.Changing.{Fits}
use Rattle.cf_table.specs.declared.rows.Row.{Row}

one_more : (rows : List Row) (b : Bool) (i : Item) (state : Pin) (cs : List Change) → All (λ c. Fits c rows) cs → All (λ c. Fits c rows) (when b (change.SetPin i.id state ∷ []) ++ cs)
one_more rows false i state cs h = h
one_more rows true i state cs h = first where
  first : All (λ c. Fits c rows) (change.SetPin i.id state ∷ cs)
  first zero d lt = λ k r less e. tt
  first (suc k) d lt = h k d (omega arith)

changes_fit : (rows : List Row) (asked : Pin) (items list : List Item) → All (λ c. Fits c rows) (pin_changes asked items list)
changes_fit rows asked items [] = λ k d lt. absurd (omega arith)
changes_fit rows asked items (i ∷ is) =
    one_more rows (not (same_pin (stored_pin asked items i) i.pin)) i (stored_pin asked items i) _ (changes_fit rows asked (changed i.id (pinned (stored_pin asked items i)) items) is)

pub pins_fit : (items : List Item) (i : Item) (state : Pin) (reach : Reach) (rows : List Row) → All (λ c. Fits c rows) (plan_pin items i state reach)
pins_fit items i state reach rows = changes_fit rows state items (reached items i reach)
