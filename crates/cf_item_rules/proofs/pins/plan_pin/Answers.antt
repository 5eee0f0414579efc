use Rattle.std.proofs.Common.{◌≡◌, ◌∙◌, List, Some}
use Rattle.std.proofs.lemmas.Result.{IfOk-weaker}
use Rattle.cf_base.specs.declared.changes.Change.{Change}
use Rattle.cf_model.specs.Items.{Item, item_of}
use Rattle.cf_model.specs.Plans.{plan_pin}
use Rattle.cf_table.specs.Tables.{MeansAll}
use Rattle.cf_tree.specs.Trees.{IsTree}
use Rattle.cf_item_rules.specs.PinStates.{set_each}
use Rattle.cf_item_rules.proofs.Reaching.{plan_is}
use Rattle.cf_item_rules.proofs.pins.plan_pin.Goals as goal

pub returns : goal.returns
returns c =
    IfOk-weaker c.set_each.result (λ (list : List Change). list ≡ set_each c.args.rows.now.rows c.state_for-state.result c.as_slice.result.now)
    (λ (list : List Change). (items : List Item) (i : Item) → MeansAll c.args.rows.now.rows items → IsTree items → item_of items c.args.id ≡ Some i → list ≡ plan_pin items i c.args.state c.args.reach)
    (λ list h items i m t e. h ∙ (λ k. set_each c.args.rows.now.rows (c.state_for-state.ensures k) (c.as_slice.ensures.value k)) ∙ plan_is c.args.rows.now.rows items c.args.id i c.args.state c.args.reach c.in_ok-ids.ids.items m t e (c.in_ok-ids.ensures items i m t e))
    c.set_each.ensures
