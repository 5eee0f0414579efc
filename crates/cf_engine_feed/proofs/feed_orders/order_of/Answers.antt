use Rattle.std.proofs.Common.{◌≡◌, ◌∙◌, List, ap, subst, sym}
use Rattle.std.specs.Prelude.{Option}
use Rattle.cf_base.specs.declared.ids.ItemId.{ItemId}
use Rattle.cf_engine_feed.specs.Indexes.{IsIndex, target_at}
use Rattle.cf_engine_feed.specs.Turns.{entries_at}
use Rattle.cf_engine_feed_plan.specs.Orders.{AreKnown, places}
use Rattle.cf_engine_feed.proofs.FeedOrder.{places_are}
use Rattle.cf_engine_feed.proofs.PlannedTurns.{if_ok_on}
use Rattle.cf_model.specs.Feeds.{in_turn}
use Rattle.cf_model.specs.Items.{Item}
use Rattle.cf_table.specs.Tables.{MeansAll}
use Rattle.cf_tree.specs.Trees.{IsTree}
use Rattle.cf_engine_feed.proofs.feed_orders.order_of.Goals as goal

pub returns : goal.returns
returns c = if_ok_on (λ (v : _). (items : List Item) → MeansAll c.args.rows.now.rows items → IsTree items → AreKnown items c.args.entries.now c.as_slice.result.now → v.items ≡ places items c.args.entries.now)
    (λ (v : _). (items : List Item) → MeansAll c.args.rows.now.rows items → IsTree items → IsIndex c.args.targets.now (target_at items) → entries_at c.args.entries.now v.items ≡ in_turn items c.args.entries.now) c.order-places.result
    (λ v h items m t index. ap (entries_at c.args.entries.now) (h items m t (subst (λ (l : List (Option ItemId)). AreKnown items c.args.entries.now l) (sym c.as_slice.ensures.value) (c.in_ok-known.ensures items m t.order index))) ∙ places_are items c.args.entries.now)
    c.order-places.ensures
