use Rattle.std.proofs.Common.{sym, subst}
use Rattle.cf_model.specs.Feeds.{parent_here}
use Rattle.cf_model.specs.Identities.{by_target}
use Rattle.cf_model.specs.State.{items_now}
use Rattle.cf_engine_feed_plan.specs.Turns.{IsTurn}
use Rattle.cf_engine_feed_plan.specs.declared.entry_steps.Turn.{Turn}
use Rattle.cf_engine_feed_plan.proofs.TurnsAre.{item_there, parent_there, turn_is}
use Rattle.std.specs.Prelude.{option_copied}
use Rattle.cf_engine_feed_plan.proofs.turns.steps.Goals as goal

pub returns : goal.returns
returns c = λ s proper of ks.
    subst (λ (v : Turn). IsTurn c.args.last c.args.entry.now s v)
    (sym (c.in_ok-turn.ensures (items_now s) (by_target (items_now s) c.args.entry.now.rid) (parent_here s c.args.entry.now) of.rows of.tree
    (record { is = ks.is_item; there = λ i h. item_there (items_now s) c.args.entry.now i of.tree h })
    (record { is = ks.is_parent; there = λ i h. parent_there (items_now s) c.args.entry.now i of.tree h })))
    (turn_is c.args.rows.now c.args.policy.now c.args.known.now.item c.args.known.now.parent (option_copied c.args.known.now.seen) c.args.known.now.in_use c.args.last c.args.entry.now s proper of ks)
