use Rattle.cf_engine_feed.specs.Plans.{IsFound, PlansTurn}
use Rattle.cf_engine_feed_plan.specs.Premises.{IsProper}
use Rattle.cf_engine_feed_plan.specs.Turns.{IsTurn}
use Rattle.cf_engine_feed_plan.specs.declared.entry_steps.Turn.{Turn}
use Rattle.cf_model.specs.State.{State}
use Rattle.std.specs.Prelude.{option_copied}
use Rattle.cf_engine_feed.proofs.PlannedTurns.{found_of, if_ok_on}
use Rattle.cf_engine_feed.proofs.plans.plan.Goals as goal

pub returns : goal.returns
returns g c = if_ok_on (λ (turn : Turn). (s' : State) → g.S.Steps.sense.means c.args.s.now s'.filter → IsProper c.args.entry.now → IsFound c.in_ok-item.item c.in_ok-parent.parent (option_copied c.as_ref.result) c.args.entry.now s' → IsTurn c.args.last c.args.entry.now s' turn)
    (PlansTurn g.S.Steps.sense c.args.last c.args.entry.now c.args.s.now c.args.targets.now) c.steps_of-turn.result
    (λ turn h. record {
      is = λ s m index. h s m c.in_ok-check_parent.ensures
          (found_of g.S.Steps.sense c.args.s.now c.rows-rows.result.now c.args.targets.now c.in_ok-item.item c.in_ok-parent.parent c.in_ok-path.path (option_copied c.as_ref.result) c.args.entry.now s c.rows-rows.ensures.means c.in_ok-item.ensures c.in_ok-parent.ensures c.in_ok-path.ensures c.as_ref.ensures.value m index);
    })
    c.steps_of-turn.ensures
