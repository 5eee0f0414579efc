use Rattle.std.proofs.Common.{ap, ◌∙◌}
use Rattle.cf_engine_feed_plan.specs.Premises.{id_of}
use Rattle.cf_engine_feed.proofs.PlannedTurns.{is_of}
use Rattle.cf_engine_feed.proofs.plans.steps_of.Goals as goal

pub returns : goal.returns
returns g c = λ s m proper found. c.in_ok-turn.ensures s proper (is_of g.S.Steps.sense c.args.s.now c.rows.result.now c.policy.result s c.rows.ensures.means c.policy.ensures m)
    (record { is_item = found.item; is_parent = found.parent; is_seen = found.path; is_used = λ i h. c.is_used_of.ensures.is s i.id m (found.item ∙ ap id_of h) })
