use Rattle.std.proofs.Common.{◌*◌, ◌^◌, arith, min}
use Rattle.cf_ask_rule.proofs.Nearby.{around_runs, around_wider}
use Rattle.cf_ask_rule.proofs.changed_plans.positions_in.Goals as goal
use Rattle.cf_ask_rule.specs.Places.{places}

pub returns : goal.returns
returns c =
    around_wider (4096 * min c.hull-blocks.result.start (2 ^ 32)) (4096 * min c.hull-blocks.result.end (2 ^ 32)) (4096 * c.min.result) (4096 * c.min-2.result) (places c.args.runs.now) (omega (arith, c.min.ensures)) (omega (arith, c.min-2.ensures))
    (around_runs c.hull-blocks.result.start c.hull-blocks.result.end c.args.runs.now c.hull-blocks.ensures.start c.hull-blocks.ensures.end)
