use Rattle.std.proofs.Common.{◌+◌, ◌-◌, ◌∙◌, ℕ, ap, arith, sym}
use Rattle.std.specs.Prelude.{map}
use Rattle.cf_scrub.specs.Ways.{climbs}
use Rattle.cf_table.specs.Spelling.{row_value}
use Rattle.cf_scrub.proofs.UpWays.{no_steps, way_ends, way_lost, way_on}
use Rattle.cf_volume_image.proofs.TreeSteps.{less_one, none_left}
use Rattle.cf_scrub.proofs.ways.climbs.Goals as goal

pub returns-in-None : goal.returns-in-None
returns-in-None c =
    sym (way_lost (map row_value c.args.rows.now.rows) (32 - c.loop.counter) (32 - (c.loop.counter + 1)) c.loop.at (less_one 32 c.loop.counter (omega arith)) c.in-None.ensures) ∙ c.loop.invariant

pub returns-then-at : goal.returns-then-at
returns-then-at c =
    sym (way_ends (map row_value c.args.rows.now.rows) (32 - c.loop.counter) (32 - (c.loop.counter + 1)) c.loop.at c.in-Some.parent (less_one 32 c.loop.counter (omega arith)) c.if-at.true c.in-Some.ensures) ∙ c.loop.invariant

pub loop-preserved : goal.loop-preserved
loop-preserved c =
    sym (way_on (map row_value c.args.rows.now.rows) (32 - c.loop.counter) (32 - (c.loop.counter + 1)) c.loop.at c.in-Some.parent (less_one 32 c.loop.counter (omega arith)) c.if-at.false c.in-Some.ensures) ∙ c.loop.invariant

pub returns : goal.returns
returns c =
    sym (no_steps (map row_value c.args.rows.now.rows) c.loop.at) ∙ ap (λ (n : ℕ). climbs (map row_value c.args.rows.now.rows) n c.loop.at) (none_left 32 c.loop.counter (omega arith)) ∙ c.loop.invariant
