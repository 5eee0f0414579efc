use Rattle.cf_engine_uploads.proofs.StoredPins.{ends_up, fuel_ends, stored_above, stored_here}
use Rattle.std.proofs.Common.{arith, sym, ◌∙◌}
use Rattle.cf_engine_uploads.proofs.exclusions.is_line_stored.Goals as goal

pub returns-in_default : goal.returns-in_default
returns-in_default c = ends_up c.args.rows.now.rows c.args.id c.loop-depth.at c.loop-depth._depth c.loop-depth.invariant (sym c.parent_of.ensures ∙ c.in_default.is)

pub returns-then-is_stored : goal.returns-then-is_stored
returns-then-is_stored c = stored_here c.args.rows.now.rows c.args.id c.loop-depth.at c.loop-depth._depth c.loop-depth.invariant c.in-Some.parent (omega arith) (sym c.parent_of.ensures ∙ c.in-Some.is) (sym c.is_stored.ensures ∙ c.if-is_stored.true)

pub loop-depth-preserved : goal.loop-depth-preserved
loop-depth-preserved c = stored_above c.args.rows.now.rows c.args.id c.loop-depth.at c.loop-depth._depth c.loop-depth.invariant c.in-Some.parent (omega arith) (sym c.parent_of.ensures ∙ c.in-Some.is) (sym c.is_stored.ensures ∙ c.if-is_stored.false)

pub returns : goal.returns
returns c = fuel_ends c.args.rows.now.rows c.args.id c.loop-depth.at c.loop-depth._depth c.loop-depth.invariant (omega arith)
