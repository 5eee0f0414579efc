use Rattle.std.proofs.Common.{sym, ◌∙◌}
use Rattle.cf_volume_changes.proofs.BlocksAhead.{ahead_next}
use Rattle.cf_volume_changes.proofs.emptied_blocks.runs_past.Goals as goal

pub loop-i-preserved : goal.loop-i-preserved
loop-i-preserved c = ahead_next c.args.place c.loop-i.i c.args.runs.now (record { start = 0; len = 0 }) c.loop-i-test.true (sym c.reaches.ensures ∙ c.if-reaches.false) c.loop-i.invariant
