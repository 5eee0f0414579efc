use Rattle.std.proofs.Common.{ℕ, ◌+◌, ◌-◌, ◌++◌}
use Rattle.cf_gen.specs.Scripts.{opens}
use Rattle.cf_gen.proofs.Rows.{moved, opens_more}
use Rattle.cf_gen.proofs.rounds.add_opens.Goals as goal

pub loop-file-preserved : goal.loop-file-preserved
loop-file-preserved c =
    let file : ℕ = c.loop-file.file in
    rw c.in_ok-push.ensures.items (moved c.loop-file.lines.items (c.args.lines.now.items ++ opens 8 0) (opens (8 - (file + 1)) (file + 1)) (opens (8 - file) file) _ (opens_more 8 file c.loop-file-test.true) c.loop-file.invariant)
