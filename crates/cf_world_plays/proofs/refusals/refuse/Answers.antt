use Rattle.std.proofs.Common.{rules}
use Rattle.std.specs.Prelude.{◌≢◌}
use Rattle.cf_script.specs.declared.script_errors.ScriptError.TheVariants as fails
use Rattle.cf_world_plays.proofs.Ends.{refuse_early}
use Rattle.cf_world_plays.proofs.refusals.refuse.Goals as goal

pub returns-in-Err-clause-writes : goal.returns-in-Err-clause-writes
returns-in-Err-clause-writes g c =
    let other : c.args.fail ≢ fails.OutOfMemory = search rules in
    rw c.early.ensures (refuse_early c.args.mode c.args.text.now (g.K.Sink.held c.args.sink.now) (g.K.Sink.held c.write_fail.new.sink) c.args.fail c.in-Err.fail c.requires other c.in-Err.ensures.only c.in-Err.ensures.err)
