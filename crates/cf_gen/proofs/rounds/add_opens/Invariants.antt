use Rattle.std.proofs.Common.{◌≡◌, ◌++◌, ◌-◌}
use Rattle.cf_gen.specs.Scripts.{opens}
use Rattle.cf_gen.proofs.rounds.add_opens.Given as goal

abbrev pub invariant-loop-file : goal.invariant-loop-file
invariant-loop-file l = l.lines.items ++ opens (8 - l.file) l.file ≡ l.fn.lines.items ++ opens 8 0
