use Rattle.std.proofs.Common.{◌≡◌, ◌++◌, drop}
use Rattle.cf_table.specs.Spelling.{spell_spans}
use Rattle.cf_table.proofs.spelling.put_spans.Given as goal

abbrev pub invariant-loop-run : goal.invariant-loop-run
invariant-loop-run l = l.out ++ spell_spans (drop l.run-index l.runs) ≡ l.fn.out ++ spell_spans l.runs
