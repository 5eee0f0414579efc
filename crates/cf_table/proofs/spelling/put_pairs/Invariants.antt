use Rattle.std.proofs.Common.{◌≡◌, ◌++◌, drop}
use Rattle.cf_table.specs.Spelling.{spell_pairs}
use Rattle.cf_table.proofs.spelling.put_pairs.Given as goal

abbrev pub invariant-loop-pair : goal.invariant-loop-pair
invariant-loop-pair l = l.out ++ spell_pairs (drop l.pair-index l.pairs) ≡ l.fn.out ++ spell_pairs l.pairs
