use Rattle.std.proofs.Common.{◌≡◌, ◌++◌, length}
use Rattle.cf_gen.specs.Lines.{text_of}
use Rattle.cf_gen.proofs.prints.print.Given as goal

abbrev pub invariant-loop-rest : goal.invariant-loop-rest
invariant-loop-rest l = l.text.items ++ text_of l.rest ≡ text_of l.lines

abbrev pub decreases-loop-rest : goal.decreases-loop-rest
decreases-loop-rest l = length l.rest
