use Rattle.std.proofs.Common.{◌≡◌, ◌++◌, length}
use Rattle.cf_script_print.specs.Printed.{printed}
use Rattle.cf_script_print.proofs.prints.print.Given as goal

abbrev pub invariant-loop-rest : goal.invariant-loop-rest
invariant-loop-rest l = l.text.items ++ printed l.rest ≡ printed l.events

abbrev pub decreases-loop-rest : goal.decreases-loop-rest
decreases-loop-rest l = length l.rest
