use Rattle.std.proofs.Common.{◌+◌, ◌≤◌, length}
use Rattle.cf_script.specs.Script.{lines_of}
use Rattle.cf_pair_script.proofs.LinesRead.{HasRead}
use Rattle.cf_pair_script.proofs.scripts.read_lines.Given as goal

abbrev pub invariant-loop-rest : goal.invariant-loop-rest
invariant-loop-rest l = HasRead (lines_of l.text) l.events.items (lines_of l.rest) l.number × (l.number + length l.rest ≤ length l.text)

abbrev pub decreases-loop-rest : goal.decreases-loop-rest
decreases-loop-rest l = length l.rest
