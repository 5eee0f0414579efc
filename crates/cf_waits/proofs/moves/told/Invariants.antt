use Rattle.std.proofs.Common.{◌≡◌, ◌++◌, drop}
use Rattle.cf_waits.proofs.moves.told.Given as goal

-- what is told so far, and the rest, are all
abbrev pub invariant-loop-e : goal.invariant-loop-e
invariant-loop-e l = l.out.items ++ drop l.e-index l.ended ≡ l.ended
