use Rattle.cf_engine_passes.proofs.CountedLeft.{Counted}
use Rattle.cf_engine_passes.proofs.unsettled.count_left.Given as goal

abbrev pub invariant-loop-row : goal.invariant-loop-row
invariant-loop-row g l = Counted g.S.Steps.sense l.s l.rows l.row-index l.count
