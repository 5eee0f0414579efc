use Rattle.cf_engine_space.proofs.Eligible.{SoFar}
use Rattle.cf_engine_space.proofs.eligible_files.files_among.Given as goal

abbrev pub invariant-loop-row : goal.invariant-loop-row
invariant-loop-row g l = SoFar g.S.Steps.sense l.policy l.rows l.s l.row-index l.files.items
