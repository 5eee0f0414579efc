use Rattle.cf_engine_space.proofs.Fronts.{Chosen}
use Rattle.cf_engine_space.proofs.candidates.front.Given as goal

abbrev pub invariant-loop-candidate : goal.invariant-loop-candidate
invariant-loop-candidate l = Chosen l.candidates l.used l.budget l.left l.candidate-index l.chosen.items
