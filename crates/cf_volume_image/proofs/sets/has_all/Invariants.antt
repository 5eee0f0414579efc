use Rattle.std.proofs.Common.{drop}
use Rattle.cf_volume_image.specs.Sets.{HasAll}
use Rattle.cf_volume_image.proofs.sets.has_all.Given as goal

abbrev pub invariant-loop-run : goal.invariant-loop-run
invariant-loop-run l = record {
  to : HasAll l.outer (drop l.run-index l.inner) → HasAll l.outer l.inner;
  from : HasAll l.outer l.inner → HasAll l.outer (drop l.run-index l.inner);
}
