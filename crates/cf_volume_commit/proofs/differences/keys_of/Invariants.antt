use Rattle.std.proofs.Common.{◌≡◌, ◌++◌, length, map}
use Rattle.cf_base.specs.declared.answers.AuxRecord.{AuxRecord}
use Rattle.cf_volume_commit.proofs.differences.keys_of.Given as goal

abbrev pub invariant-loop-aux : goal.invariant-loop-aux
invariant-loop-aux l = l.keys.items ++ map (λ (r : AuxRecord). r.key) l.items ≡ map (λ (r : AuxRecord). r.key) l.records

abbrev pub decreases-loop-aux : goal.decreases-loop-aux
decreases-loop-aux l = length l.items
