use Rattle.std.proofs.Common.{◌≡◌, length}
use Rattle.cf_model.specs.LookUp.{names_of}
use Rattle.cf_tree.specs.Steps.{walk_in}
use Rattle.cf_tree.proofs.finds.walk.Given as goal

abbrev pub invariant-loop-name : goal.invariant-loop-name
invariant-loop-name l = walk_in l.rows.rows l.at l.left ≡ walk_in l.rows.rows (record { 0 = 1 }) (names_of l.path)

abbrev pub decreases-loop-name : goal.decreases-loop-name
decreases-loop-name l = length l.left
