use Rattle.std.proofs.Common.{◌≡◌, ◌<◌, length}
use Rattle.cf_model.specs.ConflictNames.{cut_text}
use Rattle.cf_tree.proofs.conflicts.cut.Given as goal

abbrev pub invariant-loop-end : goal.invariant-loop-end
invariant-loop-end l = record { in_range : l.end < length l.text; same : cut_text l.end l.text ≡ cut_text l.most l.text }

abbrev pub decreases-loop-end : goal.decreases-loop-end
decreases-loop-end l = l.end
