use Rattle.std.proofs.Common.{◌++◌, ◌≡◌}
use Rattle.std.specs.Prelude.{drop}
use Rattle.cf_tree.specs.Levels.{children_in}
use Rattle.cf_tree.proofs.levels.children_of.Given as goal

abbrev pub invariant-loop-item : goal.invariant-loop-item
invariant-loop-item l = l.all.items ++ children_in l.rows.rows (drop l.item-index l.level) ≡ children_in l.rows.rows l.level
