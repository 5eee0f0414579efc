use Rattle.std.proofs.Common.{◌++◌, ◌-◌, ◌∷◌, [], ◌≡◌}
use Rattle.cf_tree.specs.Levels.{levels_in}
use Rattle.cf_tree.proofs.levels.levels_in.Given as goal

abbrev pub invariant-loop : goal.invariant-loop
invariant-loop l = l.all.items ++ levels_in (l.count - l.counter) l.rows.rows l.level.items ≡ levels_in l.count l.rows.rows (l.fn.top ∷ [])
