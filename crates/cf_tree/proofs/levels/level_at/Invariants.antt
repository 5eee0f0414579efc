use Rattle.std.proofs.Common.{◌-◌, ◌∷◌, [], ◌≡◌}
use Rattle.cf_tree.specs.Levels.{level_at}
use Rattle.cf_tree.proofs.levels.level_at.Given as goal

abbrev pub invariant-loop : goal.invariant-loop
invariant-loop l = level_at (l.names - l.counter) l.rows.rows l.level.items ≡ level_at l.names l.rows.rows (l.fn.top ∷ [])
