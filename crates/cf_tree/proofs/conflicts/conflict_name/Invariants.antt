use Rattle.std.proofs.Common.{◌≡◌, ◌≤◌, ◌<◌, ℕ, true}
use Rattle.std.specs.Prelude.{find, is_some}
use Rattle.cf_model.specs.ConflictNames.{with_number}
use Rattle.cf_table.specs.Tables.{is_child_row}
use Rattle.cf_tree.proofs.conflicts.conflict_name.Given as goal

abbrev pub invariant-loop-number : goal.invariant-loop-number
invariant-loop-number l = (k : ℕ) → 1 ≤ k → k < l.number → is_some (find (is_child_row l.parent (with_number l.name k)) l.rows.rows) ≡ true
