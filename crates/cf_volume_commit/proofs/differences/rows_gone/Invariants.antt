use Rattle.std.proofs.Common.{◌≡◌, ◌++◌, drop}
use Rattle.cf_table.specs.declared.rows.Row.{Row}
use Rattle.cf_volume_commit.proofs.KeySteps.{parts}
use Rattle.cf_volume_commit.specs.Differing.{is_row_gone}
use Rattle.cf_volume_commit.proofs.differences.rows_gone.Given as goal

abbrev pub invariant-loop-row : goal.invariant-loop-row
invariant-loop-row l = l.ids.items ++ parts (λ (r : Row). r.id) (is_row_gone l.then l.now.rows) (drop l.row-index l.noted) ≡ parts (λ (r : Row). r.id) (is_row_gone l.then l.now.rows) l.noted
