use Rattle.std.proofs.Common.{◌≡◌, ◌++◌, drop}
use Rattle.std.specs.Prelude.{filter}
use Rattle.cf_model.specs.Numbers.{above}
use Rattle.cf_table.specs.Tables.{ids_of}
use Rattle.cf_table.proofs.lookups.changed_in.Given as goal

abbrev pub invariant-loop-row : goal.invariant-loop-row
invariant-loop-row l = l.ids.items ++ ids_of (filter (λ r. above r.number l.number) (drop l.row-index l.rows)) ≡ ids_of (filter (λ r. above r.number l.number) l.rows)
