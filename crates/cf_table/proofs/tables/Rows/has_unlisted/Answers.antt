use Rattle.std.proofs.Common.{◌∙◌, ap, ltb}
use Rattle.std.specs.List.{list_any}
use Rattle.cf_table.specs.Tables.{Table}
use Rattle.cf_table.specs.Unlisted.{is_unlisted}
use Rattle.cf_table.proofs.Counts.{some_unlisted}
use Rattle.cf_table.proofs.tables.Rows.has_unlisted.Goals as goal

pub returns : goal.returns
returns c = ap (λ n. ltb 0 n) c.self.invariant.unlisted ∙ some_unlisted c.self.inside.rows ∙ ap (λ (t : Table). list_any is_unlisted t.rows) c.self.view_is
