use Rattle.std.proofs.Common.{ap, arith}
use Rattle.cf_table.proofs.RowBounds.{rises_apart}
use Rattle.cf_table.specs.declared.rows.Row.{Row}
use Rattle.cf_table.proofs.row_lists.end_place.Goals as goal

pub returns-then-id-first-clause-higher : goal.returns-then-id-first-clause-higher
returns-then-id-first-clause-higher c = λ k d le lt.
    omega (arith, rises_apart 0 c.args.rows.now c.requires 0 k d (omega arith) lt, ap (λ (r : Row). r.id.0) (c.in-Some.ensures.item.3.1 d), c.if-id-first.true)

pub returns-then-place-rows-clause-higher : goal.returns-then-place-rows-clause-higher
returns-then-place-rows-clause-higher c = λ k d le lt.
    omega (arith, le, rises_apart 0 c.args.rows.now c.requires 0 k d (omega arith) lt, ap (λ (r : Row). r.id.0) (c.in-Some.ensures.item.3.1 d), c.if-id-first.false)
