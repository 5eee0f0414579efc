use Rattle.std.proofs.Common.{◌-◌, length, ap, arith}
use Rattle.cf_table.proofs.RowBounds.{rises_apart}
use Rattle.cf_table.specs.declared.rows.Row.{Row}
use Rattle.cf_table.proofs.row_lists.lowest_place.Goals as goal

pub returns-then-last-id-clause-lower : goal.returns-then-last-id-clause-lower
returns-then-last-id-clause-lower c = λ k d lt.
    omega (
      arith,
      rises_apart 0 c.args.rows.now c.requires k (length c.args.rows.now - 1) d (omega (arith, lt)) (omega (arith, lt)),
      ap (λ (r : Row). r.id.0) (c.in-Some.ensures.item.3.1 d),
      c.if-last-id.true,
    )

pub returns-clause-lower : goal.returns-clause-lower
returns-clause-lower c = λ k d lt.
    omega (
      arith,
      lt,
      c.saturating_sub.ensures,
      rises_apart 0 c.args.rows.now c.requires k (length c.args.rows.now - 1) d (omega (arith, lt, c.saturating_sub.ensures)) (omega (arith, lt, c.saturating_sub.ensures)),
      ap (λ (r : Row). r.id.0) (c.in-Some.ensures.item.3.1 d),
      c.if-last-id.false,
    )
