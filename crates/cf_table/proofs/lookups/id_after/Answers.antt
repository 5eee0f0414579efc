use Rattle.std.proofs.Common.{Option, ap, arith, sym}
use Rattle.cf_table.specs.Tables.{comes_after, id_of}
use Rattle.cf_table.specs.declared.rows.Row.{Row}
use Rattle.cf_table.proofs.Finds.{found_first, found_none}
use Rattle.cf_table.proofs.lookups.id_after.Goals as goal

pub returns-then-place-rows : goal.returns-then-place-rows
returns-then-place-rows c =
    ap (λ (o : Option Row). id_of o) (sym (found_first (comes_after c.args.id) c.args.rows.now c.place_after-place.result c.index-rows-place.result c.if-place-rows.true c.place_after-place.ensures.before
    (c.place_after-place.ensures.from c.place_after-place.result c.index-rows-place.result (omega arith) c.if-place-rows.true)))

pub returns-else-place-rows : goal.returns-else-place-rows
returns-else-place-rows c =
    ap (λ (o : Option Row). id_of o) (sym (found_none (comes_after c.args.id) c.args.rows.now (λ j d lt. c.place_after-place.ensures.before j d (omega (arith, c.if-place-rows.false, lt)))))
