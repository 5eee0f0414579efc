use Rattle.std.proofs.Common.{◌≡◌, ◌+◌, ◌++◌, refl, sym, subst, drop, Vec, Global}
use Rattle.cf_base.specs.declared.ids.ItemId.{ItemId}
use Rattle.cf_model.specs.Numbers.{above}
use Rattle.cf_table.specs.declared.rows.Row.{Row}
use Rattle.cf_table.proofs.KeptParts.{keep_part, parts, skip_part}
use Rattle.cf_table.proofs.lookups.changed_in.Goals.{then-is_above+in_ok-push, else-is_above}
use Rattle.cf_table.proofs.lookups.changed_in.Goals as goal

pub loop-row-preserved : goal.loop-row-preserved
loop-row-preserved c = elim c.if-is_above.branch [
  | then-is_above+in_ok-push w ↦
      subst (λ (k : Vec ItemId Global). k.items ++ parts (λ (r : Row). r.id) (λ (r : Row). above r.number c.args.number) (drop (c.loop-row.row-index + 1) c.args.rows.now) ≡ parts (λ (r : Row). r.id) (λ (r : Row). above r.number c.args.number) c.args.rows.now) (sym w.ids-is)
      (keep_part (λ (r : Row). r.id) (λ (r : Row). above r.number c.args.number) c.args.rows.now c.loop-row.row-index c.row-item.result c.loop-row.ids.items w.push.new.self.items _ _ c.loop-row-test.true c.row-item.is w.if-is_above.ensures refl w.in_ok-push.ensures.items c.loop-row.invariant)
  | else-is_above w ↦
      subst (λ (k : Vec ItemId Global). k.items ++ parts (λ (r : Row). r.id) (λ (r : Row). above r.number c.args.number) (drop (c.loop-row.row-index + 1) c.args.rows.now) ≡ parts (λ (r : Row). r.id) (λ (r : Row). above r.number c.args.number) c.args.rows.now) (sym w.ids-is)
      (skip_part (λ (r : Row). r.id) (λ (r : Row). above r.number c.args.number) c.args.rows.now c.loop-row.row-index c.row-item.result c.loop-row.ids.items _ c.loop-row-test.true c.row-item.is w.if-is_above.ensures c.loop-row.invariant)
]
