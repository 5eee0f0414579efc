use Rattle.std.proofs.Common.{◌∙◌, ◌≡◌, ◌<◌, ◌^◌, ℕ, ap, arith, get_or, set, subst, sym}
use Rattle.cf_table.specs.Tables.{IsTable, IsTableRow, row_len}
use Rattle.cf_table.specs.declared.rows.Row.{Row}
use Rattle.cf_table.proofs.TableLens.{in_sum, kept_here, table_set}
use Rattle.cf_table.proofs.row_lists.touch_at.Goals as goal

pub returns-clause-table : goal.returns-clause-table
returns-clause-table c = λ n t.
    let same : row_len c.touch.new.self ≡ row_len (get_or c.args.rows.now c.args.place c.item_mut-row.result.now) = ap row_len c.touch.ensures.rest ∙ ap row_len c.item_mut-row.ensures.value in
    subst (λ (m : ℕ). IsTable (set c.args.rows.now c.args.place c.touch.new.self) m)
    (omega (arith, same, in_sum c.args.rows.now n c.args.place c.item_mut-row.result.now c.requires.place t))
    (table_set c.args.rows.now n c.args.place c.touch.new.self c.item_mut-row.result.now c.requires.place
    (ap (λ (r : Row). r.id.0) c.touch.ensures.rest ∙ ap (λ (r : Row). r.id.0) c.item_mut-row.ensures.value)
    (subst (λ (r : Row). IsTableRow r) (sym c.touch.ensures.rest)
    (touched c.args.clock c.ranges.clock.fits c.item_mut-row.result.now (kept_here c.args.rows.now c.args.place c.item_mut-row.result.now c.requires.place c.item_mut-row.ensures.value t.kept))) t) where
      touched : (clock : ℕ) → clock < 2 ^ 64 → (r : Row) → IsTableRow r → IsTableRow (record r { last = clock })
      touched clock small r k = record {
        spellable = record { name = k.spellable.name; identity = k.spellable.identity };
        stored = record { size = k.stored.size; here = k.stored.here; valid = k.stored.valid; modified = k.stored.modified; modified_since = k.stored.modified_since; extents = k.stored.extents };
        range = record { id = k.range.id; parent = k.range.parent; size = k.range.size; base = k.range.base; number = k.range.number; anchor = k.range.anchor; last = small; extents = k.range.extents };
        short = k.short;
      }
