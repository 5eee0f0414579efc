use Rattle.std.proofs.Common.{◌≡◌, ◌+◌, ◌++◌, ◌∙◌, ◌∷◌, ℕ, List, ap, append_assoc, arith, drop, suc, sym}
use Rattle.std.proofs.Math.Seq.{drop-cons}
use Rattle.cf_model.specs.Rows.{spell_row}
use Rattle.cf_table.specs.Spelling.{row_value, spell_each}
use Rattle.cf_table.specs.declared.rows.Row.{Row}
use Rattle.cf_table.proofs.spelling.put_rows.Goals as goal

pub loop-row-preserved : goal.loop-row-preserved
loop-row-preserved c =
    let next : suc c.loop-row.row-index ≡ c.loop-row.row-index + 1 = omega arith in
    let parts : drop c.loop-row.row-index c.args.rows.now ≡ c.row-item.result ∷ drop (c.loop-row.row-index + 1) c.args.rows.now =
    drop-cons c.args.rows.now c.loop-row.row-index c.row-item.result (omega (arith, c.loop-row-test.true))
    ∙ ap (λ (r : Row). r ∷ drop (suc c.loop-row.row-index) c.args.rows.now) (sym c.row-item.is)
    ∙ ap (λ (n : ℕ). c.row-item.result ∷ drop n c.args.rows.now) next in
    ap (λ (o : List ℕ). o ++ spell_each (drop (c.loop-row.row-index + 1) c.args.rows.now)) c.in_ok-spell.ensures
    ∙ append_assoc c.loop-row.out (spell_row (row_value c.row-item.result)) (spell_each (drop (c.loop-row.row-index + 1) c.args.rows.now))
    ∙ ap (λ (l : List Row). c.loop-row.out ++ spell_each l) (sym parts) ∙ c.loop-row.invariant
