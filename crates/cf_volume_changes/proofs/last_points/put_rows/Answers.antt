use Rattle.std.proofs.Common.{◌+◌, List, ap, arith, drop, refl, subst, sym, ◌∙◌}
use Rattle.cf_table.specs.Applied.{IsSpellable}
use Rattle.cf_table.specs.Tables.{AreTableRows, RisesFrom, Table, row_of}
use Rattle.cf_table.specs.declared.rows.Row.{Row}
use Rattle.cf_volume_changes.proofs.PutBack.{row_put}
use Rattle.cf_volume_image.proofs.Loops.{drop_at, drop_end}
use Rattle.cf_volume_points.specs.Known.{or_now}
use Rattle.cf_volume_changes.proofs.last_points.put_rows.Goals as goal

pub loop-row-init : goal.loop-row-init
loop-row-init c = record { puts = λ id. refl; rise = (0, c.requires.rise); kept = c.requires.kept }

pub put_row-requires : goal.put_row-requires
put_row-requires c =
    let here = drop_at c.args.noted.now c.loop-row.row-index c.row-item.result c.loop-row-test.true c.row-item.is in
    subst IsSpellable (sym c.in_ok-copy.ensures) ((subst AreTableRows here c.loop-row.invariant.kept).0.spellable)

pub loop-row-preserved : goal.loop-row-preserved
loop-row-preserved c =
    let l = c.loop-row in
    let here = drop_at c.args.noted.now l.row-index c.row-item.result c.loop-row-test.true c.row-item.is in
    let low = l.invariant.rise.0 in
    record {
      puts = row_put (drop l.row-index c.args.noted.now) (drop (l.row-index + 1) c.args.noted.now) c.args.noted.now c.row-item.result c.in_ok-copy.copy c.args.rows.now.rows l.rows.rows c.put_row.new.self.rows low
          here c.in_ok-copy.ensures (ap (λ (t : Table). t.rows) c.in_ok-put_row.ensures.ok) c.image_len.ensures.rises l.invariant.rise.1 l.invariant.puts;
      rise = (c.row-item.result.id.0 + 1, (subst (λ (rs : List Row). RisesFrom low rs) here l.invariant.rise.1).1);
      kept = (subst AreTableRows here l.invariant.kept).1;
    }

pub returns : goal.returns
returns c = record {
  rows = λ id.
      sym (ap (λ (rs : List Row). or_now (row_of rs id) (row_of c.loop-row.rows.rows id)) (drop_end c.args.noted.now c.loop-row.row-index (omega (arith, c.loop-row-test.false))))
      ∙ c.loop-row.invariant.puts id;
}
