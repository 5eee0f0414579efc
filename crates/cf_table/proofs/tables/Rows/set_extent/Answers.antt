use Rattle.std.proofs.Common.{◌≡◌, ◌∙◌, ◌<◌, length, List, ap, get_or, subst}
use Rattle.std.specs.Prelude.{IfOk}
use Rattle.cf_ranges.specs.Pairs.{cluster_at}
use Rattle.cf_table.specs.Applied.{SetsExtent}
use Rattle.cf_table.specs.Tables.{IsRowAt, IsRowGap, RisesFrom, SetsRow, Table}
use Rattle.cf_table.specs.Unlisted.{is_unlisted}
use Rattle.cf_table.specs.declared.rows.Row.{Row}
use Rattle.cf_table.proofs.TableMeans.{extent_before, extent_none, on_ok_map, sets_none, sets_row}
use Rattle.cf_table.specs.Index.{entry_of}
use Rattle.cf_table.proofs.Bounded.{maybe_set_kept}
use Rattle.cf_table.proofs.tables.Rows.set_extent.Goals as goal

pub returns-in-Ok-clause-before : goal.returns-in-Ok-clause-before
returns-in-Ok-clause-before c =
    extent_before c.extent_at.result c.args.block c.args.id c.in-Ok.place c.args.self.now.rows (subst (λ (l : List Row). RisesFrom 0 l) (ap (λ (t : Table). t.rows) c.self.view_is) c.self.invariant.indexed.table.rises) (subst (λ (l : List Row). IsRowAt l c.args.id.0 c.in-Ok.place) (c.as_slice.ensures ∙ ap (λ (t : Table). t.rows) c.self.view_is) c.in-Ok.ensures.found)
    (subst (λ (l : List Row). (d : Row) → IfOk c.extent_at.result (λ b. b ≡ cluster_at (get_or l c.in-Ok.place d).extents c.args.block)) (ap (λ (t : Table). t.rows) c.self.view_is) c.extent_at.ensures.before)

pub returns-in-Ok-clause-ok : goal.returns-in-Ok-clause-ok
returns-in-Ok-clause-ok c =
    on_ok_map c.extent_at.result _ _ (λ sets. subst (λ (l : List Row). SetsRow (SetsExtent c.args.block c.args.cluster) c.args.id l c.extent_at.new.rows) (ap (λ (t : Table). t.rows) c.self.view_is)
    (sets_row (SetsExtent c.args.block c.args.cluster) (λ r s p. ap (λ (x : Row). x.id.0) p.rest) c.args.id c.in-Ok.place c.self.inside.rows c.extent_at.new.rows c.self.invariant.indexed.table.rises (subst (λ (l : List Row). IsRowAt l c.args.id.0 c.in-Ok.place) c.as_slice.ensures c.in-Ok.ensures.found) sets))
    c.extent_at.ensures.sets

pub returns-in-Err-clause-before : goal.returns-in-Err-clause-before
returns-in-Err-clause-before c = extent_none c.args.block c.args.id c.in-Err.field-0 c.args.self.now.rows (subst (λ (l : List Row). IsRowGap l c.args.id.0 c.in-Err.field-0) (c.as_slice.ensures ∙ ap (λ (t : Table). t.rows) c.self.view_is) c.in-Err.ensures.absent)

pub returns-in-Err-clause-ok : goal.returns-in-Err-clause-ok
returns-in-Err-clause-ok c = sets_none (SetsExtent c.args.block c.args.cluster) c.args.id c.in-Err.field-0 c.args.self.now.rows (subst (λ (l : List Row). IsRowGap l c.args.id.0 c.in-Err.field-0) (c.as_slice.ensures ∙ ap (λ (t : Table). t.rows) c.self.view_is) c.in-Err.ensures.absent)

pub invariant_of-self : goal.invariant_of-self
invariant_of-self c =
    maybe_set_kept c.extent_at.result (SetsExtent c.args.block c.args.cluster) (λ r s p. ap entry_of p.rest) (λ r s p. ap (λ (x : Row). x.identity) p.rest) (λ r s p. ap is_unlisted p.rest) c.in-Ok.place c.self.inside.len c.extent_at.new.len c.self.inside.rows c.extent_at.new.rows c.self.inside.index c.self.inside.bound c.self.inside.unlisted c.self.invariant
    (subst (λ (l : List Row). c.in-Ok.place < length l) c.as_slice.ensures c.in-Ok.ensures.found.in_range) c.extent_at.ensures.sets c.extent_at.ensures.err c.extent_at.ensures.table
