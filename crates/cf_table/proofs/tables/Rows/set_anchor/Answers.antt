use Rattle.std.proofs.Common.{◌∙◌, ◌<◌, length, List, ap, subst}
use Rattle.cf_table.specs.Applied.{SetsAnchor}
use Rattle.cf_table.specs.Tables.{IsRowAt, IsRowGap, SetsRow, Table}
use Rattle.cf_table.specs.Unlisted.{is_unlisted}
use Rattle.cf_table.specs.declared.rows.Row.{Row}
use Rattle.cf_table.proofs.TableMeans.{sets_none, sets_row}
use Rattle.cf_table.specs.Index.{entry_of}
use Rattle.cf_table.proofs.Bounded.{set_kept}
use Rattle.cf_table.proofs.tables.Rows.set_anchor.Goals as goal

pub returns-in-Ok-clause-sets : goal.returns-in-Ok-clause-sets
returns-in-Ok-clause-sets c =
    subst (λ (l : List Row). SetsRow SetsAnchor c.args.id l c.anchor_at-self-inside.new.rows) (ap (λ (t : Table). t.rows) c.self.view_is)
    (sets_row SetsAnchor (λ r s p. ap (λ (x : Row). x.id.0) p.rest) c.args.id c.in-Ok.place c.self.inside.rows c.anchor_at-self-inside.new.rows c.self.invariant.indexed.table.rises (subst (λ (l : List Row). IsRowAt l c.args.id.0 c.in-Ok.place) c.as_slice.ensures c.in-Ok.ensures.found)
    c.anchor_at-self-inside.ensures.sets)

pub returns-in-Err-clause-sets : goal.returns-in-Err-clause-sets
returns-in-Err-clause-sets c = sets_none SetsAnchor c.args.id c.in-Err.field-0 c.args.self.now.rows (subst (λ (l : List Row). IsRowGap l c.args.id.0 c.in-Err.field-0) (c.as_slice.ensures ∙ ap (λ (t : Table). t.rows) c.self.view_is) c.in-Err.ensures.absent)

pub invariant_of-self : goal.invariant_of-self
invariant_of-self c =
    set_kept SetsAnchor (λ r s p. ap entry_of p.rest) (λ r s p. ap (λ (x : Row). x.identity) p.rest) (λ r s p. ap is_unlisted p.rest) c.in-Ok.place c.self.inside.len c.anchor_at-self-inside.result c.self.inside.rows c.anchor_at-self-inside.new.rows c.self.inside.index c.self.inside.bound c.self.inside.unlisted c.self.invariant
    (subst (λ (l : List Row). c.in-Ok.place < length l) c.as_slice.ensures c.in-Ok.ensures.found.in_range) c.anchor_at-self-inside.ensures.sets c.anchor_at-self-inside.ensures.table
