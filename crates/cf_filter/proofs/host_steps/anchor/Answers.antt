use Rattle.std.proofs.Common.{◌∙◌, ap}
use Rattle.std.specs.Prelude.{Option}
use Rattle.cf_filter_machine.proofs.RowReads.{anchor_known}
use Rattle.cf_model.specs.Numbers.{no_usn}
use Rattle.cf_model.specs.Words.{part}
use Rattle.cf_table.specs.Tables.{Table, row_of}
use Rattle.cf_table.specs.declared.rows.Row.{Row}
use Rattle.cf_volume_points.specs.Standing.{cluster_on}
use Rattle.cf_filter.proofs.host_steps.anchor.Goals as goal

pub returns : goal.returns
returns g c = λ i. record {
  is = λ s h p.
      c.anchor_in.ensures ∙ ap (λ (o : Option Row). part (λ (r : Row). r.anchor) no_usn o) (c.get.ensures ∙ ap (λ (t : Table). row_of t.rows c.args.item) c.rows.ensures)
      ∙ anchor_known (cluster_on (g.G.Ground.state c.args.filter.now.disk).seen) s.volume.book c.args.filter.now.known.table.rows s.volume.items c.args.item h.volume.now.rows h.volume.now.book;
}
