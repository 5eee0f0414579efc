use Rattle.std.proofs.Common.{◌∙◌, ap}
use Rattle.std.specs.Prelude.{Option}
use Rattle.cf_filter_machine.proofs.DeskSteps.{seen_at}
use Rattle.cf_filter_machine.proofs.RowReads.{last_known}
use Rattle.cf_model.specs.Words.{part}
use Rattle.cf_volume_points.specs.Standing.{cluster_on}
use Rattle.cf_table.specs.declared.rows.Row.{Row}
use Rattle.cf_filter_machine.proofs.filter_steps.MachineOnSteps.last_access.Goals as goal

pub returns : goal.returns
returns g c = record {
  is = λ s h p.
      let at = seen_at g.G.Ground.state s.volume c.self.view_is h.volume in
      c.last_of.ensures ∙ ap (λ (o : Option Row). part (λ (r : Row). r.last) 0 o) c.row.ensures
      ∙ last_known (cluster_on (g.G.Ground.state c.self.inside.volume.disk).seen) s.volume.book c.self.inside.volume.known.table.rows s.volume.items c.args.item at.now.rows at.now.book;
}
