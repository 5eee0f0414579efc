use Rattle.std.proofs.Common.{◌∙◌, ap}
use Rattle.std.specs.Prelude.{◌&&◌, not}
use Rattle.std.specs.List.{list_any}
use Rattle.cf_filter_machine.proofs.DeskSteps.{seen_at}
use Rattle.cf_filter_machine.proofs.RowReads.{unlisted_rows}
use Rattle.cf_volume_points.proofs.KeptSound.{means_all}
use Rattle.cf_volume_points.specs.Standing.{cluster_on}
use Rattle.cf_table.specs.Tables.{Table}
use Rattle.cf_filter_machine.proofs.filter_steps.MachineOnSteps.has_unlisted.Goals as goal

pub returns : goal.returns
returns g c = record {
  is = λ s h p.
      let at = seen_at g.G.Ground.state s.volume c.self.view_is h.volume in
      c.has_unlisted.ensures ∙ ap (λ (t : Table). list_any (λ r. r.dir && not r.populated) t.rows) c.rows.ensures
      ∙ unlisted_rows c.self.inside.volume.known.table.rows s.volume.items (means_all (cluster_on (g.G.Ground.state c.self.inside.volume.disk).seen) s.volume.book c.self.inside.volume.known.table.rows s.volume.items at.now.rows);
}
