use Rattle.std.proofs.Common.{◌∙◌, ap, sym, subst}
use Rattle.cf_filter_machine.proofs.DeskSteps.{seen_at}
use Rattle.cf_filter_machine.specs.Held.{Held}
use Rattle.cf_volume_points.proofs.KeptSound.{means_all}
use Rattle.cf_volume_points.specs.Standing.{cluster_on}
use Rattle.cf_table.specs.Tables.{MeansAll, Table}
use Rattle.cf_filter_machine.proofs.filter_steps.MachineOnSteps.rows.Goals as goal

pub returns-clause-value : goal.returns-clause-value
returns-clause-value g c = c.rows.ensures ∙ ap (λ (x : Held _). x.known.table) c.self.view_is

pub returns-clause-means : goal.returns-clause-means
returns-clause-means g c = record {
  rows = λ s h.
      let at = seen_at g.G.Ground.state s.volume c.self.view_is h.volume in
      subst (λ (t : Table). MeansAll t.rows s.volume.items) (sym c.rows.ensures)
      (means_all (cluster_on (g.G.Ground.state c.self.inside.volume.disk).seen) s.volume.book c.self.inside.volume.known.table.rows s.volume.items at.now.rows);
  next = λ s h. ap (λ (t : Table). t.next) c.rows.ensures ∙ (seen_at g.G.Ground.state s.volume c.self.view_is h.volume).now.next;
}
