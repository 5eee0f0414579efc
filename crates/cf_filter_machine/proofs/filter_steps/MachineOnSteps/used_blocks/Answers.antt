use Rattle.std.proofs.Common.{◌∙◌, sym}
use Rattle.cf_filter_machine.proofs.DeskSteps.{seen_at}
use Rattle.cf_volume_points.proofs.Counted.{used_now}
use Rattle.cf_volume_points.specs.Standing.{cluster_on}
use Rattle.cf_filter_machine.proofs.filter_steps.MachineOnSteps.used_blocks.Goals as goal

pub returns : goal.returns
returns g c = record {
  is = λ s h p.
      let at = seen_at g.G.Ground.state s.volume c.self.view_is h.volume in
      λ j. (
        (c.used.ensures ∙ sym (used_now (cluster_on (g.G.Ground.state c.self.inside.volume.disk).seen) s.volume.book c.self.inside.volume.known.table.rows s.volume.items c.self.inside.volume.known.uses at.now.rows at.now.owns)) j,
        (c.clusters.ensures ∙ sym at.now.clusters) j,
      );
}
