use Rattle.std.proofs.Common.{◌∙◌}
use Rattle.cf_filter_machine.proofs.DeskSteps.{seen_at}
use Rattle.cf_filter_machine.proofs.filter_steps.MachineOnSteps.count.Goals as goal

pub returns : goal.returns
returns g c = record { is = λ s h p. c.count.ensures ∙ (seen_at g.G.Ground.state s.volume c.self.view_is h.volume).now.count }
