use Rattle.cf_filter_machine.proofs.DeskSteps.{seen_at}
use Rattle.cf_filter_machine.proofs.filter_steps.MachineOnSteps.next_number.Goals as goal

pub returns : goal.returns
returns g c = record { is = λ s h p. c.next_usn.ensures s.volume (seen_at g.G.Ground.state s.volume c.self.view_is h.volume) }
