use Rattle.std.proofs.Common.{refl, ◌∙◌, ap}
use Rattle.cf_filter_machine.proofs.DeskSteps.{reads_desk, seen_desk}
use Rattle.cf_filter_desk.specs.Desks.{Desk}
use Rattle.cf_filter_steps.specs.Answering.{Any}
use Rattle.cf_filter_steps.specs.Readings.{policy_of}
use Rattle.cf_filter_machine.proofs.filter_steps.MachineOnSteps.policy.Goals as goal

pub returns : goal.returns
returns g c = reads_desk g.G.Ground.state Any policy_of (λ (d : Desk). d.policy) c.args.self.now c.policy.result (c.policy.ensures ∙ ap (λ (d : Desk). d.policy) (seen_desk c.self.view_is)) (λ s. refl)
