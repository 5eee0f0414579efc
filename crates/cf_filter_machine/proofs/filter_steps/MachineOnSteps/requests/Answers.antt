use Rattle.std.proofs.Common.{refl, ◌∙◌, ap}
use Rattle.cf_filter_machine.proofs.DeskSteps.{reads_desk, seen_desk}
use Rattle.cf_filter_desk.specs.Desks.{Desk}
use Rattle.cf_filter_steps.specs.Answering.{Any}
use Rattle.cf_filter_steps.specs.Readings.{waiting_of}
use Rattle.cf_filter_machine.proofs.filter_steps.MachineOnSteps.requests.Goals as goal

pub returns-clause-value : goal.returns-clause-value
returns-clause-value g c = c.requests.ensures ∙ ap (λ (d : Desk). d.waiting) (seen_desk c.self.view_is)

pub returns-clause-means : goal.returns-clause-means
returns-clause-means g c = reads_desk g.G.Ground.state Any waiting_of (λ (d : Desk). d.waiting) c.args.self.now c.requests.result.now (c.requests.ensures ∙ ap (λ (d : Desk). d.waiting) (seen_desk c.self.view_is)) (λ s. refl)
