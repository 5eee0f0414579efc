use Rattle.std.proofs.Common.{refl, ◌∙◌, ap}
use Rattle.cf_filter_machine.proofs.DeskSteps.{reads_desk, seen_desk}
use Rattle.cf_filter_desk.specs.Desks.{Desk}
use Rattle.cf_filter_steps.specs.Answering.{Any}
use Rattle.cf_model.specs.Dehydration.{is_connected}
use Rattle.cf_filter_machine.proofs.filter_steps.MachineOnSteps.is_connected.Goals as goal

pub returns : goal.returns
returns g c = reads_desk g.G.Ground.state Any is_connected (λ (d : Desk). d.connected) c.args.self.now c.is_connected.result (c.is_connected.ensures ∙ ap (λ (d : Desk). d.connected) (seen_desk c.self.view_is)) (λ s. refl)
