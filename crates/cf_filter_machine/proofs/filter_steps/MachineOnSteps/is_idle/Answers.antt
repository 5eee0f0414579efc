use Rattle.std.proofs.Common.{refl, ◌∙◌, ap}
use Rattle.cf_filter_machine.proofs.DeskSteps.{reads_desk, seen_desk}
use Rattle.cf_filter_desk.specs.Desks.{Desk}
use Rattle.cf_filter_steps.specs.Answering.{Any}
use Rattle.std.specs.Prelude.{◌&&◌}
use Rattle.cf_model.specs.Words.{is_empty}
use Rattle.cf_filter_steps.specs.Readings.{is_idle}
use Rattle.cf_filter_machine.proofs.filter_steps.MachineOnSteps.is_idle.Goals as goal

pub returns : goal.returns
returns g c = reads_desk g.G.Ground.state Any is_idle (λ (d : Desk). is_empty d.handles && is_empty d.waiting.waits) c.args.self.now c.is_idle.result (c.is_idle.ensures ∙ ap (λ (d : Desk). is_empty d.handles && is_empty d.waiting.waits) (seen_desk c.self.view_is)) (λ s. refl)
