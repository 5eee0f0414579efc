use Rattle.std.proofs.Common.{refl, ◌∙◌, ap}
use Rattle.cf_filter_machine.proofs.DeskSteps.{reads_desk, seen_desk}
use Rattle.cf_filter_desk.specs.Desks.{Desk}
use Rattle.cf_filter_steps.specs.Answering.{Any}
use Rattle.std.specs.Prelude.{◌==◌}
use Rattle.std.specs.List.{list_any}
use Rattle.cf_filter_steps.specs.Readings.{has_handle}
use Rattle.cf_filter_machine.proofs.filter_steps.MachineOnSteps.is_open.Goals as goal

pub returns : goal.returns
returns g c = reads_desk g.G.Ground.state Any (has_handle c.args.item) (λ (d : Desk). list_any (λ h. h.item.0 == c.args.item.0) d.handles) c.args.self.now c.is_open.result (c.is_open.ensures ∙ ap (λ (d : Desk). list_any (λ h. h.item.0 == c.args.item.0) d.handles) (seen_desk c.self.view_is)) (λ s. refl)
