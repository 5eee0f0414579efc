use Rattle.std.proofs.Common.{refl, ◌∙◌, ap}
use Rattle.cf_filter_machine.proofs.DeskSteps.{reads_desk, seen_desk}
use Rattle.cf_filter_desk.specs.Desks.{Desk}
use Rattle.cf_filter_steps.specs.Answering.{Any}
use Rattle.std.specs.Prelude.{find}
use Rattle.cf_model.specs.Numbers.{same_key}
use Rattle.cf_filter_steps.specs.Readings.{item_opened, opened_item}
use Rattle.cf_filter_machine.proofs.filter_steps.MachineOnSteps.opened.Goals as goal

pub returns : goal.returns
returns g c = reads_desk g.G.Ground.state Any (opened_item c.args.handle) (λ (d : Desk). item_opened (find (λ o. same_key o.handle.0 c.args.handle.0) d.handles)) c.args.self.now c.opened.result (c.opened.ensures ∙ ap (λ (d : Desk). item_opened (find (λ o. same_key o.handle.0 c.args.handle.0) d.handles)) (seen_desk c.self.view_is)) (λ s. refl)
