use Rattle.std.proofs.Common.{refl, ◌∙◌, ap}
use Rattle.cf_filter_machine.proofs.DeskSteps.{reads_desk, seen_desk}
use Rattle.cf_filter_desk.specs.Desks.{Desk}
use Rattle.cf_filter_steps.specs.Answering.{Any}
use Rattle.std.specs.Prelude.{nat_le, length, ◌∷◌, []}
use Rattle.cf_base.specs.declared.codes.Code.TheVariants as code
use Rattle.cf_model.specs.Numbers.{most}
use Rattle.cf_model.specs.Words.{first_of}
use Rattle.cf_filter_steps.specs.Readings.{open_refusal}
use Rattle.cf_filter_machine.proofs.filter_steps.MachineOnSteps.refuse_open.Goals as goal

pub returns : goal.returns
returns g c = reads_desk g.G.Ground.state Any open_refusal (λ (d : Desk). first_of ((nat_le 1024 (length d.handles), code.TooManyHandles) ∷ (nat_le most d.handle_count, code.Exhausted) ∷ [])) c.args.self.now c.refuse_open.result (c.refuse_open.ensures ∙ ap (λ (d : Desk). first_of ((nat_le 1024 (length d.handles), code.TooManyHandles) ∷ (nat_le most d.handle_count, code.Exhausted) ∷ [])) (seen_desk c.self.view_is)) (λ s. refl)
