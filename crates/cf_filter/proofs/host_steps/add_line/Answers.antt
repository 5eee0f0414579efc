use Rattle.std.proofs.Common.{refl, [], ◌∷◌}
use Rattle.std.specs.Prelude.{◌++◌}
use Rattle.cf_filter_machine.proofs.DeskSteps.{desk_exit, desk_stepped}
use Rattle.cf_filter_machine.proofs.GoodSteps.{same_good}
use Rattle.cf_filter_desk.specs.Desks.{Desk}
use Rattle.cf_filter_steps.specs.Answering.{Any}
use Rattle.cf_model.specs.Arrows.{noted}
use Rattle.cf_model.specs.State.{with_notes}
use Rattle.cf_filter.proofs.host_steps.add_line.Goals as goal

pub returns : goal.returns
returns g c =
    desk_stepped g.G.Ground.state Any (with_notes (c.args.line ∷ [])) (λ (d : Desk). record d { notes = d.notes ++ c.args.line ∷ [] }) c.args.filter.now c.add_note.new.self c.args.filter.now.desk
    (record c.args.filter.now.desk { notes = c.args.filter.now.desk.notes ++ c.args.line ∷ [] }) c.in_ok-add_note.ensures.ok refl refl (λ s. refl) (λ s h. refl) (λ s h p. same_good s (with_notes (c.args.line ∷ []) s) refl refl refl h.good)

pub returns-in_err-add_note : goal.returns-in_err-add_note
returns-in_err-add_note g c = desk_exit g.G.Ground.state Any (noted (with_notes (c.args.line ∷ []))) c.args.filter.now c.add_note.new.self c.args.filter.now.desk c.from_residual.result c.from_residual.ensures.1 c.in_err-add_note.ensures.err
