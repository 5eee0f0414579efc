use Rattle.std.proofs.Common.{refl, sym, subst, ap, ◌∙◌}
use Rattle.std.specs.Prelude.{None}
use Rattle.cf_filter_machine.proofs.DeskSteps.{desk_left, desk_stepped, seen_desk, with_desk}
use Rattle.cf_filter_desk.specs.Desks.{Desk}
use Rattle.cf_model.specs.Arrows.{noted}
use Rattle.cf_filter_steps.specs.Answering.{Any}
use Rattle.cf_filter_machine.proofs.GoodSteps.{stepped_good}
use Rattle.cf_model.specs.Settling.{with_waiting}
use Rattle.cf_model.specs.Requests.{Waiting}
use Rattle.cf_waits.specs.Steps.{IsPlanned, carried, moved_of}
use Rattle.cf_filter_machine.proofs.filter_steps.MachineOnSteps.take.Goals as goal

pub take-requires : goal.take-requires
take-requires g c = subst (λ (d : Desk). IsPlanned c.args.step d.waiting) (sym (seen_desk c.self.view_is)) c.requires

pub returns-clause-does : goal.returns-clause-does
returns-clause-does g c =
    desk_stepped g.G.Ground.state Any (with_waiting (carried c.args.step c.args.self.now.desk.waiting).1) (λ (d : Desk). record d { waiting = (carried c.args.step c.args.self.now.desk.waiting).1 }) c.args.self.now _ c.self.inside.desk c.take.new.self
    (with_desk c.take.new.self c.self.view_is) (seen_desk c.self.view_is)
    (c.in_ok-moves.ensures.ok ∙ ap (λ (w : Waiting). record c.self.inside.desk { waiting = (carried c.args.step w).1 }) (ap (λ (d : Desk). d.waiting) (seen_desk c.self.view_is)))
    (λ s. refl) (λ s h. refl) (λ s h p. stepped_good c.args.step c.args.self.now.desk.waiting s (ap (λ (d : Desk). d.waiting) h.desk) c.requires h.good)

pub returns-clause-moves : goal.returns-clause-moves
returns-clause-moves g c = c.in_ok-moves.ensures.moves ∙ ap (λ (d : Desk). moved_of None (carried c.args.step d.waiting).0) (seen_desk c.self.view_is)

pub returns-in_err-moves-clause-does : goal.returns-in_err-moves-clause-does
returns-in_err-moves-clause-does g c = desk_left g.G.Ground.state Any (noted (with_waiting (carried c.args.step c.args.self.now.desk.waiting).1)) c.args.self.now _ c.take.new.self c.from_residual.result c.from_residual.ensures.1 (with_desk c.take.new.self c.self.view_is)
