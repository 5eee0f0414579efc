use Rattle.std.proofs.Common.{refl, ap, ◌∙◌}
use Rattle.std.specs.Prelude.{None}
use Rattle.cf_filter_machine.proofs.DeskSteps.{desk_left, desk_stepped, seen_desk, with_desk}
use Rattle.cf_filter_desk.specs.Desks.{Desk}
use Rattle.cf_model.specs.Arrows.{noted}
use Rattle.cf_filter_steps.specs.Answering.{Any}
use Rattle.cf_filter_machine.proofs.GoodSteps.{waiting_good}
use Rattle.cf_model.specs.Asks.{downed}
use Rattle.cf_model.specs.Requests.{Waiting}
use Rattle.cf_model.specs.Settling.{with_waiting}
use Rattle.cf_waits.specs.Steps.{moved_of}
use Rattle.cf_filter_machine.proofs.filter_steps.MachineOnSteps.take_down.Goals as goal

pub returns-clause-does : goal.returns-clause-does
returns-clause-does g c =
    desk_stepped g.G.Ground.state Any (with_waiting (downed c.args.self.now.desk.waiting).1) (λ (d : Desk). record d { waiting = (downed c.args.self.now.desk.waiting).1 }) c.args.self.now _ c.self.inside.desk c.take_down.new.self
    (with_desk c.take_down.new.self c.self.view_is) (seen_desk c.self.view_is)
    (c.in_ok-moves.ensures.ok ∙ ap (λ (w : Waiting). record c.self.inside.desk { waiting = (downed w).1 }) (ap (λ (d : Desk). d.waiting) (seen_desk c.self.view_is)))
    (λ s. refl) (λ s h. refl) (λ s h p. waiting_good (downed c.args.self.now.desk.waiting).1 s (record {}) (record {}) h.good)

pub returns-clause-moves : goal.returns-clause-moves
returns-clause-moves g c = c.in_ok-moves.ensures.moves ∙ ap (λ (d : Desk). moved_of None (downed d.waiting).0) (seen_desk c.self.view_is)

pub returns-in_err-moves-clause-does : goal.returns-in_err-moves-clause-does
returns-in_err-moves-clause-does g c = desk_left g.G.Ground.state Any (noted (with_waiting (downed c.args.self.now.desk.waiting).1)) c.args.self.now _ c.take_down.new.self c.from_residual.result c.from_residual.ensures.1 (with_desk c.take_down.new.self c.self.view_is)
