use Rattle.std.proofs.Common.{◌∙◌, ap}
use Rattle.cf_filter_machine.proofs.BookSteps.{book_done, book_left, book_lost, passed_good}
use Rattle.cf_filter_machine.proofs.DeskSteps.{on_disk, seen_at, seen_desk, seen_disk}
use Rattle.cf_filter_desk.specs.Desks.{Desk}
use Rattle.cf_model.specs.Arrows.{noted}
use Rattle.cf_model.specs.Requests.{ticked}
use Rattle.cf_model.specs.Waits.{with_clock, with_time}
use Rattle.cf_filter_steps.specs.Answering.{Any}
use Rattle.cf_filter_machine.proofs.filter_steps.MachineOnSteps.pass.Goals as goal

pub returns-in_default : goal.returns-in_default
returns-in_default g c =
    book_lost g.G.Ground.state Any c.args.self.now _ c.pass.new.self.known c.self.inside.desk
    (λ j. record { disk = (c.pass.ensures.disk ∙ seen_disk c.self.view_is) j; known = c.pass.new.self.known; desk = c.self.inside.desk }) (noted (with_time c.args.ticks))

pub returns-in_err-pass : goal.returns-in_err-pass
returns-in_err-pass g c =
    book_left g.G.Ground.state Any c.args.self.now _ c.pass.new.self.known c.pass-2.new.self
    (λ j. record { disk = (c.pass.ensures.disk ∙ seen_disk c.self.view_is) j; known = c.pass.new.self.known; desk = c.pass-2.new.self }) (noted (with_time c.args.ticks)) c.from_residual.result c.from_residual.ensures.1

pub returns : goal.returns
returns g c =
    book_done g.G.Ground.state Any c.args.self.now _ c.pass.new.self.known c.pass-2.new.self
    (λ j. record { disk = (c.pass.ensures.disk ∙ seen_disk c.self.view_is) j; known = c.pass.new.self.known; desk = c.pass-2.new.self }) (with_time c.args.ticks) c.in-Ok.ensures.usable
    (λ s h. on_disk g.G.Ground.state c.pass.new.self.known (with_clock c.args.ticks s.volume) (c.pass.ensures.disk ∙ seen_disk c.self.view_is) (c.in-Ok.ensures.ok s.volume (seen_at g.G.Ground.state s.volume c.self.view_is h.volume)))
    (λ s h. c.in_ok-pass.ensures.ok ∙ ap (λ (d : Desk). record d { waiting = ticked c.args.ticks d.waiting }) (seen_desk c.self.view_is ∙ h.desk)) (λ s h p. passed_good c.args.ticks s h.good h.kept)
