use Rattle.std.proofs.Common.{◌∙◌}
use Rattle.cf_filter_machine.proofs.BookSteps.{accessed_good, book_done, book_lost}
use Rattle.cf_filter_machine.proofs.DeskSteps.{on_disk, seen_at, seen_desk, seen_disk}
use Rattle.cf_filter_machine.specs.Sensing.{sense}
use Rattle.cf_model.specs.Arrows.{noted}
use Rattle.cf_model.specs.Settling.{accessed, with_access_to}
use Rattle.cf_filter_steps.proofs.Laws.{no_memory}
use Rattle.cf_filter_steps.specs.Putting.{IsFile}
use Rattle.cf_filter_machine.proofs.filter_steps.MachineOnSteps.touch.Goals as goal

pub returns-then-is_none : goal.returns-then-is_none
returns-then-is_none g c = no_memory (sense g.G.Ground.state) (IsFile c.args.item) (noted (accessed c.args.item)) c.args.self.now

pub returns-in_default : goal.returns-in_default
returns-in_default g c =
    book_lost g.G.Ground.state (IsFile c.args.item) c.args.self.now _ c.touch.new.self.known c.self.inside.desk
    (λ j. record { disk = (c.touch.ensures.disk ∙ seen_disk c.self.view_is) j; known = c.touch.new.self.known; desk = c.self.inside.desk }) (noted (accessed c.args.item))

pub returns : goal.returns
returns g c =
    book_done g.G.Ground.state (IsFile c.args.item) c.args.self.now _ c.touch.new.self.known c.self.inside.desk
    (λ j. record { disk = (c.touch.ensures.disk ∙ seen_disk c.self.view_is) j; known = c.touch.new.self.known; desk = c.self.inside.desk }) (accessed c.args.item) c.in-Ok.ensures.usable
    (λ s h. on_disk g.G.Ground.state c.touch.new.self.known (with_access_to c.args.item s.volume) (c.touch.ensures.disk ∙ seen_disk c.self.view_is) (c.in-Ok.ensures.ok s.volume (seen_at g.G.Ground.state s.volume c.self.view_is h.volume)))
    (λ s h. seen_desk c.self.view_is ∙ h.desk) (λ s h p. accessed_good c.args.item s p h.good h.kept)
