use Rattle.std.proofs.Common.{◌∙◌, sym}
use Rattle.cf_filter.proofs.Booked.{anchored_done, anchored_not, number_read}
use Rattle.cf_filter.specs.Booking.{anchored_at}
use Rattle.cf_filter_machine.proofs.BookSteps.{book_lost}
use Rattle.cf_filter_machine.proofs.DeskSteps.{on_disk, seen_at, seen_desk, seen_disk}
use Rattle.cf_filter_machine.specs.Sensing.{sense}
use Rattle.cf_model.specs.Arrows.{noted}
use Rattle.cf_model.specs.Books.{with_anchor}
use Rattle.cf_filter_steps.proofs.Laws.{no_memory}
use Rattle.cf_filter_steps.specs.Answering.{IsAt}
use Rattle.cf_engine_host.specs.BookSteps.{with_book_of}
use Rattle.cf_filter.proofs.anchors.put_anchor.Goals as goal

pub returns-then-is_none : goal.returns-then-is_none
returns-then-is_none g c = λ i. no_memory (sense g.G.Ground.state) (IsAt c.args.id i) (noted (with_book_of (anchored_at c.args.id i.number))) c.args.machine.now

pub returns-then-is_unnumbered : goal.returns-then-is_unnumbered
returns-then-is_unnumbered g c = λ i. anchored_not g.G.Ground.state c.args.machine.now c.args.id i (sym c.if-is_unnumbered.true ∙ number_read c.args.id c.machine.view_is c.is_unnumbered.ensures c.row-row.ensures)

pub returns-in_default : goal.returns-in_default
returns-in_default g c = λ i.
    book_lost g.G.Ground.state (IsAt c.args.id i) c.args.machine.now _ c.anchor.new.self.known c.machine.inside.desk
    (λ j. record { disk = (c.anchor.ensures.disk ∙ seen_disk c.machine.view_is) j; known = c.anchor.new.self.known; desk = c.machine.inside.desk }) (noted (with_book_of (anchored_at c.args.id i.number)))

pub returns : goal.returns
returns g c = λ i.
    anchored_done g.G.Ground.state c.args.machine.now _ c.anchor.new.self.known c.machine.inside.desk c.args.id i
    (λ j. record { disk = (c.anchor.ensures.disk ∙ seen_disk c.machine.view_is) j; known = c.anchor.new.self.known; desk = c.machine.inside.desk })
    (sym c.if-is_unnumbered.false ∙ number_read c.args.id c.machine.view_is c.is_unnumbered.ensures c.row-row.ensures) c.in-Ok.ensures.usable (seen_desk c.machine.view_is)
    (λ s h there. on_disk g.G.Ground.state c.anchor.new.self.known (with_book_of (with_anchor c.args.id i.number) s).volume (c.anchor.ensures.disk ∙ seen_disk c.machine.view_is)
    (c.in-Ok.ensures.ok s.volume i (seen_at g.G.Ground.state s.volume c.machine.view_is h.volume) there))
