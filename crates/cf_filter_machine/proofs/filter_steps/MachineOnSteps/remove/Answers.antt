use Rattle.std.proofs.Common.{◌++◌, ◌∷◌, [], ◌∙◌, ap}
use Rattle.cf_base.specs.declared.changes.Change.TheVariants as change
use Rattle.cf_base.specs.declared.codes.CallError.TheVariants.{OutOfMemory}
use Rattle.cf_base.specs.declared.notices.Notice.TheVariants as notice
use Rattle.cf_filter_machine.proofs.DeskSteps.{seen_at, seen_cause, seen_desk, seen_leaves, seen_runs, seen_whole}
use Rattle.cf_filter_machine.proofs.RemoveSteps.{removed_lost, removed_stopped, removed_told}
use Rattle.cf_filter_machine.proofs.Shown.{seen_stays}
use Rattle.cf_filter_desk.specs.Desks.{Desk}
use Rattle.cf_filter_machine.specs.Sensing.{sense}
use Rattle.cf_volume_points.specs.At.{StandsLast}
use Rattle.cf_filter_steps.proofs.Laws.{with_err}
use Rattle.cf_filter_steps.specs.Putting.{MayGo, removed}
use Rattle.cf_filter_machine.proofs.filter_steps.MachineOnSteps.remove.Goals as goal

pub returns-in_err-number-clause-does : goal.returns-in_err-number-clause-does
returns-in_err-number-clause-does g c = λ i.
    with_err (sense g.G.Ground.state) (MayGo c.args.item i) (removed c.args.bury i) c.args.self.now _ c.in_err-number.field-0.0 c.from_residual.result c.from_residual.ensures.1
    (removed_stopped g.G.Ground.state c.args.self.now c.args.item c.args.bury i c.remove_item.new.volume.disk
    (record { same_size = g.met.G.Ground.same_size c.remove_item.new.volume.disk })
    (λ v at. seen_leaves g.G.Ground.state (g.G.Ground.state c.remove_item.new.volume.disk) (StandsLast v) c.self.view_is (c.in_err-number.ensures.crash v (seen_at g.G.Ground.state v c.self.view_is at)))
    (seen_runs g.G.Ground.state (g.G.Ground.state c.remove_item.new.volume.disk) c.self.view_is c.in_err-number.ensures.runs)
    c.remove_item.new.volume.known c.self.inside.desk c.in_err-number.field-0.0 (seen_desk c.self.view_is)
    (λ s h p. c.in_err-number.ensures.only s.volume (seen_at g.G.Ground.state s.volume c.self.view_is h.volume) p.left (seen_whole c.self.view_is h.whole))
    (seen_cause g.G.Ground.state (g.G.Ground.state c.remove_item.new.volume.disk) c.in_err-number.field-0.0 c.self.view_is c.in_err-number.ensures.cause)
    (seen_stays c.in_err-number.field-0.0 c.remove_item.new.volume.known c.self.view_is c.in_err-number.ensures.stays))

pub returns-in_err-note-clause-does : goal.returns-in_err-note-clause-does
returns-in_err-note-clause-does g c = λ i.
    with_err (sense g.G.Ground.state) (MayGo c.args.item i) (removed c.args.bury i) c.args.self.now _ OutOfMemory c.from_residual-in_err-note.result c.from_residual-in_err-note.ensures.1
    (removed_lost g.G.Ground.state c.args.self.now c.args.item c.args.bury i c.remove_item.new.volume.disk
    (record { same_size = g.met.G.Ground.same_size c.remove_item.new.volume.disk })
    (λ v at. seen_leaves g.G.Ground.state (g.G.Ground.state c.remove_item.new.volume.disk) (StandsLast v) c.self.view_is (c.in_ok-number.ensures.crash v (seen_at g.G.Ground.state v c.self.view_is at)))
    (seen_runs g.G.Ground.state (g.G.Ground.state c.remove_item.new.volume.disk) c.self.view_is c.in_ok-number.ensures.runs)
    c.remove_item.new.volume.known c.note.new.self)

pub returns-clause-does : goal.returns-clause-does
returns-clause-does g c = λ i.
    removed_told g.G.Ground.state c.args.self.now c.args.item c.args.bury i c.remove_item.new.volume.disk
    (record { same_size = g.met.G.Ground.same_size c.remove_item.new.volume.disk })
    (λ v at. seen_leaves g.G.Ground.state (g.G.Ground.state c.remove_item.new.volume.disk) (StandsLast v) c.self.view_is (c.in_ok-number.ensures.crash v (seen_at g.G.Ground.state v c.self.view_is at)))
    (seen_runs g.G.Ground.state (g.G.Ground.state c.remove_item.new.volume.disk) c.self.view_is c.in_ok-number.ensures.runs)
    c.remove_item.new.volume.known c.note.new.self c.in_ok-number.number c.in_ok-number.ensures.usable
    (c.in_ok-note.ensures.ok ∙ ap (λ (d : Desk). record d { notes = d.notes ++ notice.Change c.in_ok-number.number (change.Remove c.args.item) ∷ [] }) (seen_desk c.self.view_is))
    (λ s h. c.in_ok-number.ensures.number s.volume (seen_at g.G.Ground.state s.volume c.self.view_is h.volume))
    (λ s h p. c.in_ok-number.ensures.fits s.volume i (seen_at g.G.Ground.state s.volume c.self.view_is h.volume) p.there p.below h.kept.book.fits h.kept.book.graves)
    (λ s h p. c.in_ok-number.ensures.done s.volume i (seen_at g.G.Ground.state s.volume c.self.view_is h.volume) p.there p.below h.kept.book.fits h.kept.book.graves)

pub returns-clause-same : goal.returns-clause-same
returns-clause-same g c = ap (λ (d : Desk). d.waiting) c.in_ok-note.ensures.ok ∙ ap (λ (d : Desk). d.waiting) (seen_desk c.self.view_is)
