use Rattle.std.proofs.Common.{◌++◌, ◌∷◌, [], ◌∙◌, ap, refl, subst, sym}
use Rattle.cf_base.specs.declared.codes.CallError.TheVariants.{OutOfMemory}
use Rattle.std.specs.Prelude.{Err, Ok}
use Rattle.cf_base.specs.declared.notices.Notice.TheVariants as notice
use Rattle.cf_filter_machine.proofs.ChangeSteps.{accessed_put, later, not_refused, put_lost, put_stops_by, put_told, suited}
use Rattle.cf_filter_machine.proofs.DeskSteps.{desk_lost, on_disk, seen_at, seen_cause, seen_desk, seen_leaves, seen_runs, seen_whole}
use Rattle.cf_filter_machine.proofs.Keepable.{keepable}
use Rattle.cf_filter_machine.proofs.ReadSteps.{with_memory}
use Rattle.cf_filter_machine.proofs.RoomReads.{fits_book}
use Rattle.cf_filter_machine.proofs.Shown.{seen_same}
use Rattle.cf_filter_desk.specs.Desks.{Desk}
use Rattle.cf_filter_machine.specs.Sensing.{sense}
use Rattle.cf_model.specs.Arrows.{unit}
use Rattle.cf_model.specs.Books.{with_access}
use Rattle.cf_model.specs.Changes.{change_with}
use Rattle.cf_volume_points.specs.At.{StandsEither, StandsLast}
use Rattle.cf_filter_steps.proofs.Laws.{with_err}
use Rattle.cf_filter_steps.specs.Answering.{Answers}
use Rattle.cf_filter_steps.specs.Putting.{ReadyOn}
use Rattle.cf_filter_machine.proofs.filter_steps.MachineOnSteps.put.Goals as goal

pub apply-requires-clause-fits : goal.apply-requires-clause-fits
apply-requires-clause-fits g c = c.fits.ensures.fits c.if-not-fits.false

pub apply-requires-clause-next : goal.apply-requires-clause-next
apply-requires-clause-next g c = c.fits.ensures.next c.if-not-fits.false

pub returns-then-not-fits-clause-does : goal.returns-then-not-fits-clause-does
returns-then-not-fits-clause-does g c =
    desk_lost g.G.Ground.state (ReadyOn c.args.item c.args.change) (change_with (with_access c.args.item) c.args.change) c.args.self.now _ c.args.self.now.desk refl

pub returns-in-Err-clause-does : goal.returns-in-Err-clause-does
returns-in-Err-clause-does g c =
    put_stops_by g.G.Ground.state (ReadyOn c.args.item c.args.change) c.args.self.now (with_access c.args.item) c.args.change c.apply.new.self.disk
    (record { same_size = g.met.G.Ground.same_size c.apply.new.self.disk })
    (λ v at keep. seen_leaves g.G.Ground.state (g.G.Ground.state c.apply.new.self.disk) (StandsEither v) c.self.view_is (c.in-Err.ensures.crash v (seen_at g.G.Ground.state v c.self.view_is at) keep))
    (λ v at none. seen_leaves g.G.Ground.state (g.G.Ground.state c.apply.new.self.disk) (StandsLast v) c.self.view_is (c.in-Err.ensures.kept_crash v (seen_at g.G.Ground.state v c.self.view_is at) none))
    (seen_runs g.G.Ground.state (g.G.Ground.state c.apply.new.self.disk) c.self.view_is c.in-Err.ensures.runs)
    c.apply.new.self.known c.self.inside.desk c.in-Err.error (Err c.in-Err.error) refl (seen_desk c.self.view_is)
    (seen_same c.apply.new.self.known c.self.view_is c.in-Err.ensures.stays)
    (λ s h p. not_refused c.args.change s.volume c.self.inside.volume c.apply.new.self c.in-Err.error p.ready.room
    (c.in-Err.ensures.why s.volume (seen_at g.G.Ground.state s.volume c.self.view_is h.volume) (λ _. keepable s.volume h.kept) (seen_whole c.self.view_is h.whole)))
    (seen_cause g.G.Ground.state (g.G.Ground.state c.apply.new.self.disk) c.in-Err.error c.self.view_is c.in-Err.ensures.cause)

pub returns-then-is_none-clause-does : goal.returns-then-is_none-clause-does
returns-then-is_none-clause-does g c =
    put_lost g.G.Ground.state (ReadyOn c.args.item c.args.change) c.args.self.now (with_access c.args.item) c.args.change c.apply.new.self.disk
    (record { same_size = g.met.G.Ground.same_size c.apply.new.self.disk })
    (λ v at keep. seen_leaves g.G.Ground.state (g.G.Ground.state c.apply.new.self.disk) (StandsEither v) c.self.view_is (c.in-Ok.ensures.crash v (seen_at g.G.Ground.state v c.self.view_is at) keep))
    (λ v at none. seen_leaves g.G.Ground.state (g.G.Ground.state c.apply.new.self.disk) (StandsLast v) c.self.view_is (c.in-Ok.ensures.kept_crash v (seen_at g.G.Ground.state v c.self.view_is at) none))
    (seen_runs g.G.Ground.state (g.G.Ground.state c.apply.new.self.disk) c.self.view_is c.in-Ok.ensures.runs)
    _ c.apply.new.self.known refl
    (λ s h p. suited g.G.Ground.state c.args.self.now (g.G.Ground.state c.apply.new.self.disk) c.apply.new.self.known c.args.change s h p.ready.suits
    (c.in-Ok.ensures.ok s.volume (seen_at g.G.Ground.state s.volume c.self.view_is h.volume) (fits_book c.args.change s.volume.items s.volume.next_item s.volume.book p.ready.suits.plants) (λ _. keepable s.volume h.kept)))

pub returns-in-Err-touch-clause-does : goal.returns-in-Err-touch-clause-does
returns-in-Err-touch-clause-does g c =
    with_memory g.G.Ground.state (ReadyOn c.args.item c.args.change) (change_with (with_access c.args.item) c.args.change) c.args.self.now _ c.in-Err-touch.error (Err c.in-Err-touch.error) refl
    (c.in-Err-touch.ensures.only c.in-Ok.ensures.usable)
    (put_lost g.G.Ground.state (ReadyOn c.args.item c.args.change) c.args.self.now (with_access c.args.item) c.args.change c.apply.new.self.disk
    (record { same_size = g.met.G.Ground.same_size c.apply.new.self.disk })
    (λ v at keep. seen_leaves g.G.Ground.state (g.G.Ground.state c.apply.new.self.disk) (StandsEither v) c.self.view_is (c.in-Ok.ensures.crash v (seen_at g.G.Ground.state v c.self.view_is at) keep))
    (λ v at none. seen_leaves g.G.Ground.state (g.G.Ground.state c.apply.new.self.disk) (StandsLast v) c.self.view_is (c.in-Ok.ensures.kept_crash v (seen_at g.G.Ground.state v c.self.view_is at) none))
    (seen_runs g.G.Ground.state (g.G.Ground.state c.apply.new.self.disk) c.self.view_is c.in-Ok.ensures.runs)
    (record { disk = c.touch.new.self.disk; known = c.touch.new.self.known; desk = c.self.inside.desk }) c.apply.new.self.known c.touch.ensures.disk
    (λ s h p. suited g.G.Ground.state c.args.self.now (g.G.Ground.state c.apply.new.self.disk) c.apply.new.self.known c.args.change s h p.ready.suits
    (c.in-Ok.ensures.ok s.volume (seen_at g.G.Ground.state s.volume c.self.view_is h.volume) (fits_book c.args.change s.volume.items s.volume.next_item s.volume.book p.ready.suits.plants) (λ _. keepable s.volume h.kept))))

pub returns-in_err-note-clause-does : goal.returns-in_err-note-clause-does
returns-in_err-note-clause-does g c =
    with_err (sense g.G.Ground.state) (ReadyOn c.args.item c.args.change) (change_with (with_access c.args.item) c.args.change) c.args.self.now _ OutOfMemory c.from_residual.result c.from_residual.ensures.1
    (put_lost g.G.Ground.state (ReadyOn c.args.item c.args.change) c.args.self.now (with_access c.args.item) c.args.change c.apply.new.self.disk
    (record { same_size = g.met.G.Ground.same_size c.apply.new.self.disk })
    (λ v at keep. seen_leaves g.G.Ground.state (g.G.Ground.state c.apply.new.self.disk) (StandsEither v) c.self.view_is (c.in-Ok.ensures.crash v (seen_at g.G.Ground.state v c.self.view_is at) keep))
    (λ v at none. seen_leaves g.G.Ground.state (g.G.Ground.state c.apply.new.self.disk) (StandsLast v) c.self.view_is (c.in-Ok.ensures.kept_crash v (seen_at g.G.Ground.state v c.self.view_is at) none))
    (seen_runs g.G.Ground.state (g.G.Ground.state c.apply.new.self.disk) c.self.view_is c.in-Ok.ensures.runs)
    (record { disk = c.touch.new.self.disk; known = c.touch.new.self.known; desk = c.note.new.self }) c.apply.new.self.known c.touch.ensures.disk
    (λ s h p. suited g.G.Ground.state c.args.self.now (g.G.Ground.state c.apply.new.self.disk) c.apply.new.self.known c.args.change s h p.ready.suits
    (c.in-Ok.ensures.ok s.volume (seen_at g.G.Ground.state s.volume c.self.view_is h.volume) (fits_book c.args.change s.volume.items s.volume.next_item s.volume.book p.ready.suits.plants) (λ _. keepable s.volume h.kept))))

pub returns-clause-does : goal.returns-clause-does
returns-clause-does g c =
    subst (λ (z : _). Answers (sense g.G.Ground.state) (ReadyOn c.args.item c.args.change) (change_with (with_access c.args.item) c.args.change) c.args.self.now (Ok unit) (record { disk = z; known = c.touch.new.self.known; desk = c.note.new.self }))
    (sym c.touch.ensures.disk)
    (put_told g.G.Ground.state (ReadyOn c.args.item c.args.change) c.args.self.now (with_access c.args.item) c.args.change c.apply.new.self.disk
    (record { same_size = g.met.G.Ground.same_size c.apply.new.self.disk })
    (λ v at keep. seen_leaves g.G.Ground.state (g.G.Ground.state c.apply.new.self.disk) (StandsEither v) c.self.view_is (c.in-Ok.ensures.crash v (seen_at g.G.Ground.state v c.self.view_is at) keep))
    (λ v at none. seen_leaves g.G.Ground.state (g.G.Ground.state c.apply.new.self.disk) (StandsLast v) c.self.view_is (c.in-Ok.ensures.kept_crash v (seen_at g.G.Ground.state v c.self.view_is at) none))
    (seen_runs g.G.Ground.state (g.G.Ground.state c.apply.new.self.disk) c.self.view_is c.in-Ok.ensures.runs)
    c.touch.new.self.known c.note.new.self c.in-Ok.number c.in_default.ensures.usable
    (c.in_ok-note.ensures.ok ∙ (λ j. record (seen_desk c.self.view_is j) { notes = (seen_desk c.self.view_is j).notes ++ notice.Change c.in-Ok.number c.args.change ∷ [] }))
    (λ s h. c.in-Ok.ensures.number s.volume (seen_at g.G.Ground.state s.volume c.self.view_is h.volume))
    (λ s h p.
    let r = suited g.G.Ground.state c.args.self.now (g.G.Ground.state c.apply.new.self.disk) c.apply.new.self.known c.args.change s h p.ready.suits
    (c.in-Ok.ensures.ok s.volume (seen_at g.G.Ground.state s.volume c.self.view_is h.volume) (fits_book c.args.change s.volume.items s.volume.next_item s.volume.book p.ready.suits.plants) (λ _. keepable s.volume h.kept)) in
    accessed_put (g.G.Ground.state c.apply.new.self.disk) (g.G.Ground.state c.apply.new.self.disk) c.apply.new.self.known c.touch.new.self.known c.args.change c.args.item s p.ready.suits p.file h.good r refl
    (on_disk g.G.Ground.state c.touch.new.self.known (later c.args.change (with_access c.args.item) s.volume r.room) c.touch.ensures.disk (c.in_default.ensures.ok (later c.args.change (λ b. b) s.volume r.room) r.at))))

pub returns-clause-same : goal.returns-clause-same
returns-clause-same g c = ap (λ (d : Desk). d.waiting) (c.in_ok-note.ensures.ok) ∙ ap (λ (d : Desk). d.waiting) (seen_desk c.self.view_is)
