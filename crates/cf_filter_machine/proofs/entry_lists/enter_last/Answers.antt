use Rattle.std.proofs.Common.{◌++◌, ◌∷◌, [], ◌∙◌, ap, refl, subst, sym}
use Rattle.std.specs.Prelude.{Ok}
use Rattle.cf_base.specs.declared.codes.CallError.TheVariants.{OutOfMemory}
use Rattle.cf_base.specs.declared.notices.Notice.TheVariants as notice
use Rattle.cf_filter_machine.proofs.EnterSteps.{entered_last, enters_err, enters_lost, entry_lost, entry_stopped, listed, last_put, plain}
use Rattle.cf_filter_machine.proofs.DeskSteps.{on_disk}
use Rattle.cf_filter_machine.specs.Entering.{Enters, MayEnter, held}
use Rattle.cf_filter_desk.specs.Desks.{Desk}
use Rattle.cf_filter_machine.specs.Sensing.{Stands}
use Rattle.cf_model.specs.Changes.{change_with, put_change, put_with_book}
use Rattle.cf_model.specs.Arrows.{unit}
use Rattle.cf_model.specs.Changes.{next_number}
use Rattle.cf_filter_machine.proofs.entry_lists.enter_last.Goals as goal

pub returns-in_err-line-clause-does : goal.returns-in_err-line-clause-does
returns-in_err-line-clause-does g c = λ dir f.
    enters_err g.G.Ground.state dir (Stands g.G.Ground.state) (MayEnter f dir (c.args.change.now ∷ []) c.args.records.now) (change_with f c.args.change.now) (held c.args.volume.now c.args.desk.now) _ OutOfMemory c.from_residual.result c.from_residual.ensures.1
    (enters_lost g.G.Ground.state dir (Stands g.G.Ground.state) (MayEnter f dir (c.args.change.now ∷ []) c.args.records.now) (change_with f c.args.change.now) (held c.args.volume.now c.args.desk.now))

pub returns-in_err-number-clause-does : goal.returns-in_err-number-clause-does
returns-in_err-number-clause-does g c = λ dir f.
    enters_err g.G.Ground.state dir (Stands g.G.Ground.state) (MayEnter f dir (c.args.change.now ∷ []) c.args.records.now) (change_with f c.args.change.now) (held c.args.volume.now c.args.desk.now) _ c.in_err-number.field-0.0 c.from_residual-in_err-number.result c.from_residual-in_err-number.ensures.1
    (entry_stopped g.G.Ground.state dir (held c.args.volume.now c.args.desk.now) c.args.change.now f c.put_entry.new.volume.disk
    (record { same_size = g.met.G.Ground.same_size c.put_entry.new.volume.disk })
    c.in_err-number.ensures.crash c.in_err-number.ensures.runs
    (Stands g.G.Ground.state) (MayEnter f dir (c.args.change.now ∷ []) c.args.records.now) c.put_entry.new.volume.known c.args.desk.now c.in_err-number.field-0.0 refl c.in_err-number.ensures.stays
    (λ s h p. (c.in_err-number.ensures.only s.volume h.volume p.entries.0.room h.whole, (plain c.args.change.now (listed dir c.args.change.now s.volume p.entries.0.entry)).room s.volume))
    c.in_err-number.ensures.cause)

pub returns-in_err-put_records-clause-does : goal.returns-in_err-put_records-clause-does
returns-in_err-put_records-clause-does g c = λ dir f.
    enters_err g.G.Ground.state dir (Stands g.G.Ground.state) (MayEnter f dir (c.args.change.now ∷ []) c.args.records.now) (change_with f c.args.change.now) (held c.args.volume.now c.args.desk.now) _ OutOfMemory c.from_residual-in_err-put_records.result c.from_residual-in_err-put_records.ensures.1
    (entry_lost g.G.Ground.state dir (held c.args.volume.now c.args.desk.now) c.args.change.now f c.put_entry.new.volume.disk
    (record { same_size = g.met.G.Ground.same_size c.put_entry.new.volume.disk })
    c.in_ok-number.ensures.crash c.in_ok-number.ensures.runs
    (Stands g.G.Ground.state) (MayEnter f dir (c.args.change.now ∷ []) c.args.records.now) c.put_entry.new.volume.known (held c.put_records.new.volume c.args.desk.now) c.put_records.ensures.disk c.in_ok-number.ensures.ok)

pub returns-in_err-note-clause-does : goal.returns-in_err-note-clause-does
returns-in_err-note-clause-does g c = λ dir f.
    enters_err g.G.Ground.state dir (Stands g.G.Ground.state) (MayEnter f dir (c.args.change.now ∷ []) c.args.records.now) (change_with f c.args.change.now) (held c.args.volume.now c.args.desk.now) _ OutOfMemory c.from_residual-in_err-note.result c.from_residual-in_err-note.ensures.1
    (entry_lost g.G.Ground.state dir (held c.args.volume.now c.args.desk.now) c.args.change.now f c.put_entry.new.volume.disk
    (record { same_size = g.met.G.Ground.same_size c.put_entry.new.volume.disk })
    c.in_ok-number.ensures.crash c.in_ok-number.ensures.runs
    (Stands g.G.Ground.state) (MayEnter f dir (c.args.change.now ∷ []) c.args.records.now) c.put_entry.new.volume.known (held c.put_records.new.volume c.note.new.self) c.put_records.ensures.disk c.in_ok-number.ensures.ok)

pub returns-in_err-note-clause-same : goal.returns-in_err-note-clause-same
returns-in_err-note-clause-same g c = ap (λ (d : Desk). d.waiting) c.in_err-note.ensures.err

pub returns-clause-does : goal.returns-clause-does
returns-clause-does g c = λ dir f.
    subst (λ (z : _). Enters g.G.Ground.state dir (Stands g.G.Ground.state) (MayEnter f dir (c.args.change.now ∷ []) c.args.records.now) (change_with f c.args.change.now) (held c.args.volume.now c.args.desk.now) (Ok unit) (record { disk = z; known = c.put_records.new.volume.known; desk = c.note.new.self }))
    (sym c.put_records.ensures.disk)
    (entered_last g.G.Ground.state dir (held c.args.volume.now c.args.desk.now) c.args.change.now f c.put_entry.new.volume.disk
    (record { same_size = g.met.G.Ground.same_size c.put_entry.new.volume.disk })
    c.in_ok-number.ensures.crash c.in_ok-number.ensures.runs
    c.put_records.new.volume.known c.note.new.self c.in_ok-number.number c.args.records.now c.in_ok-number.ensures.listed c.in_ok-put_records.ensures.usable
    (c.in_ok-note.ensures.ok ∙ (λ j. record c.args.desk.now { notes = c.args.desk.now.notes ++ notice.Change c.in_ok-number.number (c.in_ok-line.ensures j) ∷ [] }))
    c.in_ok-number.ensures.number
    (λ s h p.
    let at = c.in_ok-number.ensures.ok s.volume h.volume in
    on_disk g.G.Ground.state c.put_records.new.volume.known (put_with_book f c.args.change.now s.volume) c.put_records.ensures.disk
    (c.in_ok-put_records.ensures.ok (put_change c.args.change.now s.volume) (f (put_change c.args.change.now s.volume).book) at
    (last_put (g.G.Ground.state c.put_entry.new.volume.disk) c.put_entry.new.volume.known c.args.change.now s.volume f c.args.records.now c.in_ok-number.ensures.listed at (next_number s.volume) p.beside)))
    (λ v at. (c.in_ok-number.ensures.ok v at).now.fits))

pub returns-clause-same : goal.returns-clause-same
returns-clause-same g c = ap (λ (d : Desk). d.waiting) c.in_ok-note.ensures.ok
