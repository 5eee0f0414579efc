use Rattle.std.proofs.Common.{◌++◌, ◌∷◌, [], ◌∙◌, ap, refl}
use Rattle.cf_base.specs.declared.codes.CallError.TheVariants.{OutOfMemory}
use Rattle.cf_base.specs.declared.notices.Notice.TheVariants as notice
use Rattle.cf_filter_machine.proofs.EnterSteps.{entered_one, enters_err, enters_lost, entry_lost, entry_stopped, listed, plain}
use Rattle.cf_filter_machine.specs.Entering.{Coming, IsReadyEntry, held}
use Rattle.cf_filter_desk.specs.Desks.{Desk}
use Rattle.cf_model.specs.Changes.{change, same_book}
use Rattle.cf_filter_machine.proofs.entry_lists.enter_one.Goals as goal

pub returns-in_err-line-clause-does : goal.returns-in_err-line-clause-does
returns-in_err-line-clause-does g c = λ dir.
    enters_err g.G.Ground.state dir (Coming g.G.Ground.state dir) (λ s. IsReadyEntry dir c.args.change.now s.volume) (change c.args.change.now) (held c.args.volume.now c.args.desk.now) _ OutOfMemory c.from_residual.result c.from_residual.ensures.1
    (enters_lost g.G.Ground.state dir (Coming g.G.Ground.state dir) (λ s. IsReadyEntry dir c.args.change.now s.volume) (change c.args.change.now) (held c.args.volume.now c.args.desk.now))

pub returns-in_err-number-clause-does : goal.returns-in_err-number-clause-does
returns-in_err-number-clause-does g c = λ dir.
    enters_err g.G.Ground.state dir (Coming g.G.Ground.state dir) (λ s. IsReadyEntry dir c.args.change.now s.volume) (change c.args.change.now) (held c.args.volume.now c.args.desk.now) _ c.in_err-number.field-0.0 c.from_residual-in_err-number.result c.from_residual-in_err-number.ensures.1
    (entry_stopped g.G.Ground.state dir (held c.args.volume.now c.args.desk.now) c.args.change.now same_book c.put_entry.new.volume.disk
    (record { same_size = g.met.G.Ground.same_size c.put_entry.new.volume.disk })
    c.in_err-number.ensures.crash c.in_err-number.ensures.runs
    (Coming g.G.Ground.state dir) (λ s. IsReadyEntry dir c.args.change.now s.volume) c.put_entry.new.volume.known c.args.desk.now c.in_err-number.field-0.0 refl c.in_err-number.ensures.stays
    (λ s h p. (c.in_err-number.ensures.only s.volume h.volume p.room h.whole, (plain c.args.change.now (listed dir c.args.change.now s.volume p.entry)).room s.volume))
    c.in_err-number.ensures.cause)

pub returns-in_err-note-clause-does : goal.returns-in_err-note-clause-does
returns-in_err-note-clause-does g c = λ dir.
    enters_err g.G.Ground.state dir (Coming g.G.Ground.state dir) (λ s. IsReadyEntry dir c.args.change.now s.volume) (change c.args.change.now) (held c.args.volume.now c.args.desk.now) _ OutOfMemory c.from_residual-in_err-note.result c.from_residual-in_err-note.ensures.1
    (entry_lost g.G.Ground.state dir (held c.args.volume.now c.args.desk.now) c.args.change.now same_book c.put_entry.new.volume.disk
    (record { same_size = g.met.G.Ground.same_size c.put_entry.new.volume.disk })
    c.in_ok-number.ensures.crash c.in_ok-number.ensures.runs
    (Coming g.G.Ground.state dir) (λ s. IsReadyEntry dir c.args.change.now s.volume) c.put_entry.new.volume.known (held c.put_entry.new.volume c.note.new.self) refl c.in_ok-number.ensures.ok)

pub returns-in_err-note-clause-same : goal.returns-in_err-note-clause-same
returns-in_err-note-clause-same g c = ap (λ (d : Desk). d.waiting) c.in_err-note.ensures.err

pub returns-clause-does : goal.returns-clause-does
returns-clause-does g c = λ dir.
    entered_one g.G.Ground.state dir (held c.args.volume.now c.args.desk.now) c.args.change.now same_book c.put_entry.new.volume.disk
    (record { same_size = g.met.G.Ground.same_size c.put_entry.new.volume.disk })
    c.in_ok-number.ensures.crash c.in_ok-number.ensures.runs
    c.put_entry.new.volume.known c.note.new.self c.in_ok-number.number c.in_ok-number.ensures.listed c.in_ok-number.ensures.usable
    (c.in_ok-note.ensures.ok ∙ (λ j. record c.args.desk.now { notes = c.args.desk.now.notes ++ notice.Change c.in_ok-number.number (c.in_ok-line.ensures j) ∷ [] }))
    c.in_ok-number.ensures.number c.in_ok-number.ensures.ok

pub returns-clause-same : goal.returns-clause-same
returns-clause-same g c = ap (λ (d : Desk). d.waiting) c.in_ok-note.ensures.ok
