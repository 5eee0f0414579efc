use Rattle.cf_link.proofs.Asked.{arrives, unnoted}
use Rattle.cf_link.proofs.links.Link.arrive.Goals as goal

pub returns-clause-arrives : goal.returns-clause-arrives
returns-clause-arrives g c = arrives g.R.Remote.told c.args.number c.in-Some.request c.in_ok-request.field-0 c.in-Some.is c.self.inside.net c.self.inside.remote c.self.inside.inline c.args.self.now c.hand.new.self c.self.view_is c.in_ok-request.ensures.at c.in_ok-line.line c.args.notes.now c.note.new.notes _ c.in_ok-line.ensures.does c.in_ok-line.ensures.rises c.in_ok-note.ensures.ok

pub returns-in_err-note-clause-arrives : goal.returns-in_err-note-clause-arrives
returns-in_err-note-clause-arrives g c = unnoted g.R.Remote.told c.args.number c.in-Some.request c.in_ok-request.field-0 c.in-Some.is c.self.inside.net c.self.inside.remote c.self.inside.inline c.args.self.now c.hand.new.self c.self.view_is c.in_ok-request.ensures.at c.in_ok-line.line c.args.notes.now c.note.new.notes c.from_residual-in_err-note.result c.from_residual-in_err-note.ensures.1 c.in_ok-line.ensures.does c.in_ok-line.ensures.grows c.in_err-note.ensures.err
