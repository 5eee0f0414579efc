use Rattle.cf_filter.proofs.Ported.{lost_note, noted_goes}
use Rattle.cf_filter.proofs.ports.FilterOnPort.note.Goals as goal

pub returns-in-Ok : goal.returns-in-Ok
returns-in-Ok g c = noted_goes g.G.Ground.state c.args.self.now _ c.args.n c.in-Ok.ensures.ok

pub returns-in-Err : goal.returns-in-Err
returns-in-Err g c = lost_note g.G.Ground.state c.args.self.now _ _ c.in-Err.ensures.err c.lose.ensures
