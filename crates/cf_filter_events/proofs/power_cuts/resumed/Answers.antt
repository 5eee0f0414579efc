use Rattle.std.proofs.Common.{refl}
use Rattle.cf_filter_events.proofs.EventFaults.{shows_none}
use Rattle.cf_filter_events.proofs.Tellings.{tells_resumed}
use Rattle.cf_filter_events.proofs.power_cuts.resumed.Goals as goal

pub returns-clause-told : goal.returns-clause-told
returns-clause-told g c = tells_resumed g.G.Ground.state c.args.filter.now _ _ _ _ c.volume-volume.ensures.known c.count-count.ensures c.in_ok-opened.ensures c.plainly.ensures

pub returns-clause-quiet : goal.returns-clause-quiet
returns-clause-quiet g c = shows_none _ _ c.plainly.ensures refl
