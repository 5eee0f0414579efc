use Rattle.cf_filter_calls.proofs.Opened.{up}
use Rattle.cf_filter_calls.proofs.handles.link_up.Goals as goal

pub returns : goal.returns
returns g c = up g.S.Steps.sense c.args.s.now c.set_connected.new.self c.set_connected.ensures
