use Rattle.cf_filter.proofs.Drained.{turn_lost, turned_by}
use Rattle.cf_filter.proofs.filters.FilterOn.call_back.Goals as goal

pub returns-in_err-call : goal.returns-in_err-call
returns-in_err-call g c = turn_lost g.G.Ground.state g.P.Provider.answers c.args.ask c.args.p.now c.args.self.now c.from_residual.result c.from_residual.ensures.1

pub returns : goal.returns
returns g c =
    turned_by g.G.Ground.state g.P.Provider.answers c.args.ask c.args.p.now _ c.args.self.now _ _ _ _ c.in_ok-call.ensures c.on_callback-told.ensures c.turned.ensures
