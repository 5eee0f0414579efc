use Rattle.std.proofs.Common.{refl}
use Rattle.std.specs.Prelude.{Err}
use Rattle.cf_filter.proofs.Drained.{calls_cut, calls_end, calls_stopped, drains_as}
use Rattle.cf_filter.proofs.filters.FilterOn.drained.Goals as goal

pub returns-in_err-shown : goal.returns-in_err-shown
returns-in_err-shown g c = λ part x s h.
    calls_stopped g.G.Ground.state g.P.Provider.answers part c.args.p.now x c.args.self.now s c.args.told c.from_residual.result c.in_err-shown.field-0.0 h c.in_err-shown.was c.from_residual.ensures.1

pub returns-in-Err : goal.returns-in-Err
returns-in-Err g c = λ part x s h.
    calls_cut g.G.Ground.state g.P.Provider.answers part c.args.p.now c.drain.new.p x c.args.self.now c.drain.new.self s c.args.told (Err c.in-Err.fail) _ c.in-Err.fail h c.in_ok-shown.was (drains_as g.G.Ground.state g.P.Provider.answers _ _ _ _ _ c.in-Err.ensures) refl

pub returns-in-Ok : goal.returns-in-Ok
returns-in-Ok g c = λ part x s h.
    calls_end g.G.Ground.state g.P.Provider.answers part c.args.p.now c.drain.new.p x c.args.self.now c.drain.new.self c.end_call.new.self s c.args.told _ _ _ h c.in_ok-shown.was (drains_as g.G.Ground.state g.P.Provider.answers _ _ _ _ _ c.in-Ok.ensures) c.end_call.ensures.answer c.end_call.ensures.desk
