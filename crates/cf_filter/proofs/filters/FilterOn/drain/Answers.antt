use Rattle.std.proofs.Common.{◌+◌, arith}
use Rattle.cf_filter.proofs.Drained.{drains_by, drains_exit, drains_more, drains_none, drains_out, drains_wider}
use Rattle.cf_model.specs.Numbers.{most}
use Rattle.cf_filter.proofs.filters.FilterOn.drain.Goals as goal

pub returns-in_default : goal.returns-in_default
returns-in_default g c =
    c.loop-called.invariant 0 _ _ _ (omega arith) (drains_none g.G.Ground.state g.P.Provider.answers 0 c.loop-called.p c.loop-called.self c.next_ask.new.self c.in_default.ensures.none.0 c.in_default.ensures.none.1)

pub returns-in_err-call_back : goal.returns-in_err-call_back
returns-in_err-call_back g c =
    c.loop-called.invariant 1 _ _ _ (omega arith)
    (drains_exit g.G.Ground.state g.P.Provider.answers c.loop-called.p c.call_back.new.p c.loop-called.self c.next_ask.new.self c.call_back.new.self c.in-Some.ask c.in_err-call_back.field-0.0 c.from_residual.result c.in-Some.ensures.some c.in_err-call_back.ensures c.from_residual.ensures.1)

pub loop-called-init : goal.loop-called-init
loop-called-init g c = λ n r q y le drains. drains_by g.G.Ground.state g.P.Provider.answers c.args.p.now q c.args.self.now y r (drains_wider g.G.Ground.state g.P.Provider.answers n most c.args.p.now q c.args.self.now y r (omega (arith, le)) drains)

pub loop-called-preserved : goal.loop-called-preserved
loop-called-preserved g c = λ n r q y le more.
    c.loop-called.invariant (n + 1) r q y (omega (arith, le))
    (drains_more g.G.Ground.state g.P.Provider.answers n c.loop-called.p c.call_back.new.p q c.loop-called.self c.next_ask.new.self c.call_back.new.self y c.in-Some.ask r c.in-Some.ensures.some c.in_ok-call_back.ensures more)

pub returns : goal.returns
returns g c = c.loop-called.invariant 0 _ _ _ (omega arith) (drains_out g.G.Ground.state g.P.Provider.answers 0 c.loop-called.p c.loop-called.self)
