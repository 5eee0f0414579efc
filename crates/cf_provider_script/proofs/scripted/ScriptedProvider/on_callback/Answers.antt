use Rattle.std.specs.Prelude.{refl}
use Rattle.cf_provider_script.proofs.Carried.{carried_all, carried_cut, carried_more, carried_none, carried_out_of}
use Rattle.cf_provider_script.proofs.scripted.ScriptedProvider.on_callback.Goals as goal

pub returns-in_err-may_go_on : goal.returns-in_err-may_go_on
returns-in_err-may_go_on g c =
    carried_out_of g.P.Port.goes g.met.P.Port.goes_on c.args.call.now.ask.key c.args.self.now c.args.port.now c.on.result (g.P.Port.sight c.args.port.now) c.args.call.now c.loop-planned.self c.next.new.self c.loop-planned.port c.carry_out.new.port c.in_err-may_go_on.field-0.0 c.from_residual.result
    c.loop-planned.invariant c.in_err-may_go_on.ensures c.from_residual.ensures.1

pub returns-then-not-may_go_on : goal.returns-then-not-may_go_on
returns-then-not-may_go_on g c =
    carried_cut g.P.Port.goes g.met.P.Port.goes_on c.args.call.now.ask.key c.args.self.now c.args.port.now (g.P.Port.sight c.args.port.now) c.args.call.now c.in-Some.planned c.on.result c.in_ok-may_go_on.may_go_on c.loop-planned.self c.next.new.self c.clear.new.self c.loop-planned.port c.carry_out.new.port
    refl c.loop-planned.invariant c.in-Some.ensures.some c.on.ensures c.if-not-may_go_on.true c.in_ok-may_go_on.ensures c.clear.ensures

pub loop-planned-init : goal.loop-planned-init
loop-planned-init g c = carried_none g.P.Port.goes g.met.P.Port.goes_on c.args.call.now.ask.key c.args.self.now c.args.port.now g.met.P.Port.stays

pub loop-planned-preserved : goal.loop-planned-preserved
loop-planned-preserved g c =
    carried_more g.P.Port.goes g.met.P.Port.goes_on c.args.call.now.ask.key c.args.self.now c.args.port.now c.in-Some.planned c.on.result c.in_ok-may_go_on.may_go_on c.loop-planned.self c.next.new.self c.loop-planned.port c.carry_out.new.port
    c.loop-planned.invariant c.in-Some.ensures.some c.on.ensures c.if-not-may_go_on.false c.in_ok-may_go_on.ensures

pub returns : goal.returns
returns g c =
    carried_all g.P.Port.goes g.met.P.Port.goes_on c.args.call.now.ask.key c.args.self.now c.args.port.now (g.P.Port.sight c.args.port.now) c.args.call.now c.loop-planned.self c.next.new.self c.loop-planned.port refl c.loop-planned.invariant c.in_default.ensures.none.0 c.in_default.ensures.none.1
