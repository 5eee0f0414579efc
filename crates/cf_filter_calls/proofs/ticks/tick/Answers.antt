use Rattle.cf_model.specs.Arrows.{each, noted, reading, then_do}
use Rattle.cf_model.specs.Operations.{done}
use Rattle.cf_model.specs.Waits.{expire, expired_keys, tick, with_time}
use Rattle.cf_filter_steps.specs.Answering.{Any}
use Rattle.cf_filter_steps.proofs.Laws.{stops_first, with_err}
use Rattle.cf_filter_calls.proofs.Ticked.{ticked_not, ticked_on}
use Rattle.cf_filter_calls.proofs.ticks.tick.Goals as goal

pub returns-in_err-pass : goal.returns-in_err-pass
returns-in_err-pass g c = with_err g.S.Steps.sense Any (tick c.args.ticks) c.args.s.now c.pass.new.self c.in_err-pass.field-0.0 c.from_residual.result c.from_residual.ensures.1
    (stops_first g.S.Steps.sense Any (noted (with_time c.args.ticks)) (then_do (reading expired_keys (each expire)) done) c.args.s.now c.pass.new.self c.in_err-pass.field-0.0 c.in_err-pass.ensures)

pub returns-in_err-end_expired : goal.returns-in_err-end_expired
returns-in_err-end_expired g c = with_err g.S.Steps.sense Any (tick c.args.ticks) c.args.s.now c.end_expired.new.s c.in_err-end_expired.field-0.0 c.from_residual-in_err-end_expired.result c.from_residual-in_err-end_expired.ensures.1
    (ticked_not g.S.Steps.sense c.args.ticks c.in_ok-pass.field-0 c.in_err-end_expired.field-0.0 c.args.s.now c.pass.new.self c.end_expired.new.s c.in_ok-pass.ensures c.in_err-end_expired.ensures)

pub returns : goal.returns
returns g c = ticked_on g.S.Steps.sense c.args.ticks c.in_ok-pass.field-0 c.in_ok-end_expired.field-0 c.args.s.now c.pass.new.self c.end_expired.new.s c.in_ok-pass.ensures c.in_ok-end_expired.ensures
