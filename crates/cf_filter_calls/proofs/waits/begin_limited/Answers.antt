use Rattle.cf_filter_steps.specs.Needing.{meant}
use Rattle.cf_filter_calls.proofs.Begun.{start_by, start_not}
use Rattle.cf_filter_calls.proofs.waits.begin_limited.Goals as goal

pub returns-in-Ok : goal.returns-in-Ok
returns-in-Ok g c = start_by g.S.Steps.sense (meant c.args.need.now) c.start.result c.in-Ok.begun c.args.s.now c.start.new.self c.tell_begun-told.new.s c.tell_begun-told.result c.start.ensures c.in-Ok.is c.tell_begun-told.ensures

pub returns-in-Err : goal.returns-in-Err
returns-in-Err g c = start_not g.S.Steps.sense (meant c.args.need.now) c.start.result c.in-Err.fail c.args.s.now c.start.new.self c.refused_by.result c.start.ensures c.in-Err.is c.refused_by.ensures
