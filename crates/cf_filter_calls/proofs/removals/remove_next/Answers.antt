use Rattle.cf_filter_calls.specs.Moved.{removed_next}
use Rattle.cf_filter_steps.specs.Putting.{MayGo}
use Rattle.cf_filter_steps.proofs.Laws.{with_err}
use Rattle.cf_filter_calls.proofs.Moved.{removed_not, removed_on}
use Rattle.cf_filter_calls.proofs.removals.remove_next.Goals as goal

pub returns-in_err-remove : goal.returns-in_err-remove
returns-in_err-remove g c = λ i. with_err g.S.Steps.sense (MayGo c.args.id i) (removed_next c.args.mode i) c.args.s.now c.remove.new.self c.in_err-remove.field-0.0 c.from_residual.result c.from_residual.ensures.1
    (removed_not g.S.Steps.sense c.args.id c.args.mode c.is_replay-bury.result c.in_err-remove.field-0.0 c.args.s.now c.remove.new.self c.is_replay-bury.ensures c.in_err-remove.ensures.does i)

pub returns : goal.returns
returns g c = removed_on g.S.Steps.sense c.args.id c.args.mode c.is_replay-bury.result c.in_ok-remove.field-0 c.args.s.now c.remove.new.self c.is_replay-bury.ensures c.in_ok-remove.ensures.does
