use Rattle.cf_filter_calls.proofs.Operated.{refusal_is}
use Rattle.cf_filter_calls.proofs.operation_changes.refuse_change.Goals as goal

pub returns : goal.returns
returns g c = refusal_is g.S.Steps.sense c.args.s.now c.args.change.now c.from_ref.result.now c.args.step.now c.requests.result.now c.requests-2.result.now c.in_ok-room.room c.args.counts c.has_too_many_asks-many.result c.has_no_numbers-none.result c.change_code.result
    c.from_ref.ensures.value c.in_ok-room.ensures c.requests.ensures.means c.has_too_many_asks-many.ensures c.requests-2.ensures.means c.has_no_numbers-none.ensures c.change_code.ensures
