use Rattle.cf_base.specs.declared.codes.CallError.TheVariants as fail
use Rattle.cf_filter_calls.specs.Entering.{IsOpenList, entered}
use Rattle.cf_filter_steps.proofs.Laws.{no_memory, with_err}
use Rattle.cf_filter_calls.proofs.Entered.{entered_as}
use Rattle.cf_filter_calls.proofs.directory_entries.enter_list.Goals as goal

pub returns-then-first-list : goal.returns-then-first-list
returns-then-first-list g c = λ f. no_memory g.S.Steps.sense (IsOpenList f c.args.ask.now.item c.args.list.now c.args.records.now) (entered f c.args.ask.now c.args.list.now) c.args.s.now

pub returns-in_err-changes : goal.returns-in_err-changes
returns-in_err-changes g c = λ f. with_err g.S.Steps.sense (IsOpenList f c.args.ask.now.item c.args.list.now c.args.records.now) (entered f c.args.ask.now c.args.list.now) c.args.s.now c.args.s.now fail.OutOfMemory c.from_residual.result c.from_residual.ensures.1
    (no_memory g.S.Steps.sense (IsOpenList f c.args.ask.now.item c.args.list.now c.args.records.now) (entered f c.args.ask.now c.args.list.now) c.args.s.now)

pub returns : goal.returns
returns g c = entered_as g.S.Steps.sense c.args.s.now c.put_listed.new.s c.args.ask.now c.args.list.now c.args.records.now c.rows.result.now c.policy-policy.result c.next-first.result c.first_number-number.result c.in_ok-changes.changes c.as_slice.result.now c.put_listed.result
    c.rows.ensures.means c.policy-policy.ensures c.next-first.ensures c.first_number-number.ensures c.in_ok-changes.ensures c.as_slice.ensures c.put_listed.ensures
