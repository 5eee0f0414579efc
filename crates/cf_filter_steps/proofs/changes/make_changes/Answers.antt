use Rattle.cf_filter_steps.proofs.Changing.{changes_end, changes_exit, changes_more}
use Rattle.cf_filter_steps.proofs.changes.make_changes.Goals as goal

pub returns-in_err-change_copied : goal.returns-in_err-change_copied
returns-in_err-change_copied g c = changes_exit g.S.Steps.sense c.args.changes.now c.args.changes.now c.loop-change.change-index c.change-item.result c.args.s.now c.loop-change.s c.in_err-change_copied.field-0.0 c.from_residual.result c.change_copied.new.s
    c.loop-change.invariant c.loop-change-test.true c.change-item.is c.in_err-change_copied.ensures.does c.from_residual.ensures.1

pub loop-change-preserved : goal.loop-change-preserved
loop-change-preserved g c = λ r u d. c.loop-change.invariant r u
    (changes_more g.S.Steps.sense c.args.changes.now c.loop-change.change-index c.change-item.result c.loop-change.s c.change_copied.new.s _ r u c.loop-change-test.true c.change-item.is c.in_ok-change_copied.ensures.does d)

pub returns : goal.returns
returns g c = changes_end g.S.Steps.sense c.args.changes.now c.args.changes.now c.loop-change.change-index c.args.s.now c.loop-change.s c.loop-change.invariant c.loop-change-test.false
