use Rattle.cf_model.specs.Settling.{end_wait}
use Rattle.cf_filter_steps.specs.Settled.{IsEndOnFile}
use Rattle.cf_filter_steps.proofs.AskRule.{files_left}
use Rattle.cf_filter_steps.proofs.Laws.{all_ends, all_exits, all_more}
use Rattle.cf_filter_steps.proofs.ask_steps.end_all.Goals as goal

pub returns-in_err-end_wait : goal.returns-in_err-end_wait
returns-in_err-end_wait g c = all_exits g.S.Steps.sense IsEndOnFile end_wait c.args.ended.now c.args.ended.now c.loop-e.e-index c.e-item.result c.args.s.now c.loop-e.s c.in_err-end_wait.field-0.0 c.from_residual.result c.end_wait.new.self
    c.loop-e.invariant c.loop-e-test.true c.e-item.is c.in_err-end_wait.ensures c.from_residual.ensures.1

pub loop-e-preserved : goal.loop-e-preserved
loop-e-preserved g c = λ r u d. c.loop-e.invariant r u
    (all_more g.S.Steps.sense IsEndOnFile end_wait c.args.ended.now c.loop-e.e-index c.e-item.result c.loop-e.s c.end_wait.new.self _ r u files_left c.loop-e-test.true c.e-item.is c.in_ok-end_wait.ensures d)

pub returns : goal.returns
returns g c = all_ends g.S.Steps.sense IsEndOnFile end_wait c.args.ended.now c.args.ended.now c.loop-e.e-index c.args.s.now c.loop-e.s c.loop-e.invariant c.loop-e-test.false
