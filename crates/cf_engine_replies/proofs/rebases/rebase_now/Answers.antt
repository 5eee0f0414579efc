use Rattle.cf_engine_queue.specs.Books.{entry_value}
use Rattle.cf_engine_replies.specs.Rebases.{ReadyWithout, rebase_now}
use Rattle.cf_engine_steps.specs.Answering.{On}
use Rattle.cf_engine_steps.specs.States.{whole}
use Rattle.cf_engine_steps.proofs.Laws.{with_err}
use Rattle.cf_engine_replies.proofs.Rebased.{take_lost, taken_and_changed}
use Rattle.cf_engine_replies.proofs.rebases.rebase_now.Goals as goal

pub returns-in_err-take : goal.returns-in_err-take
returns-in_err-take g c = with_err (whole g.S.Steps.sense g.R.Remote.told) (On (ReadyWithout c.args.entry.now.token c.args.change.now)) (rebase_now (entry_value c.args.entry.now) c.args.change.now) (c.args.s.now, c.args.e.now) (c.take.new.s, c.take.new.e) c.in_err-take.field-0.0 c.from_residual.result c.from_residual.ensures.1
    (take_lost g.S.Steps.sense g.R.Remote.told (entry_value c.args.entry.now) c.args.change.now c.args.s.now c.take.new.s c.args.e.now c.take.new.e c.in_err-take.field-0.0 c.in_err-take.ensures)

pub returns : goal.returns
returns g c = taken_and_changed g.S.Steps.sense g.R.Remote.told (entry_value c.args.entry.now) c.args.change.now c.args.s.now c.take.new.s c.change_and_mark.new.s c.args.e.now c.take.new.e c.change_and_mark.new.e c.in_ok-take.field-0 c.change_and_mark.result c.in_ok-take.ensures c.change_and_mark.ensures
