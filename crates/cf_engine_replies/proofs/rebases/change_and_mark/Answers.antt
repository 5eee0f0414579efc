use Rattle.cf_engine_queue.specs.Books.{entry_value}
use Rattle.cf_engine_replies.specs.Rebases.{change_and_mark}
use Rattle.cf_engine_steps.specs.Answering.{On}
use Rattle.cf_engine_steps.specs.States.{whole}
use Rattle.cf_filter_steps.specs.Suiting.{Ready}
use Rattle.cf_engine_steps.proofs.Laws.{with_err}
use Rattle.cf_engine_replies.proofs.Rebased.{change_lost, changed}
use Rattle.cf_engine_replies.proofs.rebases.change_and_mark.Goals as goal

pub returns-in_err-change_copied : goal.returns-in_err-change_copied
returns-in_err-change_copied g c = with_err (whole g.S.Steps.sense g.R.Remote.told) (On (Ready c.args.change.now)) (change_and_mark (entry_value c.args.entry.now) c.args.change.now) (c.args.s.now, c.args.e.now) (c.change_copied.new.s, c.args.e.now) c.in_err-change_copied.field-0.0 c.from_residual.result c.from_residual.ensures.1
    (change_lost g.S.Steps.sense g.R.Remote.told (entry_value c.args.entry.now) c.args.change.now c.args.s.now c.change_copied.new.s c.args.e.now c.in_err-change_copied.field-0.0 c.in_err-change_copied.ensures.does)

pub returns : goal.returns
returns g c = changed g.S.Steps.sense g.R.Remote.told (entry_value c.args.entry.now) c.args.change.now c.args.s.now c.change_copied.new.s c.see_and_mark.new.s c.args.e.now c.see_and_mark.new.e c.in_ok-change_copied.field-0 c.see_and_mark.result c.in_ok-change_copied.ensures.does c.see_and_mark.ensures
