use Rattle.cf_base.specs.declared.answers.Shown.TheVariants as shown
use Rattle.cf_model.specs.Arrows.{reading}
use Rattle.cf_model.specs.Calls.{count_now, flush, show_count}
use Rattle.cf_model.specs.Points.{commit}
use Rattle.cf_model.specs.State.{in_volume}
use Rattle.cf_filter_steps.specs.Answering.{Any}
use Rattle.cf_filter_steps.proofs.Laws.{any_on, reads_on, returned, stops_first, with_err}
use Rattle.cf_filter_calls.proofs.commits.flush.Goals as goal

pub returns-in_err-commit : goal.returns-in_err-commit
returns-in_err-commit g c = with_err g.S.Steps.sense Any flush c.args.s.now c.commit.new.self c.in_err-commit.field-0.0 c.from_residual.result c.from_residual.ensures.1
    (stops_first g.S.Steps.sense Any (in_volume commit) (reading count_now show_count) c.args.s.now c.commit.new.self c.in_err-commit.field-0.0 c.in_err-commit.ensures)

pub returns : goal.returns
returns g c = any_on g.S.Steps.sense (in_volume commit) (reading count_now show_count) c.args.s.now c.commit.new.self c.commit.new.self c.in_ok-commit.field-0 _ c.in_ok-commit.ensures
    (reads_on g.S.Steps.sense Any count_now show_count c.commit.new.self c.commit.new.self c.count-count.result _ c.count-count.ensures (returned g.S.Steps.sense Any (shown.Count c.count-count.result) c.commit.new.self))
