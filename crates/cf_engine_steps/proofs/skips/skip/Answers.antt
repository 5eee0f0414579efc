use Rattle.cf_base.specs.declared.codes.CallError.TheVariants.{OutOfMemory}
use Rattle.cf_engine_steps.specs.Answering.{Any}
use Rattle.cf_engine_steps.specs.States.{whole}
use Rattle.cf_model.specs.Skips.{skip}
use Rattle.cf_engine_steps.proofs.Laws.{with_err}
use Rattle.cf_engine_steps.proofs.LeftOut.{skip_fails, skip_full, skip_ok}
use Rattle.cf_engine_steps.proofs.skips.skip.Goals as goal

pub returns-in_err-note_skip : goal.returns-in_err-note_skip
returns-in_err-note_skip g c = with_err (whole g.S.Steps.sense g.R.Remote.told) Any (skip c.args.code) (c.args.s.now, c.args.e.now) (c.note_skip.new.s, c.args.e.now) c.in_err-note_skip.field-0.0 c.from_residual.result c.from_residual.ensures.1
    (skip_fails g.S.Steps.sense g.R.Remote.told c.args.code c.args.s.now c.note_skip.new.s c.args.e.now c.shows_skips-shows.result c.in_err-note_skip.field-0.0 c.shows_skips-shows.ensures c.in_err-note_skip.ensures)

pub returns-in_err-count_skip : goal.returns-in_err-count_skip
returns-in_err-count_skip g c = with_err (whole g.S.Steps.sense g.R.Remote.told) Any (skip c.args.code) (c.args.s.now, c.args.e.now) (c.note_skip.new.s, c.count_skip.new.self) OutOfMemory c.from_residual-in_err-count_skip.result c.from_residual-in_err-count_skip.ensures.1
    (skip_full g.S.Steps.sense g.R.Remote.told c.args.code c.args.s.now c.note_skip.new.s c.args.e.now c.count_skip.new.self c.shows_skips-shows.result c.in_ok-note_skip.field-0 c.shows_skips-shows.ensures c.in_err-count_skip.ensures.err c.in_ok-note_skip.ensures)

pub returns : goal.returns
returns g c = skip_ok g.S.Steps.sense g.R.Remote.told c.args.code c.args.s.now c.note_skip.new.s c.args.e.now c.count_skip.new.self c.shows_skips-shows.result c.in_ok-note_skip.field-0 c.shows_skips-shows.ensures c.in_ok-count_skip.ensures.ok c.in_ok-note_skip.ensures
