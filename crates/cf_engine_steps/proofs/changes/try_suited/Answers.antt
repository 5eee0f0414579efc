use Rattle.std.proofs.Common.{[], ◌∷◌}
use Rattle.std.specs.Prelude.{Some, None}
use Rattle.cf_engine_steps.specs.Answering.{On}
use Rattle.cf_engine_steps.specs.States.{whole}
use Rattle.cf_model.specs.Skips.{try_change}
use Rattle.cf_filter_steps.specs.Suiting.{Suiting}
use Rattle.cf_engine_steps.proofs.Laws.{with_err}
use Rattle.cf_engine_steps.proofs.Tried.{change_done, change_fails, change_skipped, room_by}
use Rattle.cf_engine_steps.proofs.changes.try_suited.Goals as goal

pub returns-in_err-change_copied-in-None : goal.returns-in_err-change_copied-in-None
returns-in_err-change_copied-in-None g c = with_err (whole g.S.Steps.sense g.R.Remote.told) (On (Suiting (c.args.change.now ∷ []))) (try_change c.args.change.now) (c.args.s.now, c.args.e.now) (c.change_copied.new.s, c.args.e.now) c.in_err-change_copied-in-None.field-0.0
    c.from_residual-in_err-change_copied-in-None.result c.from_residual-in_err-change_copied-in-None.ensures.1
    (change_fails g.S.Steps.sense g.R.Remote.told c.args.change.now c.args.s.now c.change_copied.new.s c.args.e.now c.in_err-change_copied-in-None.field-0.0
    (room_by g.S.Steps.sense c.args.change.now c.from_ref.result.now c.args.s.now c.in_ok-code.field-0 None c.from_ref.ensures.value c.in-None.is c.in_ok-code.ensures) c.in_err-change_copied-in-None.ensures.does)

pub returns-in-Some : goal.returns-in-Some
returns-in-Some g c = change_skipped g.S.Steps.sense g.R.Remote.told c.args.change.now c.args.s.now c.leave_out.new.s c.args.e.now c.leave_out.new.e c.in-Some.code c.leave_out.result
    (room_by g.S.Steps.sense c.args.change.now c.from_ref.result.now c.args.s.now c.in_ok-code.field-0 (Some c.in-Some.code) c.from_ref.ensures.value c.in-Some.is c.in_ok-code.ensures) c.leave_out.ensures

pub returns-in_ok-change_copied-in-None : goal.returns-in_ok-change_copied-in-None
returns-in_ok-change_copied-in-None g c = change_done g.S.Steps.sense g.R.Remote.told c.args.change.now c.args.s.now c.change_copied.new.s c.args.e.now c.in_ok-change_copied-in-None.field-0
    (room_by g.S.Steps.sense c.args.change.now c.from_ref.result.now c.args.s.now c.in_ok-code.field-0 None c.from_ref.ensures.value c.in-None.is c.in_ok-code.ensures) c.in_ok-change_copied-in-None.ensures.does
