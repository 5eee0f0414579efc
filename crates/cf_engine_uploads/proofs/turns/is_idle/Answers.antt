use Rattle.std.proofs.lemmas.Result.{IfOk-weaker}
use Rattle.cf_engine_steps.specs.States.{whole}
use Rattle.cf_engine_uploads.proofs.Idle.{rows_idle}
use Rattle.cf_engine_uploads.specs.Turns.{AreIdle, IsIdle}
use Rattle.cf_engine_uploads.proofs.turns.is_idle.Goals as goal

pub returns : goal.returns
returns g c = IfOk-weaker c.are_idle.result (AreIdle (whole g.S.Steps.sense g.R.Remote.told) c.as_slice.result.now (c.args.s.now, c.args.e.now)) (IsIdle (whole g.S.Steps.sense g.R.Remote.told) (c.args.s.now, c.args.e.now))
    (λ b idle. rows_idle g.S.Steps.sense g.R.Remote.told c.args.s.now c.args.e.now c.rows.result.now c.rows.ensures.means c.as_slice.result.now c.as_slice.ensures.value b idle) c.are_idle.ensures
