use Rattle.std.proofs.Common.{sym, ◌∙◌}
use Rattle.std.proofs.lemmas.Result.{IfOk-weaker}
use Rattle.cf_engine_steps.specs.States.{whole}
use Rattle.cf_engine_uploads.proofs.Idle.{done_without, not_done}
use Rattle.cf_engine_uploads.specs.Turns.{IsDone, IsIdle}
use Rattle.cf_engine_uploads.proofs.push_lists.is_done.Goals as goal

pub returns-then-is_empty : goal.returns-then-is_empty
returns-then-is_empty g c = IfOk-weaker c.is_idle.result (IsIdle (whole g.S.Steps.sense g.R.Remote.told) (c.args.s.now, c.args.e.now)) (IsDone (whole g.S.Steps.sense g.R.Remote.told) c.args.tombstones.now (c.args.s.now, c.args.e.now))
    (done_without (whole g.S.Steps.sense g.R.Remote.told) c.args.tombstones.now (c.args.s.now, c.args.e.now) (sym c.is_empty.ensures ∙ c.if-is_empty.true)) c.is_idle.ensures

pub returns-else-is_empty : goal.returns-else-is_empty
returns-else-is_empty g c = not_done (whole g.S.Steps.sense g.R.Remote.told) c.args.tombstones.now (c.args.s.now, c.args.e.now) (sym c.is_empty.ensures ∙ c.if-is_empty.false)
