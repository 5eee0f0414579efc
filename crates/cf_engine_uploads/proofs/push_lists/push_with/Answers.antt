use Rattle.std.proofs.Common.{Bool, true, subst}
use Rattle.cf_engine_steps.specs.States.{whole}
use Rattle.cf_engine_uploads.proofs.Idle.{none_pushed}
use Rattle.cf_engine_uploads.specs.Turns.{IsDone}
use Rattle.cf_engine_uploads.proofs.push_lists.push_with.Goals as goal

pub returns-then-done : goal.returns-then-done
returns-then-done g c =
    let none : IsDone (whole g.S.Steps.sense g.R.Remote.told) c.args.tombstones.now (c.args.s.now, c.args.e.now) true = subst (λ (b : Bool). IsDone (whole g.S.Steps.sense g.R.Remote.told) c.args.tombstones.now (c.args.s.now, c.args.e.now) b) c.if-done.true c.in_ok-done.ensures in
    none_pushed (whole g.S.Steps.sense g.R.Remote.told) (c.args.s.now, c.args.e.now) none.1 c.args.tombstones.now none.0
