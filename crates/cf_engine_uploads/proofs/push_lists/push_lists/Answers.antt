use Rattle.cf_engine_queue.specs.Books.{tombstone_value}
use Rattle.cf_engine_steps.proofs.Laws.{stops_first, then_both, with_err}
use Rattle.cf_engine_steps.specs.Answering.{Answers, Any}
use Rattle.cf_engine_steps.specs.States.{whole}
use Rattle.cf_engine_uploads.proofs.Listed.{each_one}
use Rattle.cf_model.specs.Arrows.{Arrow, each}
use Rattle.cf_model.specs.Pushes.{push_lists, push_tombstone, push_turn}
use Rattle.cf_model.specs.State.{State}
use Rattle.std.proofs.Common.{subst}
use Rattle.std.specs.Prelude.{Err, Ok, map}
use Rattle.cf_engine_uploads.proofs.push_lists.push_lists.Goals as goal

pub returns-in_err-push_tombstones : goal.returns-in_err-push_tombstones
returns-in_err-push_tombstones g c = with_err (whole g.S.Steps.sense g.R.Remote.told) Any (push_lists (map tombstone_value c.args.tombstones.now) c.args.ids.now) (c.args.s.now, c.args.e.now) (c.push_tombstones.new.s, c.push_tombstones.new.e) c.in_err-push_tombstones.field-0.0 c.from_residual.result c.from_residual.ensures.1
    (stops_first (whole g.S.Steps.sense g.R.Remote.told) Any (each push_tombstone (map tombstone_value c.args.tombstones.now)) (each push_turn c.args.ids.now) (c.args.s.now, c.args.e.now) (c.push_tombstones.new.s, c.push_tombstones.new.e) c.in_err-push_tombstones.field-0.0 (subst (λ (f : Arrow State (Unit {0})). Answers (whole g.S.Steps.sense g.R.Remote.told) Any f (c.args.s.now, c.args.e.now) (Err c.in_err-push_tombstones.field-0.0) (c.push_tombstones.new.s, c.push_tombstones.new.e)) (each_one c.args.tombstones.now) c.in_err-push_tombstones.ensures))

pub returns : goal.returns
returns g c = then_both (whole g.S.Steps.sense g.R.Remote.told) (each push_tombstone (map tombstone_value c.args.tombstones.now)) (each push_turn c.args.ids.now) _ _ _ _ _ _ _ _ (subst (λ (f : Arrow State (Unit {0})). Answers (whole g.S.Steps.sense g.R.Remote.told) Any f (c.args.s.now, c.args.e.now) (Ok c.in_ok-push_tombstones.field-0) (c.push_tombstones.new.s, c.push_tombstones.new.e)) (each_one c.args.tombstones.now) c.in_ok-push_tombstones.ensures) c.push_items.ensures
