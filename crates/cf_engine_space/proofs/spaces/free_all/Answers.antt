use Rattle.cf_engine_steps.proofs.Laws.{stops_first, then_both, with_err}
use Rattle.cf_engine_steps.specs.Answering.{Any}
use Rattle.cf_engine_steps.specs.States.{whole}
use Rattle.cf_model.specs.Arrows.{each}
use Rattle.cf_model.specs.Space.{dehydrate_whole, free_all, show_freed}
use Rattle.cf_engine_space.proofs.spaces.free_all.Goals as goal

pub returns-in_err-dehydrate_each : goal.returns-in_err-dehydrate_each
returns-in_err-dehydrate_each g c = with_err (whole g.S.Steps.sense g.R.Remote.told) Any (free_all c.args.before c.args.ids.now) (c.args.s.now, c.args.e.now) (c.dehydrate_each.new.s, c.dehydrate_each.new.e) c.in_err-dehydrate_each.field-0.0 c.from_residual.result c.from_residual.ensures.1
    (stops_first (whole g.S.Steps.sense g.R.Remote.told) Any (each dehydrate_whole c.args.ids.now) (show_freed c.args.before) (c.args.s.now, c.args.e.now) (c.dehydrate_each.new.s, c.dehydrate_each.new.e) c.in_err-dehydrate_each.field-0.0 c.in_err-dehydrate_each.ensures)

pub returns : goal.returns
returns g c = then_both _ (each dehydrate_whole c.args.ids.now) (show_freed c.args.before) _ _ _ _ _ _ _ _ c.in_ok-dehydrate_each.ensures c.show_freed.ensures
