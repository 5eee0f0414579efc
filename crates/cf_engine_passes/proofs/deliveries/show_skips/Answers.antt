use Rattle.cf_engine_steps.specs.Answering.{Any}
use Rattle.cf_engine_steps.specs.States.{whole}
use Rattle.cf_base.specs.declared.codes.CallError.TheVariants.{OutOfMemory}
use Rattle.cf_engine_steps.proofs.Laws.{with_err}
use Rattle.cf_engine_steps.proofs.Linking.{link_stays}
use Rattle.cf_engine_steps.proofs.Noted.{noted_showing}
use Rattle.cf_model.specs.Arrows.{noted}
use Rattle.cf_model.specs.Passes.{showing}
use Rattle.cf_engine_passes.proofs.deliveries.show_skips.Goals as goal

pub returns-in_err-show_skips : goal.returns-in_err-show_skips
returns-in_err-show_skips g c = with_err (whole g.S.Steps.sense g.R.Remote.told) Any (noted showing) (c.args.s.now, c.args.e.now) (c.args.s.now, c.show_skips.new.self) OutOfMemory c.from_residual.result c.from_residual.ensures.1 (link_stays g.S.Steps.sense g.R.Remote.told (noted showing) c.args.s.now c.args.e.now c.show_skips.new.self)

pub returns : goal.returns
returns g c = noted_showing g.S.Steps.sense g.R.Remote.told Any c.args.s.now c.args.e.now c.show_skips.new.self c.in_ok-show_skips.ensures.ok
