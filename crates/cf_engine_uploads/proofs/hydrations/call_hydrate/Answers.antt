use Rattle.cf_engine_steps.proofs.Laws.{with_err}
use Rattle.cf_engine_steps.specs.Answering.{On}
use Rattle.cf_engine_steps.specs.States.{whole}
use Rattle.cf_engine_uploads.proofs.Hydrated.{called, not_called}
use Rattle.cf_filter_steps.specs.Answering.{IsAt}
use Rattle.cf_model.specs.Callbacks.{calling}
use Rattle.cf_model.specs.Waits.{hydrate_item}
use Rattle.cf_engine_uploads.proofs.hydrations.call_hydrate.Goals as goal

pub returns-in_err-shown : goal.returns-in_err-shown
returns-in_err-shown g c = λ i. with_err (whole g.S.Steps.sense g.R.Remote.told) (On (IsAt c.args.id i)) (calling (hydrate_item i)) (c.args.s.now, c.args.e.now) (c.hydrate_file.new.s, c.args.e.now) c.in_err-shown.field-0.0 c.from_residual.result c.from_residual.ensures.1
    (not_called g.S.Steps.sense g.R.Remote.told c.args.id i c.args.s.now c.hydrate_file.new.s c.args.e.now c.in_err-shown.field-0.0 (c.in_err-shown.ensures i))

pub returns : goal.returns
returns g c = λ i. called g.S.Steps.sense g.R.Remote.told c.args.id i c.args.s.now c.hydrate_file.new.s c.args.e.now c.finish_call.new.s c.finish_call.new.e c.in_ok-shown.shown c.finish_call.result (c.in_ok-shown.ensures i) c.finish_call.ensures
