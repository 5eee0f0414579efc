use Rattle.cf_engine_passes.proofs.Synced.{judged, last_by, not_judged, not_passed}
use Rattle.cf_engine_steps.specs.States.{whole}
use Rattle.cf_engine_passes.proofs.syncs.one_pass.Goals as goal

pub returns-in_err-pass_anew : goal.returns-in_err-pass_anew
returns-in_err-pass_anew g c = not_passed (whole g.S.Steps.sense g.R.Remote.told) c.args.things c.args.made (c.args.s.now, c.args.e.now) (c.pass_anew.new.s, c.pass_anew.new.e) c.in_err-pass_anew.field-0.0 c.from_residual.result c.from_residual.ensures.1 c.in_err-pass_anew.ensures

pub returns-in_err-last : goal.returns-in_err-last
returns-in_err-last g c = not_judged (whole g.S.Steps.sense g.R.Remote.told) c.args.things c.args.made (c.args.s.now, c.args.e.now) (c.pass_anew.new.s, c.pass_anew.new.e) c.in_ok-pass_anew.field-0 c.from_residual-in_err-last.result c.from_residual-in_err-last.ensures.1 c.in_ok-pass_anew.ensures

pub returns : goal.returns
returns g c = judged (whole g.S.Steps.sense g.R.Remote.told) c.args.things c.args.made (c.args.s.now, c.args.e.now) (c.pass_anew.new.s, c.pass_anew.new.e) c.in_ok-pass_anew.field-0 c.in_ok-last.last
    (last_by g.S.Steps.sense g.R.Remote.told c.args.s.now c.pass_anew.new.s c.args.e.now c.pass_anew.new.e c.args.things c.args.made c.count-began.result c.count-ended.result c.in_ok-last.last c.count-began.ensures c.count-ended.ensures c.in_ok-last.ensures) c.in_ok-pass_anew.ensures
