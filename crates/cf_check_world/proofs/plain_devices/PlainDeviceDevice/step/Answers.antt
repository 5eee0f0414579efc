use Rattle.std.proofs.Common.{◌∙◌, subst, sym}
use Rattle.cf_check_world.specs.Devices.{Does, Lives}
use Rattle.cf_check_world.specs.declared.places.Place.{Place}
use Rattle.cf_check_world.proofs.Standing.{lives_after, plays}
use Rattle.cf_check_world.proofs.plain_devices.PlainDeviceDevice.step.Goals as goal

pub invariant_of-result : goal.invariant_of-result
invariant_of-result c =
    lives_after c.args.event.now c.args.aim c.with_tellings-place.result c.step_at-place.result.1 c.step_at-place.result.0 c.step_at-place.ensures (subst Lives (sym c.with_tellings-place.ensures) c.self.invariant)

pub returns : goal.returns
returns c =
    plays c.args.event.now c.args.aim c.args.self c.step_at-place.result.1 c.step_at-place.result.0
    (subst (λ (p : Place). Does c.args.event.now c.args.aim p c.step_at-place.result.1 c.step_at-place.result.0) (c.with_tellings-place.ensures ∙ c.self.view_is) c.step_at-place.ensures)
