use Rattle.cf_check_world.proofs.on_events.step_on.Goals as goal

pub returns-in-Device : goal.returns-in-Device
returns-in-Device c = rw c.in-Device.is c.device_on.ensures
