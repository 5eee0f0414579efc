use Rattle.cf_check_world.proofs.off_events.step_off.Goals as goal

pub returns-in-Device : goal.returns-in-Device
returns-in-Device c = rw c.in-Device.is c.device_off.ensures
