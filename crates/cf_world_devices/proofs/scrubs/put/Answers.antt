use Rattle.cf_world_devices.proofs.scrubs.put.Goals as goal
