use Rattle.cf_pair_run.proofs.Beginning.{begun}
use Rattle.cf_pair_run.proofs.worlds.PairWorld.start.Goals as goal

pub returns-in-Ok-new_device-clause-ok : goal.returns-in-Ok-new_device-clause-ok
returns-in-Ok-new_device-clause-ok g c =
    begun g.D.Disk.state g.R.Remote.told c.args.first c.args.second c.args.remote c.in-Ok.ours c.in-Ok-new_device.theirs c.new.result c.in-Ok.ensures.ok c.in-Ok-new_device.ensures.ok c.in-Ok.ensures.goes_on c.in-Ok-new_device.ensures.goes_on
    (λ held. c.new.ensures.begins held 0 tt tt)
