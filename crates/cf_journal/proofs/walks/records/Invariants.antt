use Rattle.std.proofs.Common.{◌-◌}
use Rattle.cf_journal.proofs.Walking.{WalkedOn}
use Rattle.cf_journal.proofs.walks.records.Given as goal

abbrev pub invariant-records : goal.invariant-records
invariant-records g l = WalkedOn l.at l.len l.payloads.items l.end (g.D.Disk.state l.fn.disk) (g.D.Disk.state l.disk)

abbrev pub decreases-records : goal.decreases-records
decreases-records g l = l.len - l.end
