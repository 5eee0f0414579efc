use Rattle.std.proofs.Common.{◌≡◌, drop}
use Rattle.cf_check_report.specs.Following.{Follows}
use Rattle.cf_check_report.proofs.reports.judge.Given as goal

abbrev pub invariant-loop-index : goal.invariant-loop-index
invariant-loop-index g l = Follows g.D.Device.stands l.events l.report l.clusters l.index (drop l.index l.events) l.rest l.judge × (l.done ≡ l.index)
