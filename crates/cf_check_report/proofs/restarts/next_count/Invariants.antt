use Rattle.std.proofs.Common.{◌≡◌, drop}
use Rattle.cf_check_model.specs.Reports.{result_lines}
use Rattle.cf_check_report.specs.Restarts.{next_count}
use Rattle.cf_check_report.proofs.restarts.next_count.Given as goal

abbrev pub invariant-loop-event : goal.invariant-loop-event
invariant-loop-event l = next_count l.events (result_lines l.rest) ≡ next_count (drop l.event-index l.events) (result_lines l.left)
