use Rattle.std.proofs.Common.{◌≡◌, drop}
use Rattle.cf_check_traces.specs.Tests.{meets_lines}
use Rattle.cf_check_compare.specs.Passed.{IsTextOf}
use Rattle.cf_check_compare.proofs.comparisons.meets_lines.Given as goal

abbrev pub invariant-loop-notice : goal.invariant-loop-notice
invariant-loop-notice l = IsTextOf (drop l.notice-index l.notices) l.lines × (meets_lines l.notices l.rest ≡ meets_lines (drop l.notice-index l.notices) l.left)
