use Rattle.std.proofs.Common.{◌≡◌, ◌++◌, take}
use Rattle.std.specs.List.{flat_map}
use Rattle.cf_report.specs.Texts.{notice_line}
use Rattle.cf_report.proofs.notices.push_notices.Given as goal

abbrev pub invariant-loop-notice : goal.invariant-loop-notice
invariant-loop-notice l = l.out.items ≡ l.fn.out.items ++ flat_map notice_line (take l.notice-index l.notices)
