use Rattle.std.proofs.Common.{◌≡◌, drop}
use Rattle.std.specs.List.{list_all}
use Rattle.cf_check_text.specs.Clean.{clean_notice}
use Rattle.cf_check_compare.proofs.answers.are_clean.Given as goal

abbrev pub invariant-loop-notice : goal.invariant-loop-notice
invariant-loop-notice l = list_all clean_notice l.notices ≡ list_all clean_notice (drop l.notice-index l.notices)
