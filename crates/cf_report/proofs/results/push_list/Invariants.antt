use Rattle.std.proofs.Common.{◌≡◌, ◌++◌, take, map}
use Rattle.cf_report.specs.Texts.{listed}
use Rattle.cf_report.specs.Words.{spaced}
use Rattle.cf_report.proofs.results.push_list.Given as goal

abbrev pub invariant-loop-item : goal.invariant-loop-item
invariant-loop-item l = l.out.items ≡ l.fn.out.items ++ spaced (map listed (take l.item-index l.items))
