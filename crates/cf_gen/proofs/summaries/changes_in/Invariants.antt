use Rattle.std.proofs.Common.{◌≡◌, ◌≤◌, take}
use Rattle.std.specs.Prelude.{count_by}
use Rattle.cf_gen.specs.Summaries.{is_change}
use Rattle.cf_gen.proofs.summaries.changes_in.Given as goal

abbrev pub invariant-loop-notice : goal.invariant-loop-notice
invariant-loop-notice l = record {
  count : l.count ≡ count_by is_change (take l.notice-index l.notes);
  small : l.count ≤ l.notice-index;
}
