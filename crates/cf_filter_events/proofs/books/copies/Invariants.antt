use Rattle.std.proofs.Common.{◌≡◌, ◌++◌, length}
use Rattle.cf_filter_events.proofs.books.copies.Given as goal

abbrev pub invariant-loop-record : goal.invariant-loop-record
invariant-loop-record l = l.copies ++ l.items ≡ l.records

abbrev pub decreases-loop-record : goal.decreases-loop-record
decreases-loop-record l = length l.items
