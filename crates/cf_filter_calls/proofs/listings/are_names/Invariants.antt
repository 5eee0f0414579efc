use Rattle.std.proofs.Common.{◌≡◌, drop}
use Rattle.cf_filter_calls.specs.Entering.{are_names}
use Rattle.cf_filter_calls.proofs.listings.are_names.Given as goal

abbrev pub invariant-loop-entry : goal.invariant-loop-entry
invariant-loop-entry l = are_names (drop l.entry-index l.list) ≡ are_names l.list
