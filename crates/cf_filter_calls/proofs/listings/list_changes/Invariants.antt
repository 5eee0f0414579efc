use Rattle.std.proofs.Common.{◌≡◌, ◌+◌, ◌++◌, drop}
use Rattle.cf_filter_calls.specs.Entering.{listed_changes}
use Rattle.cf_filter_calls.proofs.listings.list_changes.Given as goal

-- the changes so far, and those of the rest under the next ids and numbers, are all
abbrev pub invariant-loop-entry : goal.invariant-loop-entry
invariant-loop-entry l = record {
  all : l.changes ++ listed_changes l.policy l.dir l.item.0 l.next (drop l.entry-index l.list) ≡ listed_changes l.policy l.dir l.fn.first.0 l.fn.number l.list;
  ids : l.item.0 ≡ l.fn.first.0 + l.entry-index;
}
