use Rattle.std.proofs.Common.{◌≡◌, ◌≤◌, drop, false, length, List, ℕ, Bor}
use Rattle.std.specs.BTreeSet.{contains}
use Rattle.cf_model.specs.Operations.{is_twice}
use Rattle.cf_filter_calls.proofs.NamesTwice.{by_name, has_name}
use Rattle.cf_filter_calls.proofs.listings.is_twice.Given as goal

abbrev pub invariant-entries : goal.invariant-entries
invariant-entries l = record {
  in_range : l.left ≤ length l.list;
  once : is_twice (drop l.left l.list) ≡ false;
  met : (q : Bor (List ℕ)) → contains by_name l.names q ≡ has_name q.now (drop l.left l.list);
}

abbrev pub decreases-entries : goal.decreases-entries
decreases-entries l = l.left
