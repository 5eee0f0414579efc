use Rattle.std.proofs.Common.{◌≡◌, ◌≤◌, drop, length, List, nat_eq, true, ℕ, Bor}
use Rattle.std.specs.Cmp.Lexicographic.{pointwise}
use Rattle.std.specs.HashSet.{contains}
use Rattle.cf_model.specs.Fits.{are_named_apart, has_name}
use Rattle.cf_wire.proofs.fitting.are_named_apart.Given as goal

abbrev pub invariant-entries : goal.invariant-entries
invariant-entries l = record {
  in_range : l.left ≤ length l.entries;
  apart : are_named_apart (drop l.left l.entries) ≡ true;
  seen : (q : Bor (List ℕ)) → contains (λ x y. pointwise nat_eq x.now y.now) l.names q ≡ has_name q.now (drop l.left l.entries);
}

abbrev pub decreases-entries : goal.decreases-entries
decreases-entries l = l.left
