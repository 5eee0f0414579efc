use Rattle.std.proofs.Common.{◌≡◌, ◌-◌, ◌≤◌, ◌==◌, length}
use Rattle.std.specs.List.{list_any}
use Rattle.cf_model.specs.Store.{ancestors, stored_at}
use Rattle.cf_remote.specs.Depths.{is_under_in}
use Rattle.cf_remote.proofs.depths.is_under.Given as goal

abbrev pub invariant-loop-steps : goal.invariant-loop-steps
invariant-loop-steps l = record {
  within : l.steps ≤ length l.items;
  rest : list_any (λ r. r == l.top.0) (ancestors (length l.items - l.steps) l.items (stored_at l.items l.at)) ≡ is_under_in l.items l.fn.rid l.top;
}

abbrev pub decreases-loop-steps : goal.decreases-loop-steps
decreases-loop-steps l = length l.items - l.steps
