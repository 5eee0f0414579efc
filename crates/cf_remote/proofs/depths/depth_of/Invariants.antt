use Rattle.std.proofs.Common.{◌≡◌, ◌+◌, ◌-◌, ◌≤◌, length}
use Rattle.cf_model.specs.Store.{ancestors, stored_at}
use Rattle.cf_remote.specs.Depths.{depth_in}
use Rattle.cf_remote.proofs.depths.depth_of.Given as goal

abbrev pub invariant-loop-depth : goal.invariant-loop-depth
invariant-loop-depth l = record {
  within : l.depth ≤ length l.items;
  rest : l.depth + length (ancestors (length l.items - l.depth) l.items (stored_at l.items l.at)) ≡ depth_in l.items l.fn.rid;
}

abbrev pub decreases-loop-depth : goal.decreases-loop-depth
decreases-loop-depth l = length l.items - l.depth
