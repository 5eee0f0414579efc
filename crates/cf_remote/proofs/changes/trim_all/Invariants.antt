use Rattle.std.proofs.Common.{◌≡◌, ◌++◌, ◌-◌, ◌≤◌, map, take, drop}
use Rattle.std.specs.Prelude.{Some, sum_by, vec_len}
use Rattle.cf_model.specs.Store.{trimmed}
use Rattle.cf_remote.specs.Held.{held_len}
use Rattle.cf_remote.proofs.changes.trim_all.Given as goal

abbrev pub invariant-loop-place : goal.invariant-loop-place
invariant-loop-place l = record {
  within : l.place ≤ vec_len l.items;
  count : vec_len l.items ≡ vec_len l.fn.items;
  items : l.items.items ≡ map (trimmed (Some l.count)) (take l.place l.fn.items.items) ++ drop l.place l.fn.items.items;
  held : l.left ≡ sum_by held_len l.items.items;
  less : l.left ≤ l.held;
}

abbrev pub decreases-loop-place : goal.decreases-loop-place
decreases-loop-place l = vec_len l.items - l.place
