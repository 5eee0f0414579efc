use Rattle.std.proofs.Common.{◌≡◌, ◌≤◌, drop, length, max}
use Rattle.cf_remote.specs.Depths.{deepest}
use Rattle.cf_remote.proofs.depths.deepest_of.Given as goal

abbrev pub invariant-loop-item : goal.invariant-loop-item
invariant-loop-item l = record {
  rest : max l.deepest (deepest l.items l.top (drop l.item-index l.items)) ≡ deepest l.items l.top l.items;
  small : l.deepest ≤ length l.items;
}
