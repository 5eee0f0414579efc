use Rattle.std.proofs.Common.{◌≡◌, ℕ, ◌&&◌, not, drop}
use Rattle.cf_ranges.specs.Positions.{contains}
use Rattle.cf_ranges.proofs.range_sets.RangeSet.without_all.Given as goal

abbrev pub invariant-loop-span : goal.invariant-loop-span
invariant-loop-span l = (p : ℕ) → (contains l.set p && not (contains (drop l.span-index l.others) p)) ≡ (contains l.fn.self p && not (contains l.others p))
