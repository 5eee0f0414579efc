use Rattle.std.proofs.Common.{◌≡◌, ℕ, ◌||◌, drop}
use Rattle.cf_ranges.specs.Positions.{contains}
use Rattle.cf_ranges.proofs.range_sets.RangeSet.with_all.Given as goal

abbrev pub invariant-loop-span : goal.invariant-loop-span
invariant-loop-span l = (p : ℕ) → (contains l.set p || contains (drop l.span-index l.others) p) ≡ (contains l.fn.self p || contains l.others p)
