use Rattle.std.proofs.Common.{All, drop, ℕ, ◌<◌, ◌^◌}
use Rattle.cf_table.proofs.ranges.pairs_fit.Given as goal

abbrev pub invariant-loop-pair : goal.invariant-loop-pair
invariant-loop-pair l = All (λ (e : ℕ × ℕ). (e.0 < 2 ^ 32) × (e.1 < 2 ^ 32)) (drop l.pair-index l.pairs) → All (λ (e : ℕ × ℕ). (e.0 < 2 ^ 32) × (e.1 < 2 ^ 32)) l.pairs
