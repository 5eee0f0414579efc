use Rattle.std.proofs.Common.{◌≡◌, ◌*◌, ◌++◌, ℕ, drop, filter, map, not}
use Rattle.cf_ranges.specs.Pairs.{IsRisingFrom}
use Rattle.cf_ranges.specs.Positions.{touches}
use Rattle.cf_volume_changes.specs.Ahead.{IsAhead}
use Rattle.cf_volume_changes.proofs.emptied_blocks.gone_blocks.Given as goal

-- the blocks so far are all that are gone, and what is left of the runs serves the blocks that are left
abbrev pub invariant-loop-pair : goal.invariant-loop-pair
invariant-loop-pair l = record {
  gone : l.gone.items ++ filter (λ b. not (touches l.here b)) (map (λ (e : ℕ × ℕ). e.0) (drop l.pair-index l.pairs)) ≡ filter (λ b. not (touches l.here b)) (map (λ (e : ℕ × ℕ). e.0) l.pairs);
  ahead : (low : ℕ) × IsRisingFrom low (drop l.pair-index l.pairs) × IsAhead (4096 * low) l.here l.ahead;
}
