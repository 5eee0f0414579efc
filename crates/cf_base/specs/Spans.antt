-- The places of a span.
use Rattle.std.specs.Prelude.{◌≡◌, ◌+◌, ◌/◌, ◌<◌, ◌≤◌, ℕ}
use Rattle.cf_base.specs.declared.limits.TheConstants.{BLOCK_BYTES}
use Rattle.cf_base.specs.declared.spans.Span.{Span}

-- the place lies in the span
abbrev pub IsIn : ℕ → Span → Type 0
IsIn p s = (s.start ≤ p) × (p < s.start + s.len)

-- some place of the span lies in the block
abbrev pub Touches : Span → ℕ → Type 0
Touches s k = (p : ℕ) × IsIn p s × (p / BLOCK_BYTES ≡ k)
