use Rattle.std.proofs.Common.{◌≡◌, ◌||◌, ℕ, drop}
use Rattle.std.specs.Prelude.{All}
use Rattle.cf_ask_rule.specs.Unions.{IsSmall}
use Rattle.cf_model.specs.Asks.{is_owned}
use Rattle.cf_ranges.specs.Positions.{contains}
use Rattle.cf_ask_rule.proofs.asks.spans_owned.Given as goal

-- what is owned so far, and what the rest own
abbrev pub invariant-loop-a : goal.invariant-loop-a
invariant-loop-a l = record {
  owned : (b : ℕ) → (contains l.spans.items b || is_owned l.item (drop l.a-index l.asks) b) ≡ is_owned l.item l.asks b;
  small : All IsSmall l.spans.items;
}
