use Rattle.std.proofs.Common.{◌≡◌, ◌≤◌, ◌-◌, ◌^◌, ◌&&◌, ℕ, Bool, not}
use Rattle.std.specs.Prelude.{filter}
use Rattle.cf_ask_rule.specs.Nexts.{Wants}
use Rattle.cf_model.specs.Words.{counting}
use Rattle.cf_ranges.specs.Positions.{contains}
use Rattle.cf_ask_rule.proofs.new_asks.open_in.Given as goal

-- the blocks so far
abbrev pub invariant-loop-at : goal.invariant-loop-at
invariant-loop-at l = record {
  blocks : (w o : ℕ → Bool) → Wants l.v l.needs w → ((b : ℕ) → contains l.owned b ≡ o b) → l.out.items ≡ filter (λ b. w b && not (o b)) (counting 0 l.next);
  next : l.next ≤ 2 ^ 40;
}

abbrev pub decreases-loop-at : goal.decreases-loop-at
decreases-loop-at l = 2 ^ 41 - l.next
