use Rattle.std.proofs.Common.{◌≡◌, ℕ, Bool, drop}
use Rattle.std.specs.List.{list_any}
use Rattle.cf_ask_rule.specs.Nexts.{Wants}
use Rattle.cf_ask_rule.specs.Places.{places}
use Rattle.cf_model.specs.Words.{counting}
use Rattle.cf_ask_rule.proofs.asks.is_any_wanted.Given as goal

-- what is wanted of the rest is wanted of all
abbrev pub invariant-loop-run : goal.invariant-loop-run
invariant-loop-run l = (w : ℕ → Bool) → Wants l.v l.needs w → list_any (λ r. list_any w (counting r.start r.len)) (drop l.run-index l.runs) ≡ list_any w (places l.runs)
