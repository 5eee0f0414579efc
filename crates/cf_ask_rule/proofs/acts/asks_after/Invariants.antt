use Rattle.std.proofs.Common.{◌≡◌}
use Rattle.cf_ask_rule.specs.Deeds.{after, deed_of}
use Rattle.cf_ask_rule.proofs.acts.asks_after.Given as goal

-- what is left of those so far
abbrev pub invariant-loop-a : goal.invariant-loop-a
invariant-loop-a l = l.out.items ≡ after (deed_of l.act) l.yielded
