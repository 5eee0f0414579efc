use Rattle.std.proofs.Common.{◌≡◌, ◌++◌, drop}
use Rattle.std.specs.Prelude.{option_copied}
use Rattle.cf_model.specs.Asks.{ended_of}
use Rattle.cf_ask_rule.specs.Deeds.{deed_of}
use Rattle.cf_ask_rule.specs.Narrowing.{why_near}
use Rattle.cf_ask_rule.proofs.changed_plans.end_near.Given as goal

-- what ended so far, and what ends of the rest, is what ends of all
abbrev pub invariant-loop-w : goal.invariant-loop-w
invariant-loop-w l = l.ended.items ++ ended_of (why_near l.item l.v (deed_of l.act) (option_copied l.ask) l.change.start l.change.end) (drop l.w-index l.waits) ≡ ended_of (why_near l.item l.v (deed_of l.act) (option_copied l.ask) l.change.start l.change.end) l.waits
