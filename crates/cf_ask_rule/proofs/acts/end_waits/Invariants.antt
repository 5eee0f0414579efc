use Rattle.std.proofs.Common.{◌≡◌, ◌++◌, drop}
use Rattle.cf_model.specs.Asks.{ended_of, left_of}
use Rattle.cf_ask_rule.specs.Deeds.{awaited_by, deed_of, why_for}
use Rattle.cf_ask_rule.proofs.acts.end_waits.Given as goal

-- what ended and what is left so far, and what ends and is left of the rest, are those of all
abbrev pub invariant-loop-w : goal.invariant-loop-w
invariant-loop-w l = record {
  ended : l.ended.items ++ ended_of (why_for l.item l.v (deed_of l.act) (awaited_by (deed_of l.act) l.asks)) (drop l.w-index l.waits) ≡ ended_of (why_for l.item l.v (deed_of l.act) (awaited_by (deed_of l.act) l.asks)) l.waits;
  left : l.left.items ++ left_of (why_for l.item l.v (deed_of l.act) (awaited_by (deed_of l.act) l.asks)) (drop l.w-index l.waits) ≡ left_of (why_for l.item l.v (deed_of l.act) (awaited_by (deed_of l.act) l.asks)) l.waits;
}
