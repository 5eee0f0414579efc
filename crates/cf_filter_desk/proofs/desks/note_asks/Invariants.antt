use Rattle.std.proofs.Common.{◌≡◌, ◌++◌, drop, map}
use Rattle.cf_filter_steps.specs.Readings.{asked_line}
use Rattle.cf_filter_desk.proofs.desks.note_asks.Given as goal

abbrev pub invariant-loop-ask : goal.invariant-loop-ask
invariant-loop-ask l = l.notes ++ map asked_line (drop l.ask-index l.asks) ≡ l.fn.notes ++ map asked_line l.asks
