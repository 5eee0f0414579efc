use Rattle.std.proofs.Common.{◌≡◌, ◌++◌, drop}
use Rattle.cf_filter_desk.proofs.desks.put_out.Given as goal

abbrev pub invariant-loop-ask : goal.invariant-loop-ask
invariant-loop-ask l = l.outbox.items ++ drop l.ask-index l.asks ≡ l.fn.outbox.items ++ l.asks
