use Rattle.std.proofs.Common.{◌≡◌, ◌++◌, drop, map}
use Rattle.cf_model.specs.Settling.{cancel_line}
use Rattle.cf_filter_desk.proofs.desks.note_cancels.Given as goal

abbrev pub invariant-loop-key : goal.invariant-loop-key
invariant-loop-key l = l.notes ++ map cancel_line (drop l.key-index l.cancelled) ≡ l.fn.notes ++ map cancel_line l.cancelled
