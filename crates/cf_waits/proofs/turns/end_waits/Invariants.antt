use Rattle.std.proofs.Common.{◌≡◌, drop, not}
use Rattle.std.specs.Prelude.{filter}
use Rattle.cf_waits.specs.Steps.{is_ended}
use Rattle.cf_waits.proofs.turns.end_waits.Given as goal

-- without those of the rest, none of all is left
abbrev pub invariant-loop-e : goal.invariant-loop-e
invariant-loop-e l = filter (λ w. not (is_ended (drop l.e-index l.ended) w)) l.book.waits ≡ filter (λ w. not (is_ended l.ended w)) l.initial.book.waits
