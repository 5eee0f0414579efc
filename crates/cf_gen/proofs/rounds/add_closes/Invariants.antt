use Rattle.std.proofs.Common.{◌≡◌, ◌++◌, ◌-◌, ◌+◌}
use Rattle.cf_gen.specs.Scripts.{closes}
use Rattle.cf_gen.proofs.rounds.add_closes.Given as goal

abbrev pub invariant-loop-number : goal.invariant-loop-number
invariant-loop-number l = l.lines.items ++ closes (l.fn.first + 8 - l.number) l.fn.epoch l.number ≡ l.fn.lines.items ++ closes 8 l.fn.epoch l.fn.first
