use Rattle.std.proofs.Common.{◌≡◌, ◌++◌, ◌-◌, ◌+◌, ◌*◌, ◌<◌, ◌^◌}
use Rattle.cf_gen.specs.Scripts.{rounds}
use Rattle.cf_gen.proofs.rounds.add_rounds.Given as goal

abbrev pub invariant-loop : goal.invariant-loop
invariant-loop l = record {
  lines : l.lines.items ++ rounds (l.count - l.counter) l.g ≡ l.fn.lines.items ++ rounds l.count l.fn.g;
  epoch : l.g.epoch + (l.count - l.counter) < 2 ^ 32;
  first : l.g.first + 8 * (l.count - l.counter + 1) < 2 ^ 32;
}
