use Rattle.std.proofs.Common.{◌≡◌, ◌++◌, ◌-◌}
use Rattle.cf_gen.specs.Scripts.{after, puts}
use Rattle.cf_gen.proofs.Rows.{after_puts}
use Rattle.cf_gen.proofs.rounds.add_puts.Given as goal

abbrev pub invariant-loop-file : goal.invariant-loop-file
invariant-loop-file l = record {
  lines : l.lines.items ++ puts (8 - l.file) l.file l.g.state ≡ l.fn.lines.items ++ puts 8 0 l.fn.g.state;
  state : after_puts (8 - l.file) l.g.state ≡ after 16 l.fn.g.state;
  epoch : l.g.epoch ≡ l.fn.g.epoch;
  first : l.g.first ≡ l.fn.g.first;
}
