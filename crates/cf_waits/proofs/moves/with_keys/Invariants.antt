use Rattle.std.proofs.Common.{◌≡◌, ◌+◌, ◌++◌, drop}
use Rattle.cf_model.specs.Asks.{with_keys}
use Rattle.cf_waits.proofs.moves.with_keys.Given as goal

-- the asks so far, and those of the rest under the next keys, are all
abbrev pub invariant-loop-a : goal.invariant-loop-a
invariant-loop-a l = record {
  all : l.out.items ++ with_keys l.epoch l.number (drop l.a-index l.made) ≡ with_keys l.epoch l.key_count l.made;
  number : l.number ≡ l.key_count + l.a-index;
}
