use Rattle.std.proofs.Common.{◌≡◌, ◌≤◌, ◌++◌, length}
use Rattle.std.specs.Prelude.{reverse}
use Rattle.std.specs.List.{AllByRecursion}
use Rattle.cf_waits.proofs.turns.add_asks.Given as goal

-- with the rest, the last first, all are there, and there is room for them
abbrev pub invariant-loop-a : goal.invariant-loop-a
invariant-loop-a l = record {
  all : l.book.asks ++ reverse l.rest.items ≡ l.initial.book.asks ++ l.fn.made.items;
  begins : AllByRecursion (λ a. a.ticks ≡ 0) (reverse l.rest.items);
  room : length l.rest.items ≤ l.book.room;
}

abbrev pub decreases-loop-a : goal.decreases-loop-a
decreases-loop-a l = length l.rest.items
