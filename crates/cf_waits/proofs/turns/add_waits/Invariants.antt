use Rattle.std.proofs.Common.{◌≡◌, ◌+◌, ◌≤◌, ◌++◌, drop}
use Rattle.cf_waits.proofs.turns.add_waits.Given as goal

-- with those of the rest all are there, and there is room for them
abbrev pub invariant-loop-w : goal.invariant-loop-w
invariant-loop-w l = record {
  all : l.book.waits ++ drop l.w-index l.begun ≡ l.initial.book.waits ++ l.begun;
  room : l.initial.book.room ≤ l.book.room + l.w-index;
}
