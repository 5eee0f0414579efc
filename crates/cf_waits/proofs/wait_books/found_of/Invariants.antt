use Rattle.std.proofs.Common.{◌≡◌, ◌++◌, drop}
use Rattle.cf_waits.specs.Books.{found_of}
use Rattle.cf_waits.specs.Rising.{wait_key}
use Rattle.cf_waits.proofs.wait_books.found_of.Given as goal

-- those found so far, and those of the rest, are all
abbrev pub invariant-loop-e : goal.invariant-loop-e
invariant-loop-e l = l.out.items ++ found_of wait_key l.waits (drop l.e-index l.entries) ≡ found_of wait_key l.waits l.entries
