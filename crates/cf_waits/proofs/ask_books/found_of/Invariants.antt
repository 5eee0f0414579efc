use Rattle.std.proofs.Common.{◌≡◌, ◌++◌, drop}
use Rattle.std.specs.Prelude.{map}
use Rattle.cf_waits.specs.Books.{aged_at, found_of}
use Rattle.cf_waits.specs.Rising.{ask_key}
use Rattle.cf_waits.proofs.ask_books.found_of.Given as goal

-- those found so far, and those of the rest, are all
abbrev pub invariant-loop-e : goal.invariant-loop-e
invariant-loop-e l = l.out.items ++ map (aged_at l.tick) (found_of ask_key l.asks (drop l.e-index l.entries)) ≡ map (aged_at l.tick) (found_of ask_key l.asks l.entries)
