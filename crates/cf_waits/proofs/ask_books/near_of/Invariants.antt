use Rattle.std.proofs.Common.{◌≡◌, ◌++◌, drop}
use Rattle.std.specs.Prelude.{filter, map}
use Rattle.cf_ask_rule.specs.Near.{is_near}
use Rattle.cf_waits.specs.Books.{aged_at}
use Rattle.cf_waits.proofs.ask_books.near_of.Given as goal

-- those so far, and those of the rest, are all
abbrev pub invariant-loop-a : goal.invariant-loop-a
invariant-loop-a l = l.out.items ++ map (aged_at l.tick) (filter (is_near l.item l.key) (drop l.a-index l.asks)) ≡ map (aged_at l.tick) (filter (is_near l.item l.key) l.asks)
