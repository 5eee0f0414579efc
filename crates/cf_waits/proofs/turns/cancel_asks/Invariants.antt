use Rattle.std.proofs.Common.{◌≡◌, ◌≤◌, drop, not}
use Rattle.std.specs.Prelude.{filter}
use Rattle.std.specs.List.{list_any}
use Rattle.cf_model.specs.Numbers.{same_key}
use Rattle.cf_waits.proofs.turns.cancel_asks.Given as goal

-- without those of the rest, none of all is left
abbrev pub invariant-loop-key : goal.invariant-loop-key
invariant-loop-key l = record {
  left : filter (λ a. not (list_any (same_key a.ask.key) (drop l.key-index l.cancelled))) l.book.asks ≡ filter (λ a. not (list_any (same_key a.ask.key) l.cancelled)) l.initial.book.asks;
  room : l.initial.book.room ≤ l.book.room;
}
