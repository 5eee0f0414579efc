use Rattle.std.proofs.Common.{◌≡◌, not}
use Rattle.std.specs.Prelude.{filter, map}
use Rattle.cf_model.specs.Asks.{is_cancelled}
use Rattle.cf_ask_rule.specs.Deeds.{deed_of}
use Rattle.cf_ask_rule.proofs.acts.part_asks.Given as goal

-- the keys of those so far that are cancelled, and the others
abbrev pub invariant-loop-a : goal.invariant-loop-a
invariant-loop-a l = record {
  keys : l.keys.items ≡ map (λ a. a.ask.key) (filter (is_cancelled l.item l.v (deed_of l.act) l.waits) l.yielded);
  kept : l.kept.items ≡ filter (λ a. not (is_cancelled l.item l.v (deed_of l.act) l.waits a)) l.yielded;
}
