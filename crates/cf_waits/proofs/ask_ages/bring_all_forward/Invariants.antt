use Rattle.std.proofs.Common.{◌≡◌, take, drop}
use Rattle.std.specs.Prelude.{map}
use Rattle.cf_waits.specs.Books.{brought_forward}
use Rattle.cf_waits.proofs.ask_ages.bring_all_forward.Given as goal

-- the asks so far are brought forward, and the others as they were
abbrev pub invariant-loop-a : goal.invariant-loop-a
invariant-loop-a l = record {
  front : take l.a-index l.a-items ≡ map (brought_forward l.base) (take l.a-index l.initial.a-items);
  rest : drop l.a-index l.a-items ≡ drop l.a-index l.initial.a-items;
}
