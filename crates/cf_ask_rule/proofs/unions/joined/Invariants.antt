use Rattle.std.proofs.Common.{◌≡◌, ◌≤◌, ◌^◌, ◌++◌, drop}
use Rattle.std.specs.List.{AllByRecursion}
use Rattle.cf_ask_rule.specs.Unions.{IsSmall, joined_on}
use Rattle.cf_ask_rule.proofs.unions.joined.Given as goal

-- the runs so far, and those that the open one and the rest make, are the runs of all
abbrev pub invariant-loop-span : goal.invariant-loop-span
invariant-loop-span l = record {
  all : l.out.items ++ joined_on l.start l.end (drop l.span-index l.spans) ≡ joined_on 0 0 l.spans;
  small : AllByRecursion IsSmall (drop l.span-index l.spans);
  end : l.end ≤ 2 ^ 40;
}
