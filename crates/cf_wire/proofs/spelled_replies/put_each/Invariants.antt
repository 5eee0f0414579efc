use Rattle.std.proofs.Common.{◌≡◌, ◌++◌, drop}
use Rattle.std.specs.List.{AllByRecursion, flat_map}
use Rattle.cf_model.specs.Frames.{spell_entry}
use Rattle.cf_wire.specs.Spelled.{FitsEntry}
use Rattle.cf_wire.proofs.spelled_replies.put_each.Given as goal

abbrev pub invariant-loop-entry : goal.invariant-loop-entry
invariant-loop-entry l = record {
  spelled : l.out ++ flat_map spell_entry (drop l.entry-index l.entries) ≡ l.fn.out ++ flat_map spell_entry l.entries;
  fit : AllByRecursion FitsEntry (drop l.entry-index l.entries) → AllByRecursion FitsEntry l.entries;
}
