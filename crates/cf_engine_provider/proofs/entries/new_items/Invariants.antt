use Rattle.std.proofs.Common.{◌≡◌, ◌++◌, drop}
use Rattle.std.specs.Prelude.{map}
use Rattle.cf_model.specs.Fetching.{new_item_of}
use Rattle.cf_engine_provider.proofs.entries.new_items.Given as goal

-- the items so far, and those of the rest, are those of all
abbrev pub invariant-loop-entry : goal.invariant-loop-entry
invariant-loop-entry l = l.list ++ map new_item_of (drop l.entry-index l.entries) ≡ map new_item_of l.entries
