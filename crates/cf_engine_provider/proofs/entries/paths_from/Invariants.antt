use Rattle.std.proofs.Common.{◌≡◌, ◌++◌, drop}
use Rattle.cf_engine_provider.specs.Listings.{paths_from}
use Rattle.cf_engine_provider.proofs.entries.paths_from.Given as goal

-- the paths so far, and those of the rest from the next id on, are all
abbrev pub invariant-loop-entry : goal.invariant-loop-entry
invariant-loop-entry l = l.paths.items ++ paths_from l.id (drop l.entry-index l.entries) ≡ paths_from l.first l.entries
