use Rattle.std.proofs.Common.{◌≡◌, ◌++◌, drop}
use Rattle.cf_engine_provider.specs.Listings.{targets_in}
use Rattle.cf_engine_provider.proofs.locals.targets_of.Given as goal

-- the targets so far, and those of the rest, are those of all
abbrev pub invariant-loop-local : goal.invariant-loop-local
invariant-loop-local l = l.targets.items ++ targets_in l.directory (drop l.local-index l.list) ≡ targets_in l.directory l.list
