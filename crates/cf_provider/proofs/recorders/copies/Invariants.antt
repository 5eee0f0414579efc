use Rattle.std.proofs.Common.{◌≡◌, ◌++◌, drop}
use Rattle.cf_provider.proofs.recorders.copies.Given as goal

abbrev pub invariant-loop-path : goal.invariant-loop-path
invariant-loop-path l = l.copies ++ drop l.path-index l.seen ≡ l.seen
