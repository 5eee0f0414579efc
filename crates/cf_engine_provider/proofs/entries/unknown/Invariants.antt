use Rattle.std.proofs.Common.{◌≡◌, ◌++◌, not, drop}
use Rattle.std.specs.Prelude.{filter}
use Rattle.cf_model.specs.Fits.{is_known}
use Rattle.cf_engine_provider.proofs.entries.unknown.Given as goal

-- the entries so far, and those of the rest, are those of all
abbrev pub invariant-loop-entry : goal.invariant-loop-entry
invariant-loop-entry l = l.left.items ++ filter (λ e. not (is_known l.local e.rid)) (drop l.entry-index l.entries) ≡ filter (λ e. not (is_known l.local e.rid)) l.entries
