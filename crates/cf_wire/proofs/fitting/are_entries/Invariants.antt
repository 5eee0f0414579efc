use Rattle.std.proofs.Common.{◌≡◌, drop}
use Rattle.std.specs.List.{list_all}
use Rattle.cf_model.specs.Fits.{is_entry}
use Rattle.cf_wire.proofs.fitting.are_entries.Given as goal

abbrev pub invariant-loop-entry : goal.invariant-loop-entry
invariant-loop-entry g l = list_all (is_entry (g.L.LocalItems.known l.local)) (drop l.entry-index l.entries) ≡ list_all (is_entry (g.L.LocalItems.known l.local)) l.entries
