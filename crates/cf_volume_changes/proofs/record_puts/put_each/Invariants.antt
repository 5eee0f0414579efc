use Rattle.std.proofs.Common.{◌≡◌, drop}
use Rattle.cf_model.specs.Formats.{with_records}
use Rattle.cf_volume_changes.specs.Notes.{KnowKeys}
use Rattle.cf_volume_changes.proofs.record_puts.put_each.Given as goal

abbrev pub invariant-loop-aux : goal.invariant-loop-aux
invariant-loop-aux l = (with_records (drop l.aux-index l.list) l.records ≡ with_records l.list l.fn.records) × KnowKeys l.fn.records l.fn.then l.fn.made l.records l.then l.made
