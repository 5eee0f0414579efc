use Rattle.std.proofs.Common.{◌≡◌, drop}
use Rattle.cf_volume_image.specs.States.{without_records}
use Rattle.cf_volume_image.proofs.payload_reads.remove_records.Given as goal

abbrev pub invariant-loop-key : goal.invariant-loop-key
invariant-loop-key l = without_records (drop l.key-index l.keys) l.records ≡ without_records l.keys l.fn.records
