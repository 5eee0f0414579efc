use Rattle.cf_table.proofs.ReadExit.{exits}
use Rattle.cf_table.specs.declared.failures.RowError.TheVariants.{OutOfMemory}
use Rattle.cf_volume_image.specs.Contents.{changes_of}
use Rattle.cf_volume_image.proofs.Kept.{all_short}
use Rattle.cf_volume_image.proofs.NoImage.{no_memory}
use Rattle.cf_volume_image.proofs.payload_reads.read_payload.Goals as goal

pub change-requires-clause-records : goal.change-requires-clause-records
change-requires-clause-records c = all_short c.in_ok-changes.changes.records c.in_ok-changes.ensures.fits.records.1

pub returns-in_err-change-clause-fault : goal.returns-in_err-change-clause-fault
returns-in_err-change-clause-fault c = exits _ _ OutOfMemory c.from_residual-in_err-change.ensures.1 (no_memory c.args.format _)

pub returns-clause-ok : goal.returns-clause-ok
returns-clause-ok c = record { value = changes_of c.in_ok-changes.changes; is_payload = c.in_ok-changes.ensures.fits; text_is = c.in_ok-changes.ensures.spelled; new_is = c.in_ok-change.ensures }
