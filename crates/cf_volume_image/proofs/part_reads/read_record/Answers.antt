use Rattle.std.proofs.Common.{inl, inr}
use Rattle.cf_table.specs.declared.failures.RowError.TheVariants.{OutOfMemory}
use Rattle.cf_table.proofs.ReadExit.{exits}
use Rattle.cf_volume_image.proofs.part_reads.read_record.Goals as goal

pub returns-in_err-key-clause-fault : goal.returns-in_err-key-clause-fault
returns-in_err-key-clause-fault c = exits _ _ _ c.from_residual.ensures.1 (inl c.in_err-key.ensures.fault)

pub returns-in_err-value-clause-fault : goal.returns-in_err-value-clause-fault
returns-in_err-value-clause-fault c =
    exits _ _ _ c.from_residual-in_err-value.ensures.1 (inr (record { part = _; is_part = c.in_ok-key.ensures.fits; mid = _; takes = c.in_ok-key.ensures.took; fault = c.in_err-value.ensures.fault }))

pub returns-in_err-from_slice-clause-fault : goal.returns-in_err-from_slice-clause-fault
returns-in_err-from_slice-clause-fault c = exits _ _ OutOfMemory c.from_residual-in_err-from_slice.ensures.1 (inl (inl (inl tt)))

pub returns-in_err-from_slice-2-clause-fault : goal.returns-in_err-from_slice-2-clause-fault
returns-in_err-from_slice-2-clause-fault c = exits _ _ OutOfMemory c.from_residual-in_err-from_slice-2.ensures.1 (inl (inl (inl tt)))
