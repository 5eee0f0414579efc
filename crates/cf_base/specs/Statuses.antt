-- The numbers with which a program ends.
use Rattle.std.specs.Prelude.{ℕ}
use Rattle.cf_base.specs.declared.statuses.Status.{Status}
use Rattle.cf_base.specs.declared.statuses.Status.TheVariants.{Done, Usage, BadScript, SourceFault, SinkFault, BadDevice, OutOfMemory, TooLong, DeviceFault, BadImage, Unlawful, Undecided, Damaged}

-- 1 is left to the toolchain
abbrev pub exit_number : Status → ℕ
exit_number Done = 0
exit_number Usage = 2
exit_number BadScript = 3
exit_number SourceFault = 4
exit_number SinkFault = 5
exit_number BadDevice = 6
exit_number OutOfMemory = 7
exit_number TooLong = 8
exit_number DeviceFault = 9
exit_number BadImage = 10
exit_number Unlawful = 11
exit_number Undecided = 12
exit_number Damaged = 13
