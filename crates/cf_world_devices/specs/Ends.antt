-- What was not touched yet where a run ended.
use Rattle.cf_base.specs.declared.statuses.Status.{Status}
use Rattle.cf_base.specs.declared.statuses.Status.TheVariants as status

-- those at which nothing was written
abbrev pub IsBeforeWriting : Status → Type 0
IsBeforeWriting status.Usage = Unit {0}
IsBeforeWriting status.SourceFault = Unit {0}
IsBeforeWriting status.BadDevice = Unit {0}
IsBeforeWriting status.DeviceFault = Unit {0}
IsBeforeWriting _ = ⊥

-- those at which the device was not used
abbrev pub IsBeforeDevice : Status → Type 0
IsBeforeDevice status.Usage = Unit {0}
IsBeforeDevice status.SourceFault = Unit {0}
IsBeforeDevice status.BadScript = Unit {0}
IsBeforeDevice status.BadDevice = Unit {0}
IsBeforeDevice _ = ⊥
