-- What is reported of a remote that is with the other device.
use Rattle.std.specs.Prelude.{None}
use Rattle.cf_pair_lane.specs.declared.absences.Away.{Away}
use Rattle.cf_remote.specs.Told.{Told}

abbrev pub told_away : Away → Told
told_away a = record { held = None; asks = None; fails = None; faults = 0 }
