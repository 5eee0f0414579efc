-- What every call leaves of a disk, and why it stops.
use Rattle.std.specs.Prelude.{◌≡◌, ◌≤◌, ◌+◌, ℕ}
use Rattle.cf_disk.specs.Disk.{HasFailed, State, may_fail, size_of}
use Rattle.cf_volume_points.specs.declared.stops.Stop.{Stop}
use Rattle.cf_volume_points.specs.declared.stops.Stop.TheVariants.{Device, OutOfMemory}

-- A disk after calls that wrote n bytes at most.
pub record Ran (n : ℕ) (s t : State) : Type 0 where
  pub size : size_of t ≡ size_of s
  pub powers : t.powers ≡ s.powers
  pub settings : t.settings ≡ s.settings
  pub faults : s.faults ≤ t.faults
  pub calm : may_fail t.armed ≤ may_fail s.armed
  pub written : t.written ≤ s.written + n

-- the device stops a call only where one of its calls failed
abbrev pub IsStop : Stop → State → State → Type 0
IsStop Device s t = HasFailed s t
IsStop OutOfMemory s t = Unit {0}
