-- The sizes of devices.
use Rattle.std.specs.Prelude.{◌≡◌, ℕ, ◌%◌}
use Rattle.cf_journal.specs.Settled.{IsFitSize}

-- a size that a device may have, in bytes
abbrev pub IsFit : ℕ → Type 0
IsFit n = IsFitSize n × (n % 4096 ≡ 0)
