-- A change that there may be.
use Rattle.std.specs.Prelude.{Bool, true, Option, Some, None}
use Rattle.cf_base.specs.declared.changes.Change.{Change}
use Rattle.cf_model.specs.Arrows.{Arrow, ret}
use Rattle.cf_model.specs.Skips.{try_change}
use Rattle.cf_model.specs.State.{State}

abbrev pub try_if : Option Change → Arrow State Bool
try_if None = ret true
try_if (Some c) = try_change c
