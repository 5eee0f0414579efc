-- The parts of a pass, which mirror the code: no definitions to believe.
use Rattle.cf_base.specs.declared.answers.Shown.{Shown}
use Rattle.cf_engine_passes.specs.Deliveries.{drained}
use Rattle.cf_model.specs.Arrows.{Arrow, then_do}
use Rattle.cf_model.specs.Passes.{ask_feed, pass}
use Rattle.cf_model.specs.Pushes.{push_all}
use Rattle.cf_model.specs.State.{State}

abbrev pub asked_and_pushed : Arrow State (Unit {0})
asked_and_pushed = then_do ask_feed push_all

-- a pass, and then what waits is called back
abbrev pub passed : Arrow State Shown
passed = then_do pass drained
