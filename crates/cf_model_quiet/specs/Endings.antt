-- Small scripts, and which of their events end silent.
use Rattle.std.specs.Prelude.{Bool, List, [], ◌∷◌, map, ◌&&◌}
use Rattle.cf_base.specs.declared.events.Event.{Event}
use Rattle.cf_model.specs.Lawful.{answers}
use Rattle.cf_model.specs.Trees.{AsItKeeps, Choices, Faults, plainly}
use Rattle.cf_model_convergence.specs.Quiet.{is_count}
use Rattle.cf_model_convergence.specs.Scripts.{from_start}
use Rattle.cf_model_quiet.specs.LastPass.{ends_silent}

-- which of the answers are a count after a silent last pass
abbrev pub settling : List (Choices × Event) → List Bool
settling events = map (λ a. is_count a.shown && ends_silent a.notes) (answers from_start events)

-- the remote fails at the second request
abbrev pub failing_later : Choices
failing_later = record plainly { tellings = AsItKeeps ∷ Faults ∷ [] }
