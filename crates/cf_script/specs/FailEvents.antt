-- Why a script is not read.
use Rattle.std.specs.Prelude.{◌≡◌, ℕ, ◌+◌, ◌≤◌, List, ◌∷◌, ◌++◌, length, true}
use Rattle.cf_base.specs.declared.events.Event.{Event}
use Rattle.cf_base.specs.declared.policies.Mode.{Mode}
use Rattle.cf_script.specs.declared.script_errors.ScriptError.{ScriptError}
use Rattle.cf_script.specs.declared.script_errors.ScriptError.TheVariants as fails
use Rattle.cf_script.specs.Script.{Spells, AreEvents, is_event_line, event_lines}
use Rattle.cf_script.specs.declared.scripts.TheConstants.{MOST_EVENTS}

-- line n, counted from 1, is no empty line and no comment; the lines before it spell the events
pub record IsLine (mode : Mode) (lines : List (List ℕ)) (n : ℕ) (events : List Event) (line : List ℕ) : Type 0 where
  pub before : List (List ℕ)
  pub after : List (List ℕ)
  pub parts : lines ≡ before ++ line ∷ after
  pub place : n ≡ length before + 1
  pub good : AreEvents mode (event_lines before) events
  pub few : length events ≤ MOST_EVENTS
  pub here : is_event_line line ≡ true

-- memory is free; else the line is the first that stops the reading
abbrev pub IsCause : Mode → List (List ℕ) → ScriptError → Type 0
IsCause mode lines (fails.Syntax n) = (events : List Event) × (line : List ℕ) × IsLine mode lines n events line × ((event : Event) → Spells mode line event → ⊥)
IsCause mode lines (fails.TooManyEvents n) = (events : List Event) × (line : List ℕ) × IsLine mode lines n events line × (length events ≡ MOST_EVENTS) × ((event : Event) × Spells mode line event)
IsCause mode lines fails.OutOfMemory = Unit {0}
