-- Why a script of two devices is not read.
use Rattle.std.specs.Prelude.{◌≡◌, ℕ, ◌+◌, ◌≤◌, List, ◌∷◌, ◌++◌, length, true}
use Rattle.cf_pair_events.specs.declared.events.PairEvent.{PairEvent}
use Rattle.cf_pair_script.specs.PairScript.{AreEvents, Spells}
use Rattle.cf_script.specs.Script.{event_lines, is_event_line}
use Rattle.cf_script.specs.declared.script_errors.ScriptError.{ScriptError}
use Rattle.cf_script.specs.declared.script_errors.ScriptError.TheVariants as fails
use Rattle.cf_script.specs.declared.scripts.TheConstants.{MOST_EVENTS}

-- line n, counted from 1, is no empty line and no comment; the lines before it spell the events
pub record IsLine (lines : List (List ℕ)) (n : ℕ) (events : List PairEvent) (line : List ℕ) : Type 0 where
  pub before : List (List ℕ)
  pub after : List (List ℕ)
  pub parts : lines ≡ before ++ line ∷ after
  pub place : n ≡ length before + 1
  pub good : AreEvents (event_lines before) events
  pub few : length events ≤ MOST_EVENTS
  pub here : is_event_line line ≡ true

-- memory is free; else the line is the first that stops the reading
abbrev pub IsCause : List (List ℕ) → ScriptError → Type 0
IsCause lines (fails.Syntax n) = (events : List PairEvent) × (line : List ℕ) × IsLine lines n events line × ((e : PairEvent) → Spells line e → ⊥)
IsCause lines (fails.TooManyEvents n) = (events : List PairEvent) × (line : List ℕ) × IsLine lines n events line × (length events ≡ MOST_EVENTS) × ((e : PairEvent) × Spells line e)
IsCause lines fails.OutOfMemory = Unit {0}
