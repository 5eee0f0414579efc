-- A script and the events that it spells.
use Rattle.std.specs.Prelude.{ℕ, ◌≤◌, ◌==◌, ◌&&◌, not, nat_le, Bool, false, List, [], ◌∷◌, length, filter, if◌then◌else◌, IsTrue}
use Rattle.std.specs.List.{slice_split, onto_first, list_all}
use Rattle.std.specs.Str.{IsUtf8}
use Rattle.cf_base.specs.declared.events.Event.{Event}
use Rattle.cf_base.specs.declared.policies.Mode.{Mode}
use Rattle.cf_script.specs.Forms.{AreWords}
use Rattle.cf_script.specs.declared.scripts.TheConstants.{MOST_EVENTS}

-- the lines of a text: each ends with byte 10, which the last may lack
abbrev pub lines_of : List ℕ → List (List ℕ)
lines_of [] = []
lines_of (b ∷ bs) = if b == 10 then [] ∷ lines_of bs else onto_first b (lines_of bs)

-- an empty line and a comment are no events, whatever bytes a comment has
abbrev pub is_event_line : List ℕ → Bool
is_event_line [] = false
is_event_line (b ∷ bs) = not (b == 35)

abbrev pub event_lines : List (List ℕ) → List (List ℕ)
event_lines lines = filter is_event_line lines

-- the words of a line, between single spaces
abbrev pub words_of : List ℕ → List (List ℕ)
words_of line = slice_split (λ b. b == 32) line

-- a line has no control bytes
abbrev pub is_plain : List ℕ → Bool
is_plain line = list_all (λ b. nat_le 32 b && not (b == 127)) line

-- the line spells the event
pub record Spells (mode : Mode) (line : List ℕ) (event : Event) : Type 0 where
  pub utf8 : IsUtf8 line
  pub plain : IsTrue (is_plain line)
  pub words : AreWords mode (words_of line) event

-- the lines spell the events, one by one
abbrev pub AreEvents : Mode → List (List ℕ) → List Event → Type 0
AreEvents mode [] [] = Unit {0}
AreEvents mode (line ∷ lines) (event ∷ events) = Spells mode line event × AreEvents mode lines events
AreEvents mode [] (event ∷ events) = ⊥
AreEvents mode (line ∷ lines) [] = ⊥

-- the text spells the events
abbrev pub IsScript : Mode → List ℕ → List Event → Type 0
IsScript mode text events = AreEvents mode (event_lines (lines_of text)) events × (length events ≤ MOST_EVENTS)
