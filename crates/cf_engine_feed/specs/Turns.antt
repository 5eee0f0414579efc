-- The entries of a feed by their places in it, and what their turns gave.
use Rattle.std.specs.Prelude.{ℕ, Bool, true, false, List, [], ◌∷◌, ◌++◌, Option, Some, None, slice_get, Result, Ok, Err}
use Rattle.cf_base.specs.declared.codes.CallError.{CallError}
use Rattle.cf_base.specs.declared.messages.Entry.{Entry}
use Rattle.cf_engine_feed_plan.specs.declared.entry_steps.Turn.{Turn}
use Rattle.cf_engine_feed_plan.specs.declared.entry_steps.Turn.TheVariants.{Nothing, Postponed, Later, Do}
use Rattle.cf_engine_feed_plan.specs.Turns.{turn_of}
use Rattle.cf_model.specs.Arrows.{Arrow, ret, seq}
use Rattle.cf_model.specs.Feeds.{Fed, first_turn, second_turns, turns, with_turn}
use Rattle.cf_model.specs.State.{State}

-- the entry comes again
abbrev pub comes_again : Turn → Bool
comes_again Nothing = false
comes_again Postponed = false
comes_again Later = true
comes_again (Do steps) = false

abbrev pub before : Option Entry → List Entry → List Entry
before None rest = rest
before (Some e) rest = e ∷ rest

-- the entries at the places
abbrev pub entries_at : List Entry → List ℕ → List Entry
entries_at es [] = []
entries_at es (k ∷ ks) = before (slice_get es k) (entries_at es ks)

-- what the turns gave, by whether an entry was postponed and the places of those that come again
abbrev pub fed : List Entry → Bool → List ℕ → Fed
fed es postponed later = record { postponed = postponed; later = entries_at es later }

-- the same of what a call answers
abbrev pub fed_of : List Entry → Result Bool CallError → List ℕ → Result Fed CallError
fed_of es (Ok postponed) later = Ok (fed es postponed later)
fed_of es (Err e) later = Err e

-- the turn of an entry that may be there
abbrev pub turn_at : (Entry → Fed → Arrow State Fed) → Option Entry → Fed → Arrow State Fed
turn_at f None so_far = ret so_far
turn_at f (Some e) so_far = f e so_far

-- the first turn of the entry at a place, by its plan
abbrev pub planned_by : Bool → List Entry → Turn → ℕ → Bool → List ℕ → Arrow State Fed
planned_by true es t place postponed later = ret (fed es postponed (later ++ place ∷ []))
planned_by false es t place postponed later = seq (turn_of t) (with_turn (fed es postponed later))

abbrev pub planned : List Entry → Turn → ℕ → Bool → List ℕ → Arrow State Fed
planned es t place postponed later = planned_by (comes_again t) es t place postponed later

-- all turns of the entries in this order
abbrev pub turns_in : List Entry → Arrow State Fed
turns_in es = seq (turns first_turn es (record { postponed = false; later = [] })) second_turns
