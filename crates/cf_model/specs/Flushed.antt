-- What a commit makes durable: changes that no restart leaves out.
use Rattle.std.specs.Prelude.{ℕ, List, [], ◌∷◌, length, take, ◌≡◌, ◌≤◌}
use Rattle.cf_base.specs.declared.changes.Change.{Change}
use Rattle.cf_base.specs.declared.ids.Usn.{Usn}
use Rattle.cf_model.specs.State.{Point, State, Volume}

-- each point has at least so many changes
abbrev pub AtLeast : ℕ → List Point → Type 0
AtLeast n [] = Unit {0}
AtLeast n (p ∷ ps) = (n ≤ p.count) × AtLeast n ps

-- the log begins with these changes, and so does the log of each point that a restart may open
abbrev pub Holds : List (Usn × Change) → Volume → Type 0
Holds log v = (take (length log) v.log ≡ log) × (length log ≤ length v.log) × AtLeast (length log) v.points

abbrev pub HoldsIn : List (Usn × Change) → State → Type 0
HoldsIn log s = Holds log s.filter.volume
