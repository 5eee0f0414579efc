-- Items in order.
use Rattle.std.specs.Prelude.{◌≤◌, ◌+◌, ℕ, List, [], ◌∷◌}
use Rattle.cf_model.specs.Items.{Item}

-- the items stand in order of their numbers, from low on
abbrev pub AreRising : ℕ → List Item → Type 0
AreRising low [] = Unit {0}
AreRising low (i ∷ is) = (low ≤ i.id.0) × AreRising (i.id.0 + 1) is
