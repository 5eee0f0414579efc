-- Lists in an order.
use Rattle.std.specs.Prelude.{◌≡◌, Bool, true, List, [], ◌∷◌}

-- each entry comes before all after it
abbrev pub AllAfter : {A : Type 0} → (A → A → Bool) → A → List A → Type 0
AllAfter before x [] = Unit {0}
AllAfter before x (y ∷ ys) = (before x y ≡ true) × AllAfter before x ys

abbrev pub InOrder : {A : Type 0} → (A → A → Bool) → List A → Type 0
InOrder before [] = Unit {0}
InOrder before (x ∷ xs) = AllAfter before x xs × InOrder before xs
