-- A list of which the front alone lies in memory.
use Rattle.std.specs.Prelude.{◌-◌, ℕ, List, ◌++◌, length, replicate}

-- filled up to n with x
abbrev pub filled : {X : Type 0} → ℕ → X → List X → List X
filled n x xs = xs ++ replicate (n - length xs) x
