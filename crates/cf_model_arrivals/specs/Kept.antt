-- Items of the remote that are here.
use Rattle.std.specs.Prelude.{ℕ, Bool, List, ◌≡◌}
use Rattle.cf_model.specs.Identities.{target_of}
use Rattle.cf_model.specs.Items.{Item}
use Rattle.cf_model_laws.specs.Invariant.{All, Among}

-- an item here has the target and is of the kind
abbrev pub IsKept : List Item → ℕ → Bool → Type 0
IsKept items rid directory = (i : Item) × Among i items × ((target_of i).0 ≡ rid) × (i.directory ≡ directory)

-- so it is of each of these
abbrev pub AreKept : List Item → List (ℕ × Bool) → Type 0
AreKept items ks = All (λ k. IsKept items k.0 k.1) ks
