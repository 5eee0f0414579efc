-- The clusters of the blocks of a file.
use Rattle.std.specs.Prelude.{ℕ, Bool, true, not, List, ◌&&◌, get_or, length, map}
use Rattle.std.specs.List.{list_all}
use Rattle.cf_model.specs.Standing.{are_apart}

abbrev pub clusters_in : List (ℕ × ℕ) → List ℕ
clusters_in pairs = map (λ p. p.1) pairs

-- each has a flag, which is not set, and none is there twice
abbrev pub are_free : List Bool → List ℕ → Bool
are_free taken clusters = list_all (λ n. not (get_or taken n true)) clusters && are_apart (length taken) clusters
