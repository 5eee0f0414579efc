-- Two texts of which one report begins with both.
use Rattle.std.specs.Prelude.{ℕ, Bool, true, false, List, [], ◌∷◌, cond, ◌==◌}
use Rattle.cf_base.specs.declared.codes.Code.{Code}
use Rattle.cf_base.specs.declared.codes.Code.TheVariants as code
use Rattle.cf_check_model.specs.Reports.{Begins}

-- one report begins with both, so that the one is a front of the other
abbrev pub Meet : List ℕ → List ℕ → Type 0
Meet xs ys = (report : List ℕ) × Begins report xs × Begins report ys

-- there is a place that both have, at which they differ
abbrev pub clash : List ℕ → List ℕ → Bool
clash [] ys = false
clash (x ∷ xs) [] = false
clash (x ∷ xs) (y ∷ ys) = cond (x == y) (clash xs ys) true

abbrev pub is_remote_fault : Code → Bool
is_remote_fault code.RemoteFault = true
is_remote_fault _ = false
