-- What a disk reports of the power cuts that it gained.
use Rattle.std.proofs.Common.{◌≡◌, ℕ, List, [], ◌∷◌, ◌++◌, append_assoc, sym, ap, ◌∙◌}
use Rattle.std.specs.Prelude.{Bool, true, false, Option, Some, None}
use Rattle.std.proofs.lemmas.List.{append-nil}
use Rattle.cf_filter_events.specs.Pasts.{Gains}
use Rattle.cf_base.specs.declared.policies.Choice.{Choice}

abbrev told_in : Option (List (Choice × List ℕ)) → List (Choice × List ℕ)
told_in None = []
told_in (Some l) = l

abbrev is_told : Option (List (Choice × List ℕ)) → Bool
is_told None = false
is_told (Some l) = true

-- a disk that reported them no longer does not tell them again
never_again : (powers new : List (Choice × List ℕ)) → Gains powers None (Some new) → ⊥
never_again [] new h = let z : true ≡ false = ap is_told h in absurd cc
never_again (w ∷ ws) new (None, adds, rest) = never_again ws new rest
never_again (w ∷ ws) new (Some mid, adds, rest) = adds (record {})

pub gains_told : (powers old new : List (Choice × List ℕ)) → Gains powers (Some old) (Some new) → new ≡ old ++ powers
gains_told [] old new h = ap told_in h ∙ sym (append-nil old)
gains_told (w ∷ ws) old new (None, adds, rest) = absurd (never_again ws new rest)
gains_told (w ∷ ws) old new (Some mid, adds, rest) = gains_told ws mid new rest ∙ ap (λ (l : List (Choice × List ℕ)). l ++ ws) adds ∙ append_assoc old (w ∷ []) ws
