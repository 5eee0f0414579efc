-- Items by rid.
use Rattle.std.proofs.Common.{◌≡◌, ℕ, zero, suc, ◌+◌, ◌-◌, ◌<◌, ◌≤◌, ◌⊎◌, inl, inr, List, [], ◌∷◌, length, get_or, refl, arith}
use Rattle.std.specs.Prelude.{Some, None}
use Rattle.std.proofs.lemmas.Bool.{eq-eqb, ne_eqb}
use Rattle.cf_base.specs.declared.ids.Rid.{Rid}
use Rattle.cf_model.specs.Growth.{CountsFrom}
use Rattle.cf_model.specs.Store.{Stored, stored_at}

get_from : (n : ℕ) (ss : List Stored) (rid : Rid) (k : ℕ) (d : Stored) → CountsFrom n ss → rid.0 ≡ n + k → k < length ss → stored_at ss rid ≡ Some (get_or ss k d)
get_from n [] rid k d h e lt = absurd (omega arith)
get_from n (s ∷ ss) rid zero d h e lt = rw (eq-eqb s.rid.0 rid.0 (omega (arith, h.0))) refl
get_from n (s ∷ ss) rid (suc k) d h e lt = rw (ne_eqb s.rid.0 rid.0 (λ i. absurd (omega (arith, h.0)))) (get_from (n + 1) ss rid k d h.1 (omega arith) (omega arith))

none_below : (n : ℕ) (ss : List Stored) (rid : Rid) → CountsFrom n ss → rid.0 < n → stored_at ss rid ≡ None
none_below n [] rid h lt = refl
none_below n (s ∷ ss) rid h lt = rw (ne_eqb s.rid.0 rid.0 (λ i. absurd (omega (arith, h.0)))) (none_below (n + 1) ss rid h.1 (omega arith))

none_above : (n : ℕ) (ss : List Stored) (rid : Rid) → CountsFrom n ss → n + length ss ≤ rid.0 → stored_at ss rid ≡ None
none_above n [] rid h le = refl
none_above n (s ∷ ss) rid h le = rw (ne_eqb s.rid.0 rid.0 (λ i. absurd (omega (arith, h.0)))) (none_above (n + 1) ss rid h.1 (omega arith))

pub none_is : (ss : List Stored) (rid : Rid) → CountsFrom 1 ss → (rid.0 ≡ 0) ⊎ (length ss < rid.0) → stored_at ss rid ≡ None
none_is ss rid h (inl e) = none_below 1 ss rid h (omega arith)
none_is ss rid h (inr lt) = none_above 1 ss rid h (omega arith)

pub get_is : (ss : List Stored) (rid : Rid) (d : Stored) → CountsFrom 1 ss → 1 ≤ rid.0 → rid.0 ≤ length ss → stored_at ss rid ≡ Some (get_or ss (rid.0 - 1) d)
get_is ss rid d h one le = get_from 1 ss rid (rid.0 - 1) d h (omega arith) (omega arith)
