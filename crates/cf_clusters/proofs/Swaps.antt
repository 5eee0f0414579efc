-- What a swap in the order does to the places.
use Rattle.std.proofs.Common.{◌≡◌, ◌≢◌, ℕ, ◌<◌, true, false, List, length, get_or, set, map, sym, ap, ◌∙◌, arith, eqb, inl, inr, length-set, get_or-set_same, get_or-set_other}
use Rattle.std.proofs.lemmas.Bool.{cases_Bool, eqb-true, eq-eqb}
use Rattle.std.proofs.lemmas.Bool.Decides.{nat_tests}
use Rattle.std.proofs.lemmas.List.{ext_get_or, get_or-map, length-map}
use Rattle.cf_clusters.specs.Layout.{AreInverse, moved}

module _ (order places : List ℕ) (inverse : AreInverse order places) (i j : ℕ) (in_i : i < length order) (in_j : j < length order) where
  at_first : (k : ℕ) → k ≡ get_or order i 0 → get_or places k 0 ≡ i
  at_first k e = ap (λ (n : ℕ). get_or places n 0) e ∙ inverse.back i in_i

  at_second : (k : ℕ) → k ≡ get_or order j 0 → get_or places k 0 ≡ j
  at_second k e = ap (λ (n : ℕ). get_or places n 0) e ∙ inverse.back j in_j

  elsewhere : (k p : ℕ) → k < length order → k ≢ get_or order p 0 → get_or places k 0 ≢ p
  elsewhere k p lt ne e = ne (sym (inverse.there k lt) ∙ ap (λ (n : ℕ). get_or order n 0) e)

  swapped_at : (k : ℕ) → k < length places → get_or (set (set places (get_or order i 0) j) (get_or order j 0) i) k 0 ≡ moved i j (get_or places k 0)
  swapped_at k lt =
      let inside : k < length order = omega (arith, inverse.size) in
      elim (cases_Bool (eqb k (get_or order j 0))) [
        | inl e ↦
            let here : k ≡ get_or order j 0 = eqb-true _ _ e in
            ap (λ (n : ℕ). get_or (set (set places (get_or order i 0) j) n i) k 0) (sym here)
            ∙ get_or-set_same (set places (get_or order i 0) j) k i 0 (omega (arith, length-set places (get_or order i 0) j))
            ∙ ending i j (get_or places k 0) (at_second k here)
        | inr e ↦
            let away : k ≢ get_or order j 0 = λ (h : k ≡ get_or order j 0). let z : true ≡ false = sym (eq-eqb _ _ h) ∙ e in cc in
            get_or-set_other (set places (get_or order i 0) j) (get_or order j 0) k i 0 away
            ∙ elim (cases_Bool (eqb k (get_or order i 0))) [
              | inl f ↦
                  let here : k ≡ get_or order i 0 = eqb-true _ _ f in
                  ap (λ (n : ℕ). get_or (set places n j) k 0) (sym here)
                  ∙ get_or-set_same places k j 0 lt
                  ∙ starting i j (get_or places k 0) (at_first k here)
              | inr f ↦
                  let apart : k ≢ get_or order i 0 = λ (h : k ≡ get_or order i 0). let z : true ≡ false = sym (eq-eqb _ _ h) ∙ f in cc in
                  get_or-set_other places (get_or order i 0) k j 0 apart
                  ∙ staying i j (get_or places k 0) (elsewhere k i inside apart) (elsewhere k j inside away)
            ]
      ] where
        ending : (i j p : ℕ) → p ≡ j → i ≡ moved i j p
        ending i j p e = grind (arith, nat_tests)

        starting : (i j p : ℕ) → p ≡ i → j ≡ moved i j p
        starting i j p e = grind (arith, nat_tests)

        staying : (i j p : ℕ) → p ≢ i → p ≢ j → p ≡ moved i j p
        staying i j p e f = grind (arith, nat_tests)

  pub swapped_places : set (set places (get_or order i 0) j) (get_or order j 0) i ≡ map (moved i j) places
  swapped_places = ext_get_or 0 (set (set places (get_or order i 0) j) (get_or order j 0) i) (map (moved i j) places)
      (length-set (set places (get_or order i 0) j) (get_or order j 0) i ∙ length-set places (get_or order i 0) j ∙ sym (length-map places (moved i j)))
      (λ k lt.
      let inside : k < length places = omega (arith, length-set (set places (get_or order i 0) j) (get_or order j 0) i, length-set places (get_or order i 0) j) in
      swapped_at k inside ∙ sym (get_or-map (moved i j) places k 0 0 inside))
