-- Lists in order of number: what a binary search finds, and what goes out.
use Rattle.std.proofs.Common.{◌≡◌, ℕ, zero, suc, ◌<◌, ◌≤◌, Bool, true, false, ◌&&◌, not, cond, Some, None, List, [], ◌∷◌, length, get_or, refl, sym, ap, subst, ◌∙◌, arith, eqb, ltb}
use Rattle.std.specs.Prelude.{filter, find, map, remove}
use Rattle.std.specs.List.{AllByRecursion}
use Rattle.std.proofs.Math.ListN.{set}
use Rattle.std.specs.List.Sorted.{IsNonDecreasingBy, IsPartitionPoint, IsPartitionedBy}
use Rattle.std.proofs.lemmas.Bool.{cond-true, cond-false, ltb-false, ltb-true}
use Rattle.std.proofs.lemmas.Bool.Decides.{nat_tests}
use Rattle.std.proofs.lemmas.List.{get_or_default}
use Rattle.std.proofs.lemmas.List.Sorted.{IsPartitionedBy-ltb}
use Rattle.cf_base.specs.declared.ids.Key.{Key}
use Rattle.cf_model.specs.Numbers.{same_key}
use Rattle.cf_waits.proofs.Rises.{above_differs, all_above, below_differs}
use Rattle.cf_waits.specs.Books.{IsPlaceBy, at_number, if_key}
use Rattle.cf_waits.specs.Rising.{IsRising, RisesTo}

module _ {A : Type 0} (key : A → Key) where
  number_from : (epoch low high j : ℕ) (xs : List A) (d : A) → RisesTo key epoch low high xs → j < length xs → low < (key (get_or xs j d)).number
  number_from epoch low high j [] d h lt = absurd (omega arith)
  number_from epoch low high zero (x ∷ xs) d h lt = h.1
  number_from epoch low high (suc j) (x ∷ xs) d h lt = let k : low < (key x).number = h.1 in let m : (key x).number < (key (get_or xs j d)).number = number_from epoch (key x).number high j xs d h.2 (omega arith) in omega arith

  numbers_rise : (epoch low high : ℕ) (xs : List A) → RisesTo key epoch low high xs → IsNonDecreasingBy (λ (x : A). (key x).number) xs
  numbers_rise epoch low high [] h i j d le lt = absurd (omega arith)
  numbers_rise epoch low high (x ∷ xs) h zero zero d le lt = omega arith
  numbers_rise epoch low high (x ∷ xs) h zero (suc j) d le lt = let m : (key x).number < (key (get_or xs j d)).number = number_from epoch (key x).number high j xs d h.2 (omega arith) in omega arith
  numbers_rise epoch low high (x ∷ xs) h (suc i) zero d le lt = absurd (omega arith)
  numbers_rise epoch low high (x ∷ xs) h (suc i) (suc j) d le lt = numbers_rise epoch (key x).number high xs h.2 i j d (omega arith) (omega arith)

  pub parted : (n : ℕ) (xs : List A) → IsRising key xs → IsPartitionedBy (λ (x : A). ltb (key x).number n) xs
  parted n xs h = IsPartitionedBy-ltb (λ (x : A). (key x).number) xs n (numbers_rise h.0 0 h.1 xs h.2)

  pub place_is : (n : ℕ) (xs : List A) (p : ℕ) → p ≤ length xs → IsPartitionPoint (λ (x : A). ltb (key x).number n ≡ true) (λ (x : A). ltb (key x).number n ≡ false) xs p → IsPlaceBy key n xs p
  place_is n xs p le h = record { in_range = le; before = λ k d lt. ltb-true _ _ (h.0 k d (omega arith) lt); from = λ k d ge lt. ltb-false _ _ (h.1 k d ge lt) }

  numbers_from : (epoch low high : ℕ) (xs : List A) (n p : ℕ) (d : A) → RisesTo key epoch low high xs → p < length xs → (key (get_or xs p d)).number ≡ n → IsPlaceBy key n xs p
  numbers_from epoch low high xs n p d h lt is = record {
    in_range = omega arith;
    before = λ k e l. rises_strictly epoch low high xs k p e d h l lt is;
    from = λ k e ge l. let m : (key (get_or xs p e)).number ≤ (key (get_or xs k e)).number = numbers_rise epoch low high xs h p k e ge l in let q : (key (get_or xs p e)).number ≡ n = ap (λ (x : A). (key x).number) (get_or_default xs p e d lt) ∙ is in omega arith;
  } where
    rises_strictly : (epoch low high : ℕ) (xs : List A) (k p : ℕ) (e d : A) → RisesTo key epoch low high xs → k < p → p < length xs → (key (get_or xs p d)).number ≡ n → (key (get_or xs k e)).number < n
    rises_strictly epoch low high [] k p e d h l lt is = absurd (omega arith)
    rises_strictly epoch low high (x ∷ xs) zero zero e d h l lt is = absurd (omega arith)
    rises_strictly epoch low high (x ∷ xs) zero (suc p) e d h l lt is = let m : (key x).number < (key (get_or xs p d)).number = number_from epoch (key x).number high p xs d h.2 (omega arith) in omega arith
    rises_strictly epoch low high (x ∷ xs) (suc k) zero e d h l lt is = absurd (omega arith)
    rises_strictly epoch low high (x ∷ xs) (suc k) (suc p) e d h l lt is = rises_strictly epoch (key x).number high xs k p e d h.2 (omega arith) (omega arith) is

  -- the place at which the number stands
  pub place_there : (n : ℕ) (xs : List A) (p : ℕ) (d : A) → IsRising key xs → p < length xs → (key (get_or xs p d)).number ≡ n → IsPlaceBy key n xs p
  place_there n xs p d r lt is = numbers_from r.0 0 r.1 xs n p d r.2 lt is

  place_tail : (n : ℕ) (x : A) (xs : List A) (p : ℕ) → IsPlaceBy key n (x ∷ xs) (suc p) → IsPlaceBy key n xs p
  place_tail n x xs p h = record {
    in_range = omega (arith, h.in_range);
    before = λ k d lt. h.before (suc k) d (omega arith);
    from = λ k d ge lt. h.from (suc k) d (omega arith) (omega arith);
  }

  -- what is above a number

  none_at : (n : ℕ) (xs : List A) → AllByRecursion (λ (x : A). n < (key x).number) xs → at_number key n xs ≡ None
  none_at n [] h = refl
  none_at n (x ∷ xs) h = cond-false (eqb (key x).number n) _ _ (above (key x).number n h.0) ∙ none_at n xs h.1 where
    above : (m n : ℕ) → n < m → eqb m n ≡ false
    above m n l = grind (arith, nat_tests)

  none_same : (k : Key) (xs : List A) → AllByRecursion (λ (x : A). k.number < (key x).number) xs → find (λ x. same_key k (key x)) xs ≡ None
  none_same k [] h = refl
  none_same k (x ∷ xs) h = cond-false (same_key k (key x)) _ _ (below_differs k (key x) h.0) ∙ none_same k xs h.1

  none_goes : (k : Key) (xs : List A) → AllByRecursion (λ (x : A). k.number < (key x).number) xs → filter (λ x. not (same_key k (key x))) xs ≡ xs
  none_goes k [] h = refl
  none_goes k (x ∷ xs) h = cond-true (not (same_key k (key x))) _ _ (ap not (below_differs k (key x) h.0)) ∙ ap (λ l. x ∷ l) (none_goes k xs h.1)

  under : (m n : ℕ) → m < n → eqb m n ≡ false
  under m n l = grind (arith, nat_tests)

  is_number : (m n : ℕ) → eqb m n ≡ true → m ≡ n
  is_number m n h = grind (arith, nat_tests)

  over : (m n : ℕ) → n ≤ m → eqb m n ≡ false → n < m
  over m n l h = grind (arith, nat_tests)

  rest_above : (epoch low high : ℕ) (n : ℕ) (x : A) (xs : List A) → RisesTo key epoch low high (x ∷ xs) → n ≤ (key x).number → AllByRecursion (λ (y : A). n < (key y).number) xs
  rest_above epoch low high n x xs h le = lift xs (all_above key epoch (key x).number high xs h.2) where
    lift : (ys : List A) → AllByRecursion (λ (y : A). (key x).number < (key y).number) ys → AllByRecursion (λ (y : A). n < (key y).number) ys
    lift [] g = tt
    lift (y ∷ ys) g = let l : (key x).number < (key y).number = g.0 in (omega arith, lift ys g.1)

  -- a look-up by number

  pub at_end : (n p : ℕ) (xs : List A) → IsPlaceBy key n xs p → p ≡ length xs → at_number key n xs ≡ None
  at_end n p [] h e = refl
  at_end n zero (x ∷ xs) h e = absurd (omega arith)
  at_end n (suc p) (x ∷ xs) h e = cond-false (eqb (key x).number n) _ _ (under (key x).number n (h.before 0 x (omega arith))) ∙ at_end n p xs (place_tail n x xs p h) (omega arith)

  at_from : (epoch low high n p : ℕ) (xs : List A) (d : A) → RisesTo key epoch low high xs → IsPlaceBy key n xs p → p < length xs → at_number key n xs ≡ cond (eqb (key (get_or xs p d)).number n) (Some (get_or xs p d)) None
  at_from epoch low high n p [] d r h lt = absurd (omega arith)
  at_from epoch low high n zero (x ∷ xs) d r h lt = ap (λ o. cond (eqb (key x).number n) (Some x) o) (none_at n xs (rest_above epoch low high n x xs r (h.from 0 d (omega arith) (omega arith))))
  at_from epoch low high n (suc p) (x ∷ xs) d r h lt =
      cond-false (eqb (key x).number n) _ _ (under (key x).number n (h.before 0 x (omega arith))) ∙ at_from epoch (key x).number high n p xs d r.2 (place_tail n x xs p h) (omega arith)

  pub at_place : (n p : ℕ) (xs : List A) (d : A) → IsRising key xs → IsPlaceBy key n xs p → p < length xs → at_number key n xs ≡ cond (eqb (key (get_or xs p d)).number n) (Some (get_or xs p d)) None
  at_place n p xs d r h lt = at_from r.0 0 r.1 n p xs d r.2 h lt

  none_of_key : (k : Key) (xs : List A) → AllByRecursion (λ (x : A). k.number < (key x).number) xs → find (λ x. same_key (key x) k) xs ≡ None
  none_of_key k [] h = refl
  none_of_key k (x ∷ xs) h = cond-false (same_key (key x) k) _ _ (above_differs (key x) k h.0) ∙ none_of_key k xs h.1

  key_from : (epoch low high : ℕ) (k : Key) (xs : List A) → RisesTo key epoch low high xs → find (λ x. same_key (key x) k) xs ≡ if_key key k (at_number key k.number xs)
  key_from epoch low high k [] r = refl
  key_from epoch low high k (x ∷ xs) r = one (eqb (key x).number k.number) refl (key_from epoch (key x).number high k xs r.2) where
    no_number : (a b c d : ℕ) → eqb b d ≡ false → (eqb a c && eqb b d) ≡ false
    no_number a b c d h = grind (arith, nat_tests)

    one : (b : Bool) → eqb (key x).number k.number ≡ b → find (λ y. same_key (key y) k) xs ≡ if_key key k (at_number key k.number xs)
        → cond (same_key (key x) k) (Some x) (find (λ y. same_key (key y) k) xs) ≡ if_key key k (cond b (Some x) (at_number key k.number xs))
    one true e h = ap (λ o. cond (same_key (key x) k) (Some x) o) (none_of_key k xs (rest_above epoch low high k.number x xs r (let q : (key x).number ≡ k.number = is_number (key x).number k.number e in omega arith)))
    one false e h = cond-false (same_key (key x) k) _ _ (no_number (key x).epoch (key x).number k.epoch k.number e) ∙ h

  pub key_is : (k : Key) (xs : List A) → IsRising key xs → find (λ x. same_key (key x) k) xs ≡ if_key key k (at_number key k.number xs)
  key_is k xs r = key_from r.0 0 r.1 k xs r.2

  -- the one of a key goes

  goes_from : (epoch low high : ℕ) (k : Key) (p : ℕ) (xs : List A) (d : A) → RisesTo key epoch low high xs → IsPlaceBy key k.number xs p → p < length xs → same_key k (key (get_or xs p d)) ≡ true → remove xs p ≡ filter (λ x. not (same_key k (key x))) xs
  goes_from epoch low high k p [] d r h lt s = absurd (omega arith)
  goes_from epoch low high k zero (x ∷ xs) d r h lt s =
      sym (cond-false (not (same_key k (key x))) _ _ (ap not s) ∙ none_goes k xs (rest_above epoch low high k.number x xs r (h.from 0 d (omega arith) (omega arith))))
  goes_from epoch low high k (suc p) (x ∷ xs) d r h lt s =
      ap (λ l. x ∷ l) (goes_from epoch (key x).number high k p xs d r.2 (place_tail k.number x xs p h) (omega arith) s)
      ∙ sym (cond-true (not (same_key k (key x))) _ _ (ap not (above_differs k (key x) (h.before 0 x (omega arith)))))

  pub goes : (k : Key) (p : ℕ) (xs : List A) (d : A) → IsRising key xs → IsPlaceBy key k.number xs p → p < length xs → same_key k (key (get_or xs p d)) ≡ true → remove xs p ≡ filter (λ x. not (same_key k (key x))) xs
  goes k p xs d r h lt s = goes_from r.0 0 r.1 k p xs d r.2 h lt s

  same_from : (k : Key) (p : ℕ) (xs : List A) (d : A) → IsPlaceBy key k.number xs p → p < length xs → same_key k (key (get_or xs p d)) ≡ true → find (λ x. same_key k (key x)) xs ≡ Some (get_or xs p d)
  same_from k p [] d h lt s = absurd (omega arith)
  same_from k zero (x ∷ xs) d h lt s = cond-true (same_key k (key x)) _ _ s
  same_from k (suc p) (x ∷ xs) d h lt s = cond-false (same_key k (key x)) _ _ (above_differs k (key x) (h.before 0 x (omega arith))) ∙ same_from k p xs d (place_tail k.number x xs p h) (omega arith) s

  pub same_found : (k : Key) (p : ℕ) (xs : List A) (d : A) → IsPlaceBy key k.number xs p → p < length xs → same_key k (key (get_or xs p d)) ≡ true → find (λ x. same_key k (key x)) xs ≡ Some (get_or xs p d)
  same_found = same_from

  -- none of a key

  stays_from : (epoch low high : ℕ) (k : Key) (p : ℕ) (xs : List A) → RisesTo key epoch low high xs → IsPlaceBy key k.number xs p → ((d : A) → p < length xs → same_key k (key (get_or xs p d)) ≡ false) → filter (λ x. not (same_key k (key x))) xs ≡ xs
  stays_from epoch low high k p [] r h s = refl
  stays_from epoch low high k zero (x ∷ xs) r h s =
      cond-true (not (same_key k (key x))) _ _ (ap not (s x (omega arith))) ∙ ap (λ l. x ∷ l) (none_goes k xs (rest_above epoch low high k.number x xs r (h.from 0 x (omega arith) (omega arith))))
  stays_from epoch low high k (suc p) (x ∷ xs) r h s =
      cond-true (not (same_key k (key x))) _ _ (ap not (above_differs k (key x) (h.before 0 x (omega arith)))) ∙ ap (λ l. x ∷ l) (stays_from epoch (key x).number high k p xs r.2 (place_tail k.number x xs p h) (λ d lt. s d (omega arith)))

  pub stays : (k : Key) (p : ℕ) (xs : List A) → IsRising key xs → IsPlaceBy key k.number xs p → ((d : A) → p < length xs → same_key k (key (get_or xs p d)) ≡ false) → filter (λ x. not (same_key k (key x))) xs ≡ xs
  stays k p xs r h s = stays_from r.0 0 r.1 k p xs r.2 h s

  miss_from : (epoch low high : ℕ) (k : Key) (p : ℕ) (xs : List A) → RisesTo key epoch low high xs → IsPlaceBy key k.number xs p → ((d : A) → p < length xs → same_key k (key (get_or xs p d)) ≡ false) → find (λ x. same_key k (key x)) xs ≡ None
  miss_from epoch low high k p [] r h s = refl
  miss_from epoch low high k zero (x ∷ xs) r h s =
      cond-false (same_key k (key x)) _ _ (s x (omega arith)) ∙ none_same k xs (rest_above epoch low high k.number x xs r (h.from 0 x (omega arith) (omega arith)))
  miss_from epoch low high k (suc p) (x ∷ xs) r h s =
      cond-false (same_key k (key x)) _ _ (above_differs k (key x) (h.before 0 x (omega arith))) ∙ miss_from epoch (key x).number high k p xs r.2 (place_tail k.number x xs p h) (λ d lt. s d (omega arith))

  pub missing : (k : Key) (p : ℕ) (xs : List A) → IsRising key xs → IsPlaceBy key k.number xs p → ((d : A) → p < length xs → same_key k (key (get_or xs p d)) ≡ false) → find (λ x. same_key k (key x)) xs ≡ None
  missing k p xs r h s = miss_from r.0 0 r.1 k p xs r.2 h s

  pub place_moved : (m n p : ℕ) (xs ys : List A) → xs ≡ ys → m ≡ n → IsPlaceBy key m xs p → IsPlaceBy key n ys p
  place_moved m n p xs ys e f h = subst (λ (l : List A). IsPlaceBy key n l p) e (subst (λ (i : ℕ). IsPlaceBy key i xs p) f h)

  -- the one at a place, whatever is told where there is none
  pub differs_there : (k : Key) (p : ℕ) (xs : List A) (x : A) → x ≡ get_or xs p x → same_key k (key x) ≡ false → (d : A) → p < length xs → same_key k (key (get_or xs p d)) ≡ false
  differs_there k p xs x is s d lt = ap (λ (y : A). same_key k (key y)) (get_or_default xs p d x lt ∙ sym is) ∙ s

  pub is_there : (k : Key) (p : ℕ) (xs : List A) (x : A) → x ≡ get_or xs p x → same_key k (key x) ≡ true → same_key k (key (get_or xs p x)) ≡ true
  is_there k p xs x is s = ap (λ (y : A). same_key k (key y)) (sym is) ∙ s

  -- the one of a key is changed

  none_changes : (f : A → A) (k : Key) (xs : List A) → AllByRecursion (λ (x : A). k.number < (key x).number) xs → map (λ x. cond (same_key k (key x)) (f x) x) xs ≡ xs
  none_changes f k [] h = refl
  none_changes f k (x ∷ xs) h = ap (λ v. v ∷ map (λ y. cond (same_key k (key y)) (f y) y) xs) (cond-false (same_key k (key x)) _ _ (below_differs k (key x) h.0)) ∙ ap (λ l. x ∷ l) (none_changes f k xs h.1)

  changes_from : (f : A → A) (epoch low high : ℕ) (k : Key) (p : ℕ) (xs : List A) (x : A) → RisesTo key epoch low high xs → IsPlaceBy key k.number xs p → p < length xs → x ≡ get_or xs p x → same_key k (key x) ≡ true → set xs p (f x) ≡ map (λ y. cond (same_key k (key y)) (f y) y) xs
  changes_from f epoch low high k p [] x r h lt is s = absurd (omega arith)
  changes_from f epoch low high k zero (y ∷ ys) x r h lt is s =
      ap (λ v. f v ∷ ys) is
      ∙ sym (ap (λ v. v ∷ map (λ z. cond (same_key k (key z)) (f z) z) ys) (cond-true (same_key k (key y)) _ _ (ap (λ (v : A). same_key k (key v)) (sym is) ∙ s)) ∙ ap (λ l. f y ∷ l) (none_changes f k ys (rest_above epoch low high k.number y ys r (h.from 0 y (omega arith) (omega arith)))))
  changes_from f epoch low high k (suc p) (y ∷ ys) x r h lt is s =
      ap (λ l. y ∷ l) (changes_from f epoch (key y).number high k p ys x r.2 (place_tail k.number y ys p h) (omega arith) is s)
      ∙ ap (λ v. v ∷ map (λ z. cond (same_key k (key z)) (f z) z) ys) (sym (cond-false (same_key k (key y)) _ _ (above_differs k (key y) (h.before 0 y (omega arith)))))

  pub changes : (f : A → A) (k : Key) (p : ℕ) (xs : List A) (x : A) → IsRising key xs → IsPlaceBy key k.number xs p → p < length xs → x ≡ get_or xs p x → same_key k (key x) ≡ true → set xs p (f x) ≡ map (λ y. cond (same_key k (key y)) (f y) y) xs
  changes f k p xs x r h lt is s = changes_from f r.0 0 r.1 k p xs x r.2 h lt is s

  unchanged_from : (f : A → A) (epoch low high : ℕ) (k : Key) (p : ℕ) (xs : List A) → RisesTo key epoch low high xs → IsPlaceBy key k.number xs p → ((d : A) → p < length xs → same_key k (key (get_or xs p d)) ≡ false) → map (λ x. cond (same_key k (key x)) (f x) x) xs ≡ xs
  unchanged_from f epoch low high k p [] r h s = refl
  unchanged_from f epoch low high k zero (x ∷ xs) r h s =
      ap (λ v. v ∷ map (λ y. cond (same_key k (key y)) (f y) y) xs) (cond-false (same_key k (key x)) _ _ (s x (omega arith))) ∙ ap (λ l. x ∷ l) (none_changes f k xs (rest_above epoch low high k.number x xs r (h.from 0 x (omega arith) (omega arith))))
  unchanged_from f epoch low high k (suc p) (x ∷ xs) r h s =
      ap (λ v. v ∷ map (λ y. cond (same_key k (key y)) (f y) y) xs) (cond-false (same_key k (key x)) _ _ (above_differs k (key x) (h.before 0 x (omega arith)))) ∙ ap (λ l. x ∷ l) (unchanged_from f epoch (key x).number high k p xs r.2 (place_tail k.number x xs p h) (λ d lt. s d (omega arith)))

  pub unchanged : (f : A → A) (k : Key) (p : ℕ) (xs : List A) → IsRising key xs → IsPlaceBy key k.number xs p → ((d : A) → p < length xs → same_key k (key (get_or xs p d)) ≡ false) → map (λ x. cond (same_key k (key x)) (f x) x) xs ≡ xs
  unchanged f k p xs r h s = unchanged_from f r.0 0 r.1 k p xs r.2 h s
