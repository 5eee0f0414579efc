-- One list is sorted by a key and keeps the order of equal keys.
use Rattle.std.proofs.Common.{◌≡◌, ℕ, suc, ◌≤◌, ◌<◌, Bool, true, false, cond, not, List, [], ◌∷◌, length, get_or, refl, sym, ap, subst, ◌∙◌, arith, eqb, ltb, inl, inr}
use Rattle.std.specs.Prelude.{filter, ◌&&◌}
use Rattle.std.specs.List.Sorted.{IsNonDecreasingBy, IsStableByKey, ties}
use Rattle.std.specs.Ordering.{is_lt, nat_cmp}
use Rattle.std.proofs.lemmas.Bool.{cases_order, cond-true, cond-false, eq-eqb, eqb-true, ne_eqb, ltb-true, ltb-false}
use Rattle.std.proofs.lemmas.Bool.Decides.{nat_tests}
use Rattle.cf_model.specs.Words.{put_in, sorted}

module _ {X : Type 0} (key : X → ℕ) where
  abbrev pub has_key : ℕ → X → Bool
  has_key k x = eqb (key x) k

  -- the keys do not fall, from low on
  abbrev pub Rises : ℕ → List X → Type 0
  Rises low [] = Unit {0}
  Rises low (x ∷ xs) = (low ≤ key x) × Rises (key x) xs

  pub none_below : (low k : ℕ) (xs : List X) → Rises low xs → k < low → filter (has_key k) xs ≡ []
  none_below low k [] h lt = refl
  none_below low k (x ∷ xs) h lt = cond-false (has_key k x) _ _ (ne_eqb (key x) k (λ e. omega (arith, h.0))) ∙ none_below (key x) k xs h.1 (omega (arith, h.0))

  some_head : (x : X) (xs : List X) → x ∷ xs ≡ [] → ⊥
  some_head x xs e = cc

  own_first : (x : X) (xs : List X) → filter (has_key (key x)) (x ∷ xs) ≡ x ∷ filter (has_key (key x)) xs
  own_first x xs = cond-true (has_key (key x) x) _ _ (eq-eqb (key x) (key x) refl)

  tails : (x : X) (xs ys : List X) (k : ℕ) → filter (has_key k) (x ∷ xs) ≡ filter (has_key k) (x ∷ ys) → filter (has_key k) xs ≡ filter (has_key k) ys
  tails x xs ys k e = two (has_key k x) e where
    two : (b : Bool) → cond b (x ∷ filter (has_key k) xs) (filter (has_key k) xs) ≡ cond b (x ∷ filter (has_key k) ys) (filter (has_key k) ys) → filter (has_key k) xs ≡ filter (has_key k) ys
    two true h = cc
    two false h = h

  -- two sorted lists with the same elements of each key are one
  pub one_sorted : (low : ℕ) (xs ys : List X) → Rises low xs → Rises low ys → ((k : ℕ) → filter (has_key k) xs ≡ filter (has_key k) ys) → xs ≡ ys
  one_sorted low [] [] a b same = refl
  one_sorted low [] (y ∷ ys) a b same = absurd (some_head y _ (sym (own_first y ys) ∙ sym (same (key y))))
  one_sorted low (x ∷ xs) [] a b same = absurd (some_head x _ (sym (own_first x xs) ∙ same (key x)))
  one_sorted low (x ∷ xs) (y ∷ ys) a b same = elim (cases_order (key x) (key y)) [
    | inl e ↦
        let mine : x ∷ filter (has_key (key x)) xs ≡ y ∷ filter (has_key (key x)) ys = sym (own_first x xs) ∙ same (key x) ∙ cond-true (has_key (key x) y) _ _ (eq-eqb (key y) (key x) (sym e)) in
        let head : x ≡ y = cc in
        let rest : xs ≡ ys = one_sorted (key x) xs ys a.1 (subst (λ n. Rises n ys) (sym e) b.1) (λ k. tails x xs ys k (same k ∙ ap (λ v. filter (has_key k) (v ∷ ys)) (sym head))) in
        λ k. head k ∷ rest k
    | inr (inl lt) ↦ absurd (some_head x _ (sym (own_first x xs) ∙ same (key x) ∙ none_below (key y) (key x) (y ∷ ys) (omega arith, b.1) lt))
    | inr (inr gt) ↦ absurd (some_head y _ (sym (own_first y ys) ∙ sym (same (key y)) ∙ none_below (key x) (key y) (x ∷ xs) (omega arith, a.1) gt))
  ]

  abbrev pub before : X → X → Bool
  before x y = ltb (key x) (key y)

  put_rises : (low : ℕ) (x : X) (ys : List X) → low ≤ key x → Rises low ys → Rises low (put_in before x ys)
  put_rises low x [] le h = (le, tt)
  put_rises low x (y ∷ ys) le h = two (before y x) refl (λ k. put_rises (key y) x ys k h.1) where
    two : (b : Bool) → before y x ≡ b → (key y ≤ key x → Rises (key y) (put_in before x ys)) → Rises low (cond b (y ∷ put_in before x ys) (x ∷ y ∷ ys))
    two true e rest = (h.0, rest (let lt = ltb-true (key y) (key x) e in omega arith))
    two false e rest = (le, (ltb-false (key y) (key x) e, h.1))

  pub sorted_rises : (xs : List X) → Rises 0 (sorted before xs)
  sorted_rises [] = tt
  sorted_rises (x ∷ xs) = put_rises 0 x (sorted before xs) (omega arith) (sorted_rises xs)

  put_keeps : (k : ℕ) (x : X) (ys : List X) → filter (has_key k) (put_in before x ys) ≡ filter (has_key k) (x ∷ ys)
  put_keeps k x [] = refl
  put_keeps k x (y ∷ ys) = two (before y x) refl (put_keeps k x ys) where
    swapped : (p q : Bool) → (p ≡ true → q ≡ true → ⊥) → (list : List X) → cond q (y ∷ cond p (x ∷ list) list) (cond p (x ∷ list) list) ≡ cond p (x ∷ cond q (y ∷ list) list) (cond q (y ∷ list) list)
    swapped true true h list = absurd (h refl refl)
    swapped true false h list = refl
    swapped false q h list = refl

    two : (b : Bool) → before y x ≡ b → filter (has_key k) (put_in before x ys) ≡ filter (has_key k) (x ∷ ys) → filter (has_key k) (cond b (y ∷ put_in before x ys) (x ∷ y ∷ ys)) ≡ filter (has_key k) (x ∷ y ∷ ys)
    two true e rest =
        ap (λ l. cond (has_key k y) (y ∷ l) l) rest
        ∙ swapped (has_key k x) (has_key k y) (λ p q. let lt = ltb-true (key y) (key x) e in omega (arith, eqb-true (key x) k p, eqb-true (key y) k q)) (filter (has_key k) ys)
    two false e rest = refl

  pub sorted_keeps : (k : ℕ) (xs : List X) → filter (has_key k) (sorted before xs) ≡ filter (has_key k) xs
  sorted_keeps k [] = refl
  sorted_keeps k (x ∷ xs) = put_keeps k x (sorted before xs) ∙ ap (λ l. cond (has_key k x) (x ∷ l) l) (sorted_keeps k xs)

  from_indexes : (low : ℕ) (xs : List X) → ((d : X) → 0 < length xs → low ≤ key (get_or xs 0 d)) → IsNonDecreasingBy key xs → Rises low xs
  from_indexes low [] first up = tt
  from_indexes low (x ∷ xs) first up = (first x (omega arith), from_indexes (key x) xs (λ d lt. up 0 1 d (omega arith) (omega arith)) (λ i j d le lt. up (suc i) (suc j) d (omega arith) (omega arith)))

  same_filter : (p q : X → Bool) → ((x : X) → p x ≡ q x) → (xs : List X) → filter p xs ≡ filter q xs
  same_filter p q h [] = refl
  same_filter p q h (x ∷ xs) = λ k. cond (h x k) (x ∷ same_filter p q h xs k) (same_filter p q h xs k)

  tie_is : (x y : X) → ties (λ a b. is_lt (nat_cmp (key a) (key b))) x y ≡ has_key (key x) y
  tie_is x y = numbers (key x) (key y) where
    numbers : (m n : ℕ) → (not (is_lt (nat_cmp m n)) && not (is_lt (nat_cmp n m))) ≡ eqb n m
    numbers m n = grind (arith, nat_tests)

  has_its_key : (k : ℕ) (xs : List X) (x : X) (rest : List X) → filter (has_key k) xs ≡ x ∷ rest → key x ≡ k
  has_its_key k [] x rest e = absurd (some_head x rest (sym e))
  has_its_key k (y ∷ ys) x rest e = two (has_key k y) refl e (λ h. has_its_key k ys x rest h) where
    two : (b : Bool) → has_key k y ≡ b → cond b (y ∷ filter (has_key k) ys) (filter (has_key k) ys) ≡ x ∷ rest → (filter (has_key k) ys ≡ x ∷ rest → key x ≡ k) → key x ≡ k
    two true h q more = let head : y ≡ x = cc in ap key (sym head) ∙ eqb-true (key y) k h
    two false h q more = more q

  by_key_of : (xs ys : List X) → IsStableByKey key nat_cmp xs ys → (k : ℕ) (x : X) → key x ≡ k → filter (has_key k) ys ≡ filter (has_key k) xs
  by_key_of xs ys stable k x e =
      let alike : (list : List X) → filter (ties (λ a b. is_lt (nat_cmp (key a) (key b))) x) list ≡ filter (has_key k) list =
      λ list. same_filter _ (has_key k) (λ y. tie_is x y ∙ ap (λ n. has_key n y) e) list in
      sym (alike ys) ∙ stable x ∙ alike xs

  -- a key that an element has, or none has
  each_key : (xs ys : List X) → IsStableByKey key nat_cmp xs ys → (k : ℕ) → filter (has_key k) ys ≡ filter (has_key k) xs
  each_key xs ys stable k = cases (filter (has_key k) xs) (filter (has_key k) ys) refl refl where
    cases : (p q : List X) → filter (has_key k) xs ≡ p → filter (has_key k) ys ≡ q → filter (has_key k) ys ≡ filter (has_key k) xs
    cases [] [] e f = f ∙ sym e
    cases (x ∷ p) q e f = by_key_of xs ys stable k x (has_its_key k xs x p e)
    cases [] (y ∷ q) e f = by_key_of xs ys stable k y (has_its_key k ys y q f)

  pub sort_is : (xs ys : List X) → IsNonDecreasingBy key ys → IsStableByKey key nat_cmp xs ys → ys ≡ sorted before xs
  sort_is xs ys up stable = one_sorted 0 ys (sorted before xs) (from_indexes 0 ys (λ d lt. omega arith) up) (sorted_rises xs) (λ k. each_key xs ys stable k ∙ sym (sorted_keeps k xs))
