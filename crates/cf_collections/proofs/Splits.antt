-- Where a list is split by a test.
use Rattle.std.proofs.Common.{◌≡◌, ℕ, zero, suc, ◌+◌, ◌-◌, ◌<◌, ◌≤◌, Bool, true, false, cond, List, [], ◌∷◌, ◌++◌, length, get_or, set, take, drop, refl, sym, ap, ◌∙◌, arith}
use Rattle.std.specs.Prelude.{insert, remove}
use Rattle.std.specs.List.Sorted.{IsPartitionedBy}
use Rattle.std.proofs.lemmas.Bool.{cond-true, cond-false}
use Rattle.cf_collections.specs.Split.{IsSplit, NonePass, behind, front, last_passes, rest}

module _ {T : Type 0} (p : T → Bool) where
  none_at : (xs : List T) (k : ℕ) (d : T) → NonePass p xs → k < length xs → p (get_or xs k d) ≡ false
  none_at [] k d n lt = absurd (omega arith)
  none_at (x ∷ xs) zero d n lt = n.0
  none_at (x ∷ xs) (suc k) d n lt = none_at xs k d n.1 (omega arith)

  pub parted : (xs : List T) → IsSplit p xs → IsPartitionedBy p xs
  parted [] s i j d le lt h = absurd (omega arith)
  parted (x ∷ xs) s zero zero d le lt h = h
  parted (x ∷ xs) s zero (suc j) d le lt h = by (p x) refl where
    by : (b : Bool) → p x ≡ b → p x ≡ true
    by true e = e
    by false e = let z : false ≡ true = sym (none_at xs j d (s.0 e) (omega arith)) ∙ h in cc
  parted (x ∷ xs) s (suc i) zero d le lt h = absurd (omega arith)
  parted (x ∷ xs) s (suc i) (suc j) d le lt h = parted xs s.1 i j d (omega arith) (omega arith) h

  pub point_is : (xs : List T) (n : ℕ) → n ≤ length xs → ((k : ℕ) (d : T) → 0 ≤ k → k < n → p (get_or xs k d) ≡ true) → ((k : ℕ) (d : T) → n ≤ k → k < length xs → p (get_or xs k d) ≡ false) → n ≡ length (front p xs)
  point_is [] zero le before from = refl
  point_is [] (suc n) le before from = absurd (omega arith)
  point_is (x ∷ xs) zero le before from = sym (ap (λ (l : List T). length l) (cond-false (p x) (x ∷ front p xs) [] (from 0 x (omega arith) (omega arith))))
  point_is (x ∷ xs) (suc n) le before from =
      ap suc (point_is xs n (omega arith) (λ k d low lt. before (suc k) d (omega arith) (omega arith)) (λ k d low lt. from (suc k) d (omega arith) (omega arith)))
      ∙ sym (ap (λ (l : List T). length l) (cond-true (p x) (x ∷ front p xs) [] (before 0 x (omega arith) (omega arith))))

  pub take_front : (xs : List T) → take (length (front p xs)) xs ≡ front p xs
  take_front [] = refl
  take_front (x ∷ xs) = by (take_front xs) (p x) where
    by : take (length (front p xs)) xs ≡ front p xs → (b : Bool) → take (length (cond b (x ∷ front p xs) [])) (x ∷ xs) ≡ cond b (x ∷ front p xs) []
    by more true = ap (λ (l : List T). x ∷ l) more
    by more false = refl

  pub drop_front : (xs : List T) → drop (length (front p xs)) xs ≡ behind p xs
  drop_front [] = refl
  drop_front (x ∷ xs) = by (drop_front xs) (p x) where
    by : drop (length (front p xs)) xs ≡ behind p xs → (b : Bool) → drop (length (cond b (x ∷ front p xs) [])) (x ∷ xs) ≡ cond b (behind p xs) (x ∷ xs)
    by more true = more
    by more false = refl

  pub drop_after : (xs : List T) → drop (suc (length (front p xs))) xs ≡ rest (behind p xs)
  drop_after [] = refl
  drop_after (x ∷ xs) = by (drop_after xs) (p x) where
    by : drop (suc (length (front p xs))) xs ≡ rest (behind p xs) → (b : Bool) → drop (suc (length (cond b (x ∷ front p xs) []))) (x ∷ xs) ≡ rest (cond b (behind p xs) (x ∷ xs))
    by more true = more
    by more false = refl

  -- the item at the place

  pub first_behind : (xs : List T) (x : T) → length (front p xs) < length xs → x ≡ get_or xs (length (front p xs)) x → behind p xs ≡ x ∷ rest (behind p xs)
  first_behind [] x lt is = absurd (omega arith)
  first_behind (y ∷ ys) x lt is = by (first_behind ys x) (p y) lt is where
    by : (length (front p ys) < length ys → x ≡ get_or ys (length (front p ys)) x → behind p ys ≡ x ∷ rest (behind p ys)) → (b : Bool)
        → length (cond b (y ∷ front p ys) []) < suc (length ys) → x ≡ get_or (y ∷ ys) (length (cond b (y ∷ front p ys) [])) x → cond b (behind p ys) (y ∷ ys) ≡ x ∷ rest (cond b (behind p ys) (y ∷ ys))
    by more true lt is = more (omega arith) is
    by more false lt is = ap (λ (z : T). z ∷ ys) (sym is)

  -- the last item

  last_at : (xs : List T) (n : ℕ) (x : T) → n + 1 ≡ length xs → x ≡ get_or xs n x → last_passes p xs ≡ p x
  last_at [] n x e h = absurd (omega arith)
  last_at (y ∷ []) zero x e h = ap p (sym h)
  last_at (y ∷ []) (suc n) x e h = absurd (omega arith)
  last_at (y ∷ z ∷ zs) zero x e h = absurd (omega arith)
  last_at (y ∷ z ∷ zs) (suc n) x e h = last_at (z ∷ zs) n x (omega arith) h

  pub last_is : (xs : List T) (x : T) → 0 < length xs → x ≡ get_or xs (length xs - 1) x → last_passes p xs ≡ p x
  last_is xs x some h = last_at xs (length xs - 1) x (omega arith) h

  pub last_left : (xs : List T) → last_passes p xs ≡ false → length (front p xs) < length xs
  last_left [] h = let z : true ≡ false = h in cc
  last_left (x ∷ []) h = let z : length (cond (p x) (x ∷ []) []) ≡ 0 = ap (λ (l : List T). length l) (cond-false (p x) (x ∷ []) [] h) in omega (arith, z)
  last_left (x ∷ y ∷ ys) h = by (last_left (y ∷ ys) h) (p x) where
    by : length (front p (y ∷ ys)) < length (y ∷ ys) → (b : Bool) → length (cond b (x ∷ front p (y ∷ ys)) []) < suc (length (y ∷ ys))
    by more true = omega (arith, more)
    by more false = omega arith

  -- where a chunk does not come before the place as a whole
  pub fails_there : (xs : List T) (d : T) → length (front p xs) < length xs → p (get_or xs (length (front p xs)) d) ≡ false
  fails_there [] d lt = absurd (omega arith)
  fails_there (x ∷ xs) d lt = by (fails_there xs d) (p x) refl lt where
    by : (length (front p xs) < length xs → p (get_or xs (length (front p xs)) d) ≡ false) → (b : Bool) → p x ≡ b
        → length (cond b (x ∷ front p xs) []) < suc (length xs) → p (get_or (x ∷ xs) (length (cond b (x ∷ front p xs) [])) d) ≡ false
    by more true e lt = more (omega arith)
    by more false e lt = e

  pub front_within : (xs : List T) → length (front p xs) ≤ length xs
  front_within [] = omega arith
  front_within (x ∷ xs) = by (front_within xs) (p x) where
    by : length (front p xs) ≤ length xs → (b : Bool) → length (cond b (x ∷ front p xs) []) ≤ suc (length xs)
    by more true = omega (arith, more)
    by more false = omega arith

  -- the item that stands there, where one does

  pub some_there : (xs r : List T) (x d : T) → behind p xs ≡ x ∷ r → (length (front p xs) < length xs) × (get_or xs (length (front p xs)) d ≡ x)
  some_there [] r x d h = let z : ◌≡◌ {A = List T} [] (x ∷ r) = h in absurd cc
  some_there (y ∷ ys) r x d h = by (some_there ys r x d) (p y) h where
    by : (behind p ys ≡ x ∷ r → (length (front p ys) < length ys) × (get_or ys (length (front p ys)) d ≡ x)) → (b : Bool) → cond b (behind p ys) (y ∷ ys) ≡ x ∷ r
        → (length (cond b (y ∷ front p ys) []) < suc (length ys)) × (get_or (y ∷ ys) (length (cond b (y ∷ front p ys) [])) d ≡ x)
    by more true h = let m = more h in (omega (arith, m.0), m.1)
    by more false h = (omega arith, (let z : ◌≡◌ {A = List T} (y ∷ ys) (x ∷ r) = h in cc))

  pub none_there : (xs : List T) → behind p xs ≡ [] → length (front p xs) ≡ length xs
  none_there [] h = refl
  none_there (y ∷ ys) h = by (none_there ys) (p y) h where
    by : (behind p ys ≡ [] → length (front p ys) ≡ length ys) → (b : Bool) → cond b (behind p ys) (y ∷ ys) ≡ [] → length (cond b (y ∷ front p ys) []) ≡ suc (length ys)
    by more true h = ap suc (more h)
    by more false h = let z : ◌≡◌ {A = List T} (y ∷ ys) [] = h in cc

  -- what comes there, and what goes

  pub set_front : (xs : List T) (x : T) → length (front p xs) < length xs → set xs (length (front p xs)) x ≡ front p xs ++ x ∷ rest (behind p xs)
  set_front [] x lt = absurd (omega arith)
  set_front (y ∷ ys) x lt = by (set_front ys x) (p y) lt where
    by : (length (front p ys) < length ys → set ys (length (front p ys)) x ≡ front p ys ++ x ∷ rest (behind p ys)) → (b : Bool) → length (cond b (y ∷ front p ys) []) < suc (length ys)
        → set (y ∷ ys) (length (cond b (y ∷ front p ys) [])) x ≡ cond b (y ∷ front p ys) [] ++ x ∷ rest (cond b (behind p ys) (y ∷ ys))
    by more true lt = ap (λ (l : List T). y ∷ l) (more (omega (arith, lt)))
    by more false lt = refl

  pub replaced_there : (xs ys new : List T) (n : ℕ) (x : T) → ys ≡ xs → n ≡ length (front p ys) → n < length xs → new ≡ set xs n x → new ≡ front p xs ++ x ∷ rest (behind p xs)
  replaced_there xs ys new n x same at lt is =
      let e : n ≡ length (front p xs) = at ∙ ap (λ (l : List T). length (front p l)) same in
      is ∙ ap (λ (k : ℕ). set xs k x) e ∙ set_front xs x (omega (arith, e, lt))

  pub inserted_there : (xs ys new : List T) (n : ℕ) (x : T) → ys ≡ xs → n ≡ length (front p ys) → new ≡ insert xs n x → new ≡ front p xs ++ x ∷ behind p xs
  inserted_there xs ys new n x same at is =
      is ∙ ap (λ (k : ℕ). insert xs k x) (at ∙ ap (λ (l : List T). length (front p l)) same)
      ∙ ap (λ (l : List T). l ++ x ∷ drop (length (front p xs)) xs) (take_front xs) ∙ ap (λ (l : List T). front p xs ++ x ∷ l) (drop_front xs)

  pub removed_there : (xs ys new : List T) (n : ℕ) → ys ≡ xs → n ≡ length (front p ys) → new ≡ remove xs n → new ≡ front p xs ++ rest (behind p xs)
  removed_there xs ys new n same at is =
      is ∙ ap (λ (k : ℕ). remove xs k) (at ∙ ap (λ (l : List T). length (front p l)) same)
      ∙ ap (λ (l : List T). l ++ drop (suc (length (front p xs))) xs) (take_front xs) ∙ ap (λ (l : List T). front p xs ++ l) (drop_after xs)

  pub item_there : (xs ys : List T) (n : ℕ) (x : T) → ys ≡ xs → n ≡ length (front p ys) → n < length xs → x ≡ get_or xs n x → behind p xs ≡ x ∷ rest (behind p xs)
  item_there xs ys n x same at lt is =
      let e : n ≡ length (front p xs) = at ∙ ap (λ (l : List T). length (front p l)) same in
      first_behind xs x (omega (arith, e)) (is ∙ ap (λ (k : ℕ). get_or xs k x) e)

  pub fails_at : (xs : List T) (n : ℕ) (d : T) → n ≡ length (front p xs) → n < length xs → p (get_or xs n d) ≡ false
  fails_at xs n d at lt = ap (λ (k : ℕ). p (get_or xs k d)) at ∙ fails_there xs d (omega (arith, at))

  pub drop_at : (xs : List T) (n : ℕ) → n ≡ length (front p xs) → drop n xs ≡ behind p xs
  drop_at xs n at = ap (λ (k : ℕ). drop k xs) at ∙ drop_front xs
