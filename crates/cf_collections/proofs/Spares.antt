-- What it makes of a list where the first part of another moves by one.
use Rattle.std.proofs.Common.{◌≡◌, ℕ, zero, suc, ◌+◌, ◌-◌, ◌<◌, ◌≤◌, List, [], ◌∷◌, ◌++◌, length, take, drop, set, length-append, refl, sym, ap, subst, ◌∙◌, arith}
use Rattle.std.specs.Prelude.{insert, remove}

module _ {A : Type 0} where
  -- what changes behind the first places

  insert_at : (xs : List A) (s p n : ℕ) (x : A) → n ≡ s + p → s ≤ length xs → drop s (insert xs n x) ≡ insert (drop s xs) p x
  insert_at xs zero p n x e le = ap (λ (k : ℕ). insert xs k x) (let k : n ≡ p = omega arith in k)
  insert_at [] (suc s) p n x e le = absurd (omega arith)
  insert_at (y ∷ ys) (suc s) p zero x e le = absurd (omega arith)
  insert_at (y ∷ ys) (suc s) p (suc n) x e le = insert_at ys s p n x (omega arith) (omega arith)

  pub drop_insert : (xs : List A) (s p : ℕ) (x : A) → s ≤ length xs → drop s (insert xs (s + p) x) ≡ insert (drop s xs) p x
  drop_insert xs s p x le = insert_at xs s p (s + p) x refl le

  remove_at : (xs : List A) (s p n : ℕ) → n ≡ s + p → s ≤ length xs → drop s (remove xs n) ≡ remove (drop s xs) p
  remove_at xs zero p n e le = ap (λ (k : ℕ). remove xs k) (let k : n ≡ p = omega arith in k)
  remove_at [] (suc s) p n e le = absurd (omega arith)
  remove_at (y ∷ ys) (suc s) p zero e le = absurd (omega arith)
  remove_at (y ∷ ys) (suc s) p (suc n) e le = remove_at ys s p n (omega arith) (omega arith)

  pub drop_remove : (xs : List A) (s p : ℕ) → s ≤ length xs → drop s (remove xs (s + p)) ≡ remove (drop s xs) p
  drop_remove xs s p le = remove_at xs s p (s + p) refl le

  -- the last one is another

  set_end : (ys : List A) (z x : A) → set (ys ++ z ∷ []) (length ys) x ≡ ys ++ x ∷ []
  set_end [] z x = refl
  set_end (y ∷ ys) z x = ap (λ (l : List A). y ∷ l) (set_end ys z x)

  pub set_last : (part moved : List A) (x : A) → 1 ≤ length part → moved ≡ drop 1 part ++ take 1 part → set moved (length moved - 1) x ≡ drop 1 part ++ x ∷ []
  set_last [] moved x le e = absurd (omega arith)
  set_last (y ∷ ys) moved x le e =
      ap (λ (l : List A). set l (length l - 1) x) e
      ∙ ap (λ (n : ℕ). set (ys ++ y ∷ []) n x) (let n = length-append ys (y ∷ []) in let last : length (ys ++ y ∷ []) - 1 ≡ length ys = omega (arith, n) in last) ∙ set_end ys y x

  -- the places before one move to the front

  split_insert : (ys : List A) (p : ℕ) (x : A) → p ≤ length ys → (take p ys ++ x ∷ []) ++ drop p ys ≡ insert ys p x
  split_insert ys zero x le = refl
  split_insert [] (suc p) x le = absurd (omega arith)
  split_insert (y ∷ ys) (suc p) x le = ap (λ (l : List A). y ∷ l) (split_insert ys p x (omega arith))

  at_front : (xs : List A) (p k : ℕ) (x : A) → k ≡ suc p → suc p ≤ length xs → (drop 1 (take k xs) ++ x ∷ []) ++ drop k xs ≡ insert (drop 1 xs) p x
  at_front [] p k x e le = absurd (omega arith)
  at_front (y ∷ ys) p k x e le = subst (λ (n : ℕ). (drop 1 (take n (y ∷ ys)) ++ x ∷ []) ++ drop n (y ∷ ys) ≡ insert ys p x) (sym e) (split_insert ys p x (omega arith))

  front_put : (xs : List A) (a p k : ℕ) (x : A) → k ≡ suc p → suc a + p ≤ length xs
      → drop a (take a xs ++ ((drop 1 (take k (drop a xs)) ++ x ∷ []) ++ drop k (drop a xs))) ≡ insert (drop (suc a) xs) p x
  front_put xs zero p k x e le = at_front xs p k x e (omega arith)
  front_put [] (suc a) p k x e le = absurd (omega arith)
  front_put (y ∷ ys) (suc a) p k x e le = front_put ys a p k x e (omega arith)

  pub put_before : (xs moved : List A) (s p : ℕ) (x : A) → 1 ≤ s → s + p ≤ length xs → moved ≡ drop 1 (take (s + p - (s - 1)) (drop (s - 1) xs)) ++ x ∷ []
      → drop (s - 1) (take (s - 1) xs ++ (moved ++ drop (s + p - (s - 1)) (drop (s - 1) xs))) ≡ insert (drop s xs) p x
  put_before xs moved s p x one le e =
      ap (λ (l : List A). drop (s - 1) (take (s - 1) xs ++ (l ++ drop (s + p - (s - 1)) (drop (s - 1) xs)))) e
      ∙ front_put xs (s - 1) p (s + p - (s - 1)) x (omega arith) (omega arith)
      ∙ ap (λ (n : ℕ). insert (drop n xs) p x) (let n : suc (s - 1) ≡ s = omega arith in n)

  -- the places before one move back

  split_remove : (ys : List A) (p : ℕ) → p < length ys → take p ys ++ drop (suc p) ys ≡ remove ys p
  split_remove [] p lt = absurd (omega arith)
  split_remove (y ∷ ys) zero lt = refl
  split_remove (y ∷ ys) (suc p) lt = ap (λ (l : List A). y ∷ l) (split_remove ys p (omega arith))

  -- all but the last of the first ones

  but_last : (ys : List A) (p : ℕ) → p < length ys → take p (take (suc p) ys) ≡ take p ys
  but_last [] p lt = absurd (omega arith)
  but_last (y ∷ ys) zero lt = refl
  but_last (y ∷ ys) (suc p) lt = ap (λ (l : List A). y ∷ l) (but_last ys p (omega arith))

  as_many : (ys : List A) (p : ℕ) → p < length ys → length (take (suc p) ys) ≡ suc p
  as_many [] p lt = absurd (omega arith)
  as_many (y ∷ ys) zero lt = refl
  as_many (y ∷ ys) (suc p) lt = let n = as_many ys p (omega arith) in omega (arith, n)

  at_back : (xs : List A) (p k : ℕ) (x : A) → k ≡ suc p → p < length xs → take (length (take k xs) - 1) (take k xs) ++ drop k xs ≡ remove xs p
  at_back xs p k x e lt = subst (λ (n : ℕ). take (length (take n xs) - 1) (take n xs) ++ drop n xs ≡ remove xs p) (sym e) (
      ap (λ (n : ℕ). take n (take (suc p) xs) ++ drop (suc p) xs) (let m = as_many xs p lt in let n : length (take (suc p) xs) - 1 ≡ p = omega (arith, m) in n)
      ∙ ap (λ (l : List A). l ++ drop (suc p) xs) (but_last xs p lt) ∙ split_remove xs p lt)

  back_taken : (xs : List A) (s t p k : ℕ) (x : A) → t ≡ suc s → k ≡ suc p → s + p < length xs
      → drop t (take s xs ++ ((x ∷ take (length (take k (drop s xs)) - 1) (take k (drop s xs))) ++ drop k (drop s xs))) ≡ remove (drop s xs) p
  back_taken xs s zero p k x t e lt = absurd (omega arith)
  back_taken xs zero (suc zero) p k x t e lt = at_back xs p k x e (omega arith)
  back_taken xs zero (suc (suc n)) p k x t e lt = absurd (omega arith)
  back_taken [] (suc s) (suc n) p k x t e lt = absurd (omega arith)
  back_taken (y ∷ ys) (suc s) (suc n) p k x t e lt = back_taken ys s n p k x (omega arith) e (omega arith)

  pub take_before : (xs moved : List A) (s p : ℕ) (x : A) → s + p < length xs
      → moved ≡ x ∷ take (length (take (s + p + 1 - s) (drop s xs)) - 1) (take (s + p + 1 - s) (drop s xs))
      → drop (s + 1) (take s xs ++ (moved ++ drop (s + p + 1 - s) (drop s xs))) ≡ remove (drop s xs) p
  take_before xs moved s p x lt e =
      ap (λ (l : List A). drop (s + 1) (take s xs ++ (l ++ drop (s + p + 1 - s) (drop s xs)))) e ∙ back_taken xs s (s + 1) p (s + p + 1 - s) x (omega arith) (omega arith) lt
