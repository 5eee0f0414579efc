-- Lists of which the first items come before a place: what is put there, and what goes.
use Rattle.std.proofs.Common.{◌≡◌, Bool, true, false, cond, List, [], ◌∷◌, ◌++◌, length, drop, refl, sym, ap, subst, ◌∙◌}
use Rattle.std.specs.List.{insert, remove}
use Rattle.std.proofs.lemmas.Bool.{cond-true, cond-false}
use Rattle.cf_collections.specs.Split.{IsSplit, NonePass, behind, front, rest}

module _ {T : Type 0} (p : T → Bool) where
  abbrev pub put : T → List T → List T
  put x xs = front p xs ++ x ∷ behind p xs

  abbrev pub gone : List T → List T
  gone xs = front p xs ++ rest (behind p xs)

  -- at the place

  pub behind_is : (xs : List T) → behind p xs ≡ drop (length (front p xs)) xs
  behind_is [] = refl
  behind_is (x ∷ xs) = by (p x) (behind_is xs) where
    by : (b : Bool) → behind p xs ≡ drop (length (front p xs)) xs → cond b (behind p xs) (x ∷ xs) ≡ drop (length (cond b (x ∷ front p xs) [])) (x ∷ xs)
    by true more = more
    by false more = refl

  pub put_is : (x : T) (xs : List T) → put x xs ≡ insert xs (length (front p xs)) x
  put_is x [] = refl
  put_is x (y ∷ ys) = by (p y) (put_is x ys) where
    by : (b : Bool) → put x ys ≡ insert ys (length (front p ys)) x → cond b (y ∷ front p ys) [] ++ x ∷ cond b (behind p ys) (y ∷ ys) ≡ insert (y ∷ ys) (length (cond b (y ∷ front p ys) [])) x
    by true more = ap (λ (l : List T). y ∷ l) more
    by false more = refl

  pub gone_is : (xs : List T) → gone xs ≡ remove xs (length (front p xs))
  gone_is [] = refl
  gone_is (x ∷ xs) = by (p x) (gone_is xs) where
    by : (b : Bool) → gone xs ≡ remove xs (length (front p xs)) → cond b (x ∷ front p xs) [] ++ rest (cond b (behind p xs) (x ∷ xs)) ≡ remove (x ∷ xs) (length (cond b (x ∷ front p xs) []))
    by true more = ap (λ (l : List T). x ∷ l) more
    by false more = refl

  front_no : (xs : List T) → NonePass p xs → front p xs ≡ []
  front_no [] n = refl
  front_no (x ∷ xs) n = cond-false (p x) _ _ n.0

  behind_no : (xs : List T) → NonePass p xs → behind p xs ≡ xs
  behind_no [] n = refl
  behind_no (x ∷ xs) n = cond-false (p x) _ _ n.0

  -- an item that does not come before the place is put there, and goes or becomes another one

  module _ (x : T) (not_before : p x ≡ false) where
    front_put : (xs : List T) → front p (put x xs) ≡ front p xs
    front_put [] = cond-false (p x) _ _ not_before
    front_put (y ∷ ys) = by (p y) refl (front_put ys) where
      by : (b : Bool) → p y ≡ b → front p (put x ys) ≡ front p ys → front p (cond b (y ∷ front p ys) [] ++ x ∷ cond b (behind p ys) (y ∷ ys)) ≡ cond b (y ∷ front p ys) []
      by true e more = cond-true (p y) _ _ e ∙ ap (λ (l : List T). y ∷ l) more
      by false e more = cond-false (p x) _ _ not_before

    pub behind_put : (xs : List T) → behind p (put x xs) ≡ x ∷ behind p xs
    behind_put [] = cond-false (p x) _ _ not_before
    behind_put (y ∷ ys) = by (p y) refl (behind_put ys) where
      by : (b : Bool) → p y ≡ b → behind p (put x ys) ≡ x ∷ behind p ys → behind p (cond b (y ∷ front p ys) [] ++ x ∷ cond b (behind p ys) (y ∷ ys)) ≡ x ∷ cond b (behind p ys) (y ∷ ys)
      by true e more = cond-true (p y) _ _ e ∙ more
      by false e more = cond-false (p x) _ _ not_before

    front_behind : (xs : List T) → front p xs ++ behind p xs ≡ xs
    front_behind [] = refl
    front_behind (y ∷ ys) = by (p y) (front_behind ys) where
      by : (b : Bool) → front p ys ++ behind p ys ≡ ys → cond b (y ∷ front p ys) [] ++ cond b (behind p ys) (y ∷ ys) ≡ y ∷ ys
      by true more = ap (λ (l : List T). y ∷ l) more
      by false more = refl

    pub put_gone : (xs : List T) → gone (put x xs) ≡ xs
    put_gone xs = (λ i. front_put xs i ++ rest (behind_put xs i)) ∙ front_behind xs

    pub put_set : (y : T) (xs : List T) → front p (put x xs) ++ y ∷ rest (behind p (put x xs)) ≡ put y xs
    put_set y xs = λ i. front_put xs i ++ y ∷ rest (behind_put xs i)

    pub put_split : (xs : List T) → IsSplit p xs → IsSplit p (put x xs)
    put_split [] s = ((λ h. tt), tt)
    put_split (y ∷ ys) s = by (p y) refl (put_split ys s.1) where
      by : (b : Bool) → p y ≡ b → IsSplit p (put x ys) → IsSplit p (cond b (y ∷ front p ys) [] ++ x ∷ cond b (behind p ys) (y ∷ ys))
      by true e more = ((λ h. absurd (let z : true ≡ false = sym e ∙ h in cc)), more)
      by false e more = ((λ h. (e, s.0 e)), s)

-- an item goes while another one is kept at a place

module _ {T : Type 0} (old new : T → Bool) where
  -- the new place is not behind the old one: what comes before it comes before that
  abbrev pub AreLower : List T → Type 0
  AreLower [] = Unit {0}
  AreLower (x ∷ xs) = (new x ≡ true → old x ≡ true) × AreLower xs

  -- the item at the old place comes before the new one, and so does all that comes before the item
  abbrev pub IsHigher : List T → Type 0
  IsHigher [] = ⊥
  IsHigher (x ∷ xs) = (new x ≡ true) × (old x ≡ true → IsHigher xs)

module _ {T : Type 0} (old new : T → Bool) (kept : T) where
  module _ (old_kept : old kept ≡ true) where
    none_gone : (xs : List T) → NonePass new xs → NonePass new (gone old xs)
    none_gone [] n = tt
    none_gone (x ∷ xs) n = by (old x) (none_gone xs n.1) where
      by : (b : Bool) → NonePass new (gone old xs) → NonePass new (cond b (x ∷ front old xs) [] ++ rest (cond b (behind old xs) (x ∷ xs)))
      by true more = (n.0, more)
      by false more = n.1

    pub lower_split : (xs : List T) → IsSplit old xs → AreLower old new xs → IsSplit old (put new kept xs)
    lower_split [] s l = ((λ h. tt), tt)
    lower_split (x ∷ xs) s l = by (new x) refl (lower_split xs s.1 l.1) where
      by : (b : Bool) → new x ≡ b → IsSplit old (put new kept xs) → IsSplit old (cond b (x ∷ front new xs) [] ++ kept ∷ cond b (behind new xs) (x ∷ xs))
      by true e more = ((λ h. absurd (let z : true ≡ false = sym (l.0 e) ∙ h in cc)), more)
      by false e more = ((λ h. absurd (let z : true ≡ false = sym old_kept ∙ h in cc)), s)

    pub lower_gone : (xs : List T) → IsSplit new xs → AreLower old new xs → gone old (put new kept xs) ≡ put new kept (gone old xs)
    lower_gone [] s l = (λ i. cond-true (old kept) (kept ∷ []) [] old_kept i ++ rest (cond-true (old kept) [] (kept ∷ []) old_kept i))
    lower_gone (x ∷ xs) s l = by (new x) refl (lower_gone xs s.1 l.1) where
      here : new x ≡ false → gone old (kept ∷ x ∷ xs) ≡ put new kept (gone old (x ∷ xs))
      here e =
          let none : NonePass new (gone old (x ∷ xs)) = none_gone (x ∷ xs) (e, s.0 e) in
          (λ i. cond-true (old kept) (kept ∷ front old (x ∷ xs)) [] old_kept i ++ rest (cond-true (old kept) (behind old (x ∷ xs)) (kept ∷ x ∷ xs) old_kept i))
          ∙ sym (λ i. front_no new (gone old (x ∷ xs)) none i ++ kept ∷ behind_no new (gone old (x ∷ xs)) none i)

      there : old x ≡ true → new x ≡ true → gone old (put new kept xs) ≡ put new kept (gone old xs) → gone old (x ∷ put new kept xs) ≡ put new kept (gone old (x ∷ xs))
      there o n more =
          (λ i. cond-true (old x) (x ∷ front old (put new kept xs)) [] o i ++ rest (cond-true (old x) (behind old (put new kept xs)) (x ∷ put new kept xs) o i))
          ∙ ap (λ (l : List T). x ∷ l) more
          ∙ sym (ap (put new kept) (λ i. cond-true (old x) (x ∷ front old xs) [] o i ++ rest (cond-true (old x) (behind old xs) (x ∷ xs) o i))
          ∙ (λ i. cond-true (new x) (x ∷ front new (gone old xs)) [] n i ++ kept ∷ cond-true (new x) (behind new (gone old xs)) (x ∷ gone old xs) n i))

      by : (b : Bool) → new x ≡ b → gone old (put new kept xs) ≡ put new kept (gone old xs)
          → gone old (cond b (x ∷ front new xs) [] ++ kept ∷ cond b (behind new xs) (x ∷ xs)) ≡ put new kept (gone old (x ∷ xs))
      by true e more = there (l.0 e) e more
      by false e more = here e

  module _ (old_kept : old kept ≡ false) where
    none_put : (xs : List T) → NonePass old xs → NonePass old (put new kept xs)
    none_put [] n = (old_kept, tt)
    none_put (x ∷ xs) n = by (new x) (none_put xs n.1) where
      by : (b : Bool) → NonePass old (put new kept xs) → NonePass old (cond b (x ∷ front new xs) [] ++ kept ∷ cond b (behind new xs) (x ∷ xs))
      by true more = (n.0, more)
      by false more = (old_kept, n)

    none_split : (xs : List T) → NonePass old xs → IsSplit old xs
    none_split [] n = tt
    none_split (x ∷ xs) n = ((λ h. n.1), none_split xs n.1)

    put_first : (x : T) (xs : List T) → new x ≡ true → put new kept (x ∷ xs) ≡ x ∷ put new kept xs
    put_first x xs e = λ i. cond-true (new x) (x ∷ front new xs) [] e i ++ kept ∷ cond-true (new x) (behind new xs) (x ∷ xs) e i

    pub higher_split : (xs : List T) → IsSplit old xs → IsHigher old new xs → IsSplit old (put new kept xs)
    higher_split [] s h = absurd h
    higher_split (x ∷ xs) s h = subst (λ (l : List T). IsSplit old l) (sym (put_first x xs h.0)) (by (old x) refl (higher_split xs s.1)) where
      by : (b : Bool) → old x ≡ b → (IsHigher old new xs → IsSplit old (put new kept xs)) → IsSplit old (x ∷ put new kept xs)
      by true e more = ((λ k. absurd (let z : true ≡ false = sym e ∙ k in cc)), more (h.1 e))
      by false e more = let none : NonePass old (put new kept xs) = none_put xs (s.0 e) in ((λ k. none), none_split (put new kept xs) none)

    pub higher_gone : (xs : List T) → IsHigher old new xs → gone old (put new kept xs) ≡ put new kept (gone old xs)
    higher_gone [] h = absurd h
    higher_gone (x ∷ xs) h = ap (gone old) (put_first x xs h.0) ∙ by (old x) refl (higher_gone xs) where
      by : (b : Bool) → old x ≡ b → (IsHigher old new xs → gone old (put new kept xs) ≡ put new kept (gone old xs))
          → cond b (x ∷ front old (put new kept xs)) [] ++ rest (cond b (behind old (put new kept xs)) (x ∷ put new kept xs)) ≡ put new kept (cond b (x ∷ front old xs) [] ++ rest (cond b (behind old xs) (x ∷ xs)))
      by true e more = ap (λ (l : List T). x ∷ l) (more (h.1 e)) ∙ sym (put_first x (gone old xs) h.0)
      by false e more = refl
