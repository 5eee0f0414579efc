-- What comes before a place in a list of chunks, and what stands behind it.
use Rattle.std.proofs.Common.{◌≡◌, ℕ, zero, suc, ◌<◌, ◌≤◌, Bool, true, false, cond, List, [], ◌∷◌, ◌++◌, length, length-drop, get_or, set, drop, take, append_assoc, append-nil, refl, sym, ap, ◌∙◌, ◌+◌, ◌-◌, arith, inl, inr}
use Rattle.std.proofs.lemmas.Bool.{cases_lt, cond-true, cond-false}
use Rattle.cf_collections.specs.Split.{AreFilled, IsSplit, NonePass, behind, flat, front, last_passes, rest}

module _ {T : Type 0} (p : T → Bool) where
  -- all pass
  abbrev pub AllPass : List T → Type 0
  AllPass [] = Unit {0}
  AllPass (x ∷ xs) = (p x ≡ true) × AllPass xs

  none_left : (c r : List T) → NonePass p (c ++ r) → NonePass p c
  none_left [] r n = tt
  none_left (x ∷ xs) r n = (n.0, none_left xs r n.1)

  none_right : (c r : List T) → NonePass p (c ++ r) → NonePass p r
  none_right [] r n = n
  none_right (x ∷ xs) r n = none_right xs r n.1

  pub split_left : (c r : List T) → IsSplit p (c ++ r) → IsSplit p c
  split_left [] r s = tt
  split_left (x ∷ xs) r s = ((λ h. none_left xs r (s.0 h)), split_left xs r s.1)

  split_right : (c r : List T) → IsSplit p (c ++ r) → IsSplit p r
  split_right [] r s = s
  split_right (x ∷ xs) r s = split_right xs r s.1

  none_last : (c : List T) → 0 < length c → NonePass p c → last_passes p c ≡ false
  none_last [] f n = absurd (omega arith)
  none_last (x ∷ []) f n = n.0
  none_last (x ∷ y ∷ ys) f n = none_last (y ∷ ys) (omega arith) n.1

  none_after : (c r : List T) → 0 < length c → IsSplit p (c ++ r) → last_passes p c ≡ false → NonePass p r
  none_after [] r f s h = absurd (omega arith)
  none_after (x ∷ []) r f s h = s.0 h
  none_after (x ∷ y ∷ ys) r f s h = none_after (y ∷ ys) r (omega arith) s.1 h

  all_pass : (c r : List T) → IsSplit p (c ++ r) → last_passes p c ≡ true → AllPass c
  all_pass [] r s h = tt
  all_pass (x ∷ []) r s h = (h, tt)
  all_pass (x ∷ y ∷ ys) r s h = (by (p x) refl, all_pass (y ∷ ys) r s.1 h) where
    by : (b : Bool) → p x ≡ b → p x ≡ true
    by true e = e
    by false e = let z : false ≡ true = sym (none_last (y ∷ ys) (omega arith) (none_left (y ∷ ys) r (s.0 e))) ∙ h in cc

  -- the front and what is behind it, of two lists

  front_all : (c r : List T) → AllPass c → front p (c ++ r) ≡ c ++ front p r
  front_all [] r a = refl
  front_all (x ∷ xs) r a = cond-true (p x) _ _ a.0 ∙ ap (λ (l : List T). x ∷ l) (front_all xs r a.1)

  behind_all : (c r : List T) → AllPass c → behind p (c ++ r) ≡ behind p r
  behind_all [] r a = refl
  behind_all (x ∷ xs) r a = cond-true (p x) _ _ a.0 ∙ behind_all xs r a.1

  front_no : (r : List T) → NonePass p r → front p r ≡ []
  front_no [] n = refl
  front_no (x ∷ xs) n = cond-false (p x) _ _ n.0

  behind_no : (r : List T) → NonePass p r → behind p r ≡ r
  behind_no [] n = refl
  behind_no (x ∷ xs) n = cond-false (p x) _ _ n.0

  front_none : (c r : List T) → NonePass p r → front p (c ++ r) ≡ front p c
  front_none [] r n = front_no r n
  front_none (x ∷ xs) r n = by (front_none xs r n) (p x) where
    by : front p (xs ++ r) ≡ front p xs → (b : Bool) → cond b (x ∷ front p (xs ++ r)) [] ≡ cond b (x ∷ front p xs) []
    by more true = ap (λ (l : List T). x ∷ l) more
    by more false = refl

  behind_none : (c r : List T) → NonePass p r → behind p (c ++ r) ≡ behind p c ++ r
  behind_none [] r n = behind_no r n
  behind_none (x ∷ xs) r n = by (behind_none xs r n) (p x) where
    by : behind p (xs ++ r) ≡ behind p xs ++ r → (b : Bool) → cond b (behind p (xs ++ r)) (x ∷ (xs ++ r)) ≡ cond b (behind p xs) (x ∷ xs) ++ r
    by more true = more
    by more false = refl

  pub all_front : (l : List T) → AllPass l → front p l ≡ l
  all_front [] a = refl
  all_front (x ∷ xs) a = cond-true (p x) _ _ a.0 ∙ ap (λ (l : List T). x ∷ l) (all_front xs a.1)

  pub all_behind : (l : List T) → AllPass l → behind p l ≡ []
  all_behind [] a = refl
  all_behind (x ∷ xs) a = cond-true (p x) _ _ a.0 ∙ all_behind xs a.1

  -- chunks

  none_chunks : (cs : List (List T)) → AreFilled cs → NonePass p (flat cs) → NonePass (last_passes p) cs
  none_chunks [] f n = tt
  none_chunks (c ∷ cs) f n = (none_last c f.0 (none_left c (flat cs) n), none_chunks cs f.1 (none_right c (flat cs) n))

  pub chunks_split : (cs : List (List T)) → AreFilled cs → IsSplit p (flat cs) → IsSplit (last_passes p) cs
  chunks_split [] f s = tt
  chunks_split (c ∷ cs) f s = ((λ h. none_chunks cs f.1 (none_after c (flat cs) f.0 s h)), chunks_split cs f.1 (split_right c (flat cs) s))

  pub split_at : (cs : List (List T)) (n : ℕ) (d : List T) → n < length cs → IsSplit p (flat cs) → IsSplit p (get_or cs n d)
  split_at [] n d lt s = absurd (omega arith)
  split_at (c ∷ cs) zero d lt s = split_left c (flat cs) s
  split_at (c ∷ cs) (suc n) d lt s = split_at cs n d (omega arith) (split_right c (flat cs) s)

  all_append : (a b : List T) → AllPass a → AllPass b → AllPass (a ++ b)
  all_append [] b h k = k
  all_append (x ∷ xs) b h k = (h.0, all_append xs b h.1 k)

  -- all chunks come before the place
  pub all_before : (cs : List (List T)) → IsSplit p (flat cs) → length cs ≡ length (front (last_passes p) cs) → AllPass (flat cs)
  all_before [] s e = tt
  all_before (c ∷ cs) s e = by (all_before cs (split_right c (flat cs) s)) (last_passes p c) refl e where
    by : (length cs ≡ length (front (last_passes p) cs) → AllPass (flat cs)) → (b : Bool) → last_passes p c ≡ b → suc (length cs) ≡ length (cond b (c ∷ front (last_passes p) cs) []) → AllPass (c ++ flat cs)
    by more true h e = all_append c (flat cs) (all_pass c (flat cs) s h) (more (omega arith))
    by more false h e = absurd (omega arith)

  -- what is behind the place: the rest of a chunk, and the chunks after it
  pub behind_chunk : (cs : List (List T)) (n : ℕ) (d : List T) → AreFilled cs → IsSplit p (flat cs) → n ≡ length (front (last_passes p) cs) → n < length cs
      → behind p (flat cs) ≡ behind p (get_or cs n d) ++ flat (drop (suc n) cs)
  behind_chunk [] n d f s e lt = absurd (omega arith)
  behind_chunk (c ∷ cs) n d f s e lt = by (λ m. behind_chunk cs m d f.1 (split_right c (flat cs) s)) n (last_passes p c) refl e lt where
    by : ((m : ℕ) → m ≡ length (front (last_passes p) cs) → m < length cs → behind p (flat cs) ≡ behind p (get_or cs m d) ++ flat (drop (suc m) cs))
        → (n : ℕ) (b : Bool) → last_passes p c ≡ b → n ≡ length (cond b (c ∷ front (last_passes p) cs) []) → n < suc (length cs)
        → behind p (c ++ flat cs) ≡ behind p (get_or (c ∷ cs) n d) ++ flat (drop n cs)
    by more zero true h e lt = absurd (omega arith)
    by more (suc m) true h e lt = behind_all c (flat cs) (all_pass c (flat cs) s h) ∙ more m (omega arith) (omega arith)
    by more zero false h e lt = behind_none c (flat cs) (none_after c (flat cs) f.0 s h)
    by more (suc m) false h e lt = absurd (omega arith)

  -- where an item is behind the place, a chunk is
  pub chunk_there : (cs : List (List T)) (n : ℕ) → IsSplit p (flat cs) → n ≡ length (front (last_passes p) cs) → n ≤ length cs → 0 < length (behind p (flat cs)) → n < length cs
  chunk_there cs n s at le some = elim (cases_lt n (length cs)) [
    | inl less ↦ less
    | inr more ↦
        let none : behind p (flat cs) ≡ [] = all_behind (flat cs) (all_before cs s (omega (arith, at, le, more))) in
        absurd (omega (arith, some, ap (λ (l : List T). length l) none))
  ]

  -- and the first one is that of the chunk
  pub first_there : (cs : List (List T)) (n : ℕ) (d : List T) (x : T) → AreFilled cs → IsSplit p (flat cs) → n ≡ length (front (last_passes p) cs) → n < length cs
      → behind p (get_or cs n d) ≡ x ∷ rest (behind p (get_or cs n d)) → behind p (flat cs) ≡ x ∷ rest (behind p (flat cs))
  first_there cs n d x f s at lt is =
      let all : behind p (flat cs) ≡ x ∷ (rest (behind p (get_or cs n d)) ++ flat (drop (suc n) cs)) = behind_chunk cs n d f s at lt ∙ ap (λ (l : List T). l ++ flat (drop (suc n) cs)) is in
      all ∙ ap (λ (l : List T). x ∷ rest l) (sym all)

  -- a chunk that does not come before the place has an item behind it
  moved_left : (R : List T → List T) → ((y : T) (b r : List T) → R ((y ∷ b) ++ r) ≡ R (y ∷ b) ++ r) → (b r : List T) → 0 < length b → R (b ++ r) ≡ R b ++ r
  moved_left R local [] r f = absurd (omega arith)
  moved_left R local (y ∷ b) r f = local y b r

  some_behind : (c : List T) → last_passes p c ≡ false → 0 < length (behind p c)
  some_behind [] h = let z : true ≡ false = h in cc
  some_behind (x ∷ []) h = let z : length (cond (p x) [] (x ∷ [])) ≡ 1 = ap (λ (l : List T). length l) (cond-false (p x) [] (x ∷ []) h) in omega (arith, z)
  some_behind (x ∷ y ∷ ys) h = by (some_behind (y ∷ ys) h) (p x) where
    by : 0 < length (behind p (y ∷ ys)) → (b : Bool) → 0 < length (cond b (behind p (y ∷ ys)) (x ∷ y ∷ ys))
    by more true = more
    by more false = omega arith

  -- The chunk that the place is in changes at the place: R is what becomes of the items behind.
  pub changed : (R : List T → List T) → ((y : T) (b r : List T) → R ((y ∷ b) ++ r) ≡ R (y ∷ b) ++ r) → (cs : List (List T)) (n : ℕ) (c' d : List T) → AreFilled cs → IsSplit p (flat cs)
      → n ≡ length (front (last_passes p) cs) → n < length cs → c' ≡ front p (get_or cs n d) ++ R (behind p (get_or cs n d)) → flat (set cs n c') ≡ front p (flat cs) ++ R (behind p (flat cs))
  changed R local [] n c' d f s e lt is = absurd (omega arith)
  changed R local (c ∷ cs) n c' d f s e lt is = by (λ m. changed R local cs m c' d f.1 (split_right c (flat cs) s)) n (last_passes p c) refl e lt is where
    by : ((m : ℕ) → m ≡ length (front (last_passes p) cs) → m < length cs → c' ≡ front p (get_or cs m d) ++ R (behind p (get_or cs m d)) → flat (set cs m c') ≡ front p (flat cs) ++ R (behind p (flat cs)))
        → (n : ℕ) (b : Bool) → last_passes p c ≡ b → n ≡ length (cond b (c ∷ front (last_passes p) cs) []) → n < suc (length cs)
        → c' ≡ front p (get_or (c ∷ cs) n d) ++ R (behind p (get_or (c ∷ cs) n d)) → flat (set (c ∷ cs) n c') ≡ front p (c ++ flat cs) ++ R (behind p (c ++ flat cs))
    by more zero true h e lt is = absurd (omega arith)
    by more (suc m) true h e lt is =
        let a : AllPass c = all_pass c (flat cs) s h in
        ap (λ (l : List T). c ++ l) (more m (omega arith) (omega arith) is)
        ∙ sym (append_assoc c (front p (flat cs)) (R (behind p (flat cs))))
        ∙ ap (λ (l : List T). l ++ R (behind p (flat cs))) (sym (front_all c (flat cs) a))
        ∙ ap (λ (l : List T). front p (c ++ flat cs) ++ R l) (sym (behind_all c (flat cs) a))
    by more zero false h e lt is =
        let n : NonePass p (flat cs) = none_after c (flat cs) f.0 s h in
        ap (λ (l : List T). l ++ flat cs) is
        ∙ append_assoc (front p c) (R (behind p c)) (flat cs)
        ∙ ap (λ (l : List T). front p c ++ l) (sym (moved_left R local (behind p c) (flat cs) (some_behind c h)))
        ∙ ap (λ (l : List T). l ++ R (behind p c ++ flat cs)) (sym (front_none c (flat cs) n))
        ∙ ap (λ (l : List T). front p (c ++ flat cs) ++ R l) (sym (behind_none c (flat cs) n))
    by more (suc m) false h e lt is = absurd (omega arith)

  -- one item alone
  pub one_gone : (c : List T) → length c ≡ 1 → last_passes p c ≡ false → [] ≡ front p c ++ rest (behind p c)
  one_gone [] e h = absurd (omega arith)
  one_gone (x ∷ []) e h = by (p x) h where
    by : (b : Bool) → b ≡ false → [] ≡ cond b (x ∷ []) [] ++ rest (cond b [] (x ∷ []))
    by true h = let z : true ≡ false = h in cc
    by false h = refl
  one_gone (x ∷ y ∷ ys) e h = absurd (omega arith)

  -- an item of several goes
  pub more_stay : (c : List T) → 2 ≤ length c → last_passes p c ≡ false → 0 < length (front p c ++ rest (behind p c))
  more_stay [] two h = absurd (omega arith)
  more_stay (x ∷ []) two h = absurd (omega arith)
  more_stay (x ∷ y ∷ ys) two h = by (p x) where
    by : (b : Bool) → 0 < length (cond b (x ∷ front p (y ∷ ys)) [] ++ rest (cond b (behind p (y ∷ ys)) (x ∷ y ∷ ys)))
    by true = omega arith
    by false = omega arith

  -- at the end of a list that comes before the place as a whole

  pub end_there : (l : List T) (x : T) → AllPass l → l ++ x ∷ [] ≡ front p l ++ x ∷ behind p l
  end_there l x a = ap (λ (m : List T). m ++ x ∷ []) (sym (all_front l a)) ∙ ap (λ (m : List T). front p l ++ x ∷ m) (sym (all_behind l a))

  pub end_stays : (l : List T) → AllPass l → l ≡ front p l ++ rest (behind p l)
  end_stays l a = sym (append-nil l) ∙ ap (λ (m : List T). m ++ []) (sym (all_front l a)) ∙ ap (λ (m : List T). front p l ++ rest m) (sym (all_behind l a))

  -- the items that are left, as code takes them

  whole : {A : Type 0} (xs : List A) (n : ℕ) → n ≡ length xs → take n xs ≡ xs
  whole [] zero e = refl
  whole [] (suc n) e = refl
  whole (x ∷ xs) zero e = absurd (omega arith)
  whole (x ∷ xs) (suc n) e = ap (λ (l : List _). x ∷ l) (whole xs n (omega arith))

  from_on : {A : Type 0} (xs : List A) (n : ℕ) → take (length xs - n) (drop n xs) ≡ drop n xs
  from_on xs n = whole (drop n xs) (length xs - n) (sym (length-drop n xs))

  pub left_there : (cs : List (List T)) (n k : ℕ) (c part left : List T) → AreFilled cs → IsSplit p (flat cs) → n ≡ length (front (last_passes p) cs) → n < length cs → part ≡ c → c ≡ get_or cs n c
      → drop k part ≡ behind p part → left ≡ take (length part - k) (drop k part) ++ flat (take (length cs - (n + 1)) (drop (n + 1) cs)) → left ≡ behind p (flat cs)
  left_there cs n k c part left f s at lt same here cut is =
      is ∙ ap (λ (l : List T). l ++ flat (take (length cs - (n + 1)) (drop (n + 1) cs))) (from_on part k ∙ cut ∙ ap (λ (l : List T). behind p l) (same ∙ here))
      ∙ ap (λ (l : List (List T)). behind p (get_or cs n c) ++ flat l) (from_on cs (n + 1))
      ∙ ap (λ (m : ℕ). behind p (get_or cs n c) ++ flat (drop m cs)) (let m : n + 1 ≡ suc n = omega arith in m)
      ∙ sym (behind_chunk cs n c f s at lt)
