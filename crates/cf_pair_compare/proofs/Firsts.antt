-- The first path at which two lists in order of path differ.
use Rattle.std.proofs.Common.{◌≡◌, inl, inr, ℕ, ◌&&◌, Bool, true, false, cond, List, [], ◌∷◌, refl, sym, ap, ◌∙◌, subst, eqb, eqb-true, eq-eqb}
use Rattle.std.specs.Prelude.{Option, Some, None, bytes_eq}
use Rattle.std.proofs.lemmas.Cmp.{nat_list_cmp_total}
use Rattle.std.proofs.lemmas.Map.Text.{is_eq-slice_cmp}
use Rattle.std.specs.Cmp.Lexicographic.{slice_cmp}
use Rattle.std.specs.List.{AllByRecursion}
use Rattle.std.specs.Ordering.{is_eq, nat_cmp, ordering_reverse}
use Rattle.std.specs.declared.cmp.Ordering.{Ordering}
use Rattle.std.specs.declared.cmp.Ordering.TheVariants.{Less, Equal, Greater}
use Rattle.cf_pair_compare.specs.First.{Agree, AgreeAt, AreAlike, Comes, IsEarlier, IsFirst, Rises, row_at}
use Rattle.cf_pair_compare.specs.declared.path_rows.PathRow.{PathRow}

-- texts

turned : (p q : List ℕ) → slice_cmp nat_cmp p q ≡ ordering_reverse (slice_cmp nat_cmp q p)
turned p q = nat_list_cmp_total.antisymm p q

other_after : (p q : List ℕ) → Comes q p → bytes_eq p q ≡ false
other_after p q h = sym (is_eq-slice_cmp p q) ∙ ap is_eq (turned p q ∙ ap ordering_reverse h)

itself : (p : List ℕ) → bytes_eq p p ≡ true
itself [] = refl
itself (x ∷ xs) = rw (eq-eqb x x refl) (itself xs)

pub equal_text : (p q : List ℕ) → bytes_eq p q ≡ true → p ≡ q
equal_text [] [] h = refl
equal_text [] (y ∷ ys) h = let bad : false ≡ true = h in cc
equal_text (x ∷ xs) [] h = let bad : false ≡ true = h in cc
equal_text (x ∷ xs) (y ∷ ys) h = one (eqb x y) refl (bytes_eq xs ys) (equal_text xs ys) h where
  one : (b : Bool) → eqb x y ≡ b → (c : Bool) → (c ≡ true → xs ≡ ys) → (b && c) ≡ true → x ∷ xs ≡ y ∷ ys
  one true e true f k = λ i. eqb-true x y e i ∷ f refl i
  one true e false f k = let bad : false ≡ true = k in cc
  one false e c f k = let bad : false ≡ true = k in cc

-- look-ups

past : (rs : List PathRow) (q : List ℕ) → AllByRecursion (λ (s : PathRow). Comes q s.path) rs → row_at rs q ≡ None
past [] q h = refl
past (r ∷ rs) q h = ap (λ (b : Bool). cond b (Some r) (row_at rs q)) (other_after r.path q h.0) ∙ past rs q h.1

later : (q p : List ℕ) (rs : List PathRow) → Comes q p → AllByRecursion (λ (s : PathRow). Comes p s.path) rs → AllByRecursion (λ (s : PathRow). Comes q s.path) rs
later q p [] c h = h
later q p (r ∷ rs) c h = (nat_list_cmp_total.trans q p r.path c h.0, later q p rs c h.1)

here : (r : PathRow) (rs : List PathRow) → row_at (r ∷ rs) r.path ≡ Some r
here r rs = ap (λ (b : Bool). cond b (Some r) (row_at rs r.path)) (itself r.path)

before_all : (r : PathRow) (rs : List PathRow) (q : List ℕ) → Rises (r ∷ rs) → Comes q r.path → row_at (r ∷ rs) q ≡ None
before_all r rs q h c = past (r ∷ rs) q (c, later q r.path rs c h.0)

nowhere : (x y : Option PathRow) → x ≡ None → y ≡ None → Agree x y
nowhere None None e f = tt
nowhere None (Some b) e f = let bad : Some b ≡ None = f in cc
nowhere (Some a) y e f = let bad : Some a ≡ None = e in cc

only_here : (x y : Option PathRow) (a : PathRow) → x ≡ Some a → y ≡ None → Agree x y → ⊥
only_here x y a e f h = subst (λ (o : Option PathRow). Agree (Some a) o) f (subst (λ (o : Option PathRow). Agree o y) e h)

only_there : (x y : Option PathRow) (b : PathRow) → x ≡ None → y ≡ Some b → Agree x y → ⊥
only_there x y b e f h = subst (λ (o : Option PathRow). Agree None o) f (subst (λ (o : Option PathRow). Agree o y) e h)

-- rows that are alike are passed over

module _ (a b : PathRow) (as' bs : List PathRow) (alike : AreAlike a b) where
  goes_on : (q : List ℕ) → AgreeAt as' bs q → AgreeAt (a ∷ as') (b ∷ bs) q
  goes_on q h = one (bytes_eq a.path q) (bytes_eq b.path q) (ap (λ (p : List ℕ). bytes_eq p q) alike.0) where
    one : (s t : Bool) → s ≡ t → Agree (cond s (Some a) (row_at as' q)) (cond t (Some b) (row_at bs q))
    one true true e = alike.1
    one false false e = h
    one true false e = absurd cc
    one false true e = absurd cc

  goes_back : Rises (a ∷ as') → Rises (b ∷ bs) → (q : List ℕ) → AgreeAt (a ∷ as') (b ∷ bs) q → AgreeAt as' bs q
  goes_back ra rb q h = one (bytes_eq a.path q) refl (bytes_eq b.path q) (ap (λ (p : List ℕ). bytes_eq p q) alike.0) h where
    one : (s : Bool) → bytes_eq a.path q ≡ s → (t : Bool) → s ≡ t → Agree (cond s (Some a) (row_at as' q)) (cond t (Some b) (row_at bs q)) → AgreeAt as' bs q
    one true is t e k =
        let at : a.path ≡ q = equal_text a.path q is in
        nowhere (row_at as' q) (row_at bs q)
        (past as' q (subst (λ (p : List ℕ). AllByRecursion (λ (s : PathRow). Comes p s.path) as') at ra.0))
        (past bs q (subst (λ (p : List ℕ). AllByRecursion (λ (s : PathRow). Comes p s.path) bs) (sym alike.0 ∙ at) rb.0))
    one false is false e k = k
    one false is true e k = absurd cc

  pub passed_over : Rises (a ∷ as') → Rises (b ∷ bs) → (told : Option (List ℕ)) → IsFirst as' bs told → IsFirst (a ∷ as') (b ∷ bs) told
  passed_over ra rb None h = λ q. goes_on q (h q)
  passed_over ra rb (Some p) h = (λ k. h.0 (goes_back ra rb p k), λ q c. goes_on q (h.1 q c))

-- rows that differ are the first

module _ (a b : PathRow) (as' bs : List PathRow) (ra : Rises (a ∷ as')) (rb : Rises (b ∷ bs)) where
  ours_first : Comes a.path b.path → IsFirst (a ∷ as') (b ∷ bs) (Some a.path)
  ours_first c = (
    only_here (row_at (a ∷ as') a.path) (row_at (b ∷ bs) a.path) a (here a as') (before_all b bs a.path rb c),
    λ q d. nowhere (row_at (a ∷ as') q) (row_at (b ∷ bs) q) (before_all a as' q ra d) (before_all b bs q rb (nat_list_cmp_total.trans q a.path b.path d c)),
  )

  theirs_first : Comes b.path a.path → IsFirst (a ∷ as') (b ∷ bs) (Some b.path)
  theirs_first c = (
    only_there (row_at (a ∷ as') b.path) (row_at (b ∷ bs) b.path) b (before_all a as' b.path ra c) (here b bs),
    λ q d. nowhere (row_at (a ∷ as') q) (row_at (b ∷ bs) q) (before_all a as' q ra (nat_list_cmp_total.trans q b.path a.path d c)) (before_all b bs q rb d),
  )

  at_one : (AreAlike a b → ⊥) → a.path ≡ b.path → IsFirst (a ∷ as') (b ∷ bs) (Some a.path)
  at_one unlike e = (
    λ h. unlike (
      e,
      subst (λ (o : Option PathRow). Agree (Some a) o) (subst (λ (p : List ℕ). row_at (b ∷ bs) p ≡ Some b) (sym e) (here b bs))
          (subst (λ (o : Option PathRow). Agree o (row_at (b ∷ bs) a.path)) (here a as') h),
    ),
    λ q d. nowhere (row_at (a ∷ as') q) (row_at (b ∷ bs) q) (before_all a as' q ra d) (before_all b bs q rb (subst (λ (p : List ℕ). Comes q p) e d)),
  )

  pub differing : (AreAlike a b → ⊥) → (r : PathRow) → IsEarlier a b r → IsFirst (a ∷ as') (b ∷ bs) (Some r.path)
  differing unlike r (inl h) = subst (λ (x : PathRow). IsFirst (a ∷ as') (b ∷ bs) (Some x.path)) (sym h.0) (theirs_first h.1)
  differing unlike r (inr h) = subst (λ (x : PathRow). IsFirst (a ∷ as') (b ∷ bs) (Some x.path)) (sym h.0) (one (slice_cmp nat_cmp a.path b.path) refl) where
    one : (o : Ordering) → slice_cmp nat_cmp a.path b.path ≡ o → IsFirst (a ∷ as') (b ∷ bs) (Some a.path)
    one Less e = ours_first e
    one Equal e = at_one unlike (equal_text a.path b.path (sym (is_eq-slice_cmp a.path b.path) ∙ ap is_eq e))
    one Greater e = absurd (h.1 (turned b.path a.path ∙ ap ordering_reverse e))

-- the rest of a list

pub ours_left : (a : PathRow) (as' : List PathRow) → Rises (a ∷ as') → IsFirst (a ∷ as') [] (Some a.path)
ours_left a as' ra = (
  only_here (row_at (a ∷ as') a.path) None a (here a as') refl,
  λ q d. nowhere (row_at (a ∷ as') q) None (before_all a as' q ra d) refl,
)

pub theirs_left : (b : PathRow) (bs : List PathRow) → Rises (b ∷ bs) → IsFirst [] (b ∷ bs) (Some b.path)
theirs_left b bs rb = (
  only_there None (row_at (b ∷ bs) b.path) b refl (here b bs),
  λ q d. nowhere None (row_at (b ∷ bs) q) refl (before_all b bs q rb d),
)

pub none_left : IsFirst [] [] None
none_left = λ q. tt
