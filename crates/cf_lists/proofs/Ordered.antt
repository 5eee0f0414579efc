-- Lists that are sorted by a total order, and what goes in and out of them.
use Rattle.std.proofs.Common.{◌≡◌, ℕ, zero, suc, ◌<◌, arith, get_or, length, Bool, true, false, not, cond, List, [], ◌∷◌, ◌++◌, refl, sym, ap, ◌∙◌, Option, Some, None}
use Rattle.std.specs.Prelude.{filter, find}
use Rattle.std.specs.Cmp.{IsTotalOrder}
use Rattle.std.specs.Ordering.{is_lt, ordering_reverse}
use Rattle.std.specs.declared.cmp.Ordering.{Ordering}
use Rattle.std.specs.declared.cmp.Ordering.TheVariants.{Less, Equal, Greater}
use Rattle.std.proofs.lemmas.Bool.{cond-true, cond-false}
use Rattle.cf_model.specs.Words.{put_in, sorted}
use Rattle.cf_lists.specs.Ordered.{AllAfter, InOrder}

flip_lt : (a b : Ordering) → a ≡ ordering_reverse b → (b ≡ Equal → ⊥) → is_lt a ≡ not (is_lt b)
flip_lt a Less e h = ap is_lt e
flip_lt a Equal e h = absurd (h refl)
flip_lt a Greater e h = ap is_lt e

lt_back : (a b : Ordering) → a ≡ ordering_reverse b → is_lt b ≡ true → is_lt a ≡ false
lt_back a Less e h = ap is_lt e
lt_back a Equal e h = ap is_lt e
lt_back a Greater e h = let z : false ≡ true = h in cc

lt_is : (a : Ordering) → is_lt a ≡ true → a ≡ Less
lt_is Less h = refl
lt_is Equal h = let z : false ≡ true = h in cc
lt_is Greater h = let z : false ≡ true = h in cc

-- the first that passes
abbrev pub first : {A : Type 0} → List A → Option A
first [] = None
first (x ∷ xs) = Some x

pub find_first : {A : Type 0} (f : A → Bool) (xs : List A) → find f xs ≡ first (filter f xs)
find_first f [] = refl
find_first f (x ∷ xs) = by (find_first f xs) (f x) where
  by : find f xs ≡ first (filter f xs) → (b : Bool) → cond b (Some x) (find f xs) ≡ first (cond b (x ∷ filter f xs) (filter f xs))
  by rest true = refl
  by rest false = rest

module _ {A : Type 0} (R : A → A → Ordering) (o : IsTotalOrder R) where
  abbrev pub before : A → A → Bool
  before x y = is_lt (R x y)

  pub after_is_not_before : (x y : A) → before x y ≡ true → before y x ≡ false
  after_is_not_before x y h = lt_back (R y x) (R x y) (o.antisymm y x) h

  pub other_way : (x y : A) → (R x y ≡ Equal → ⊥) → before y x ≡ not (before x y)
  other_way x y h = flip_lt (R y x) (R x y) (o.antisymm y x) h

  pub goes_on : (x y z : A) → before x y ≡ true → before y z ≡ true → before x z ≡ true
  goes_on x y z h k = ap is_lt (o.trans x y z (lt_is (R x y) h) (lt_is (R y z) k))

  -- what is before x, and not before y, shows that y is before x
  pub nearer : (x y z : A) → before z x ≡ true → before z y ≡ false → before y x ≡ true
  nearer x y z h k = by (R z y) refl k where
    by : (c : Ordering) → R z y ≡ c → is_lt c ≡ false → before y x ≡ true
    by Less e f = let w : true ≡ false = f in cc
    by Equal e f = ap is_lt (sym (o.congr z y x e)) ∙ h
    by Greater e f = ap is_lt (o.trans y z x (o.antisymm y z ∙ ap ordering_reverse e) (lt_is (R z x) h))

  -- x is none of them
  abbrev pub Apart : A → List A → Type 0
  Apart x [] = Unit {0}
  Apart x (y ∷ ys) = (R x y ≡ Equal → ⊥) × Apart x ys

  abbrev pub AllApart : List A → Type 0
  AllApart [] = Unit {0}
  AllApart (x ∷ xs) = Apart x xs × AllApart xs

  all_at : (x : A) (l : List A) (j : ℕ) (d : A) → AllAfter before x l → j < length l → before x (get_or l j d) ≡ true
  all_at x [] j d h lt = absurd (omega arith)
  all_at x (y ∷ ys) zero d h lt = h.0
  all_at x (y ∷ ys) (suc j) d h lt = all_at x ys j d h.1 (omega arith)

  pub rise : (l : List A) (i j : ℕ) (d : A) → InOrder before l → i < j → j < length l → before (get_or l i d) (get_or l j d) ≡ true
  rise [] i j d h lt le = absurd (omega arith)
  rise (x ∷ xs) i zero d h lt le = absurd (omega arith)
  rise (x ∷ xs) zero (suc j) d h lt le = all_at x xs j d h.0 (omega arith)
  rise (x ∷ xs) (suc i) (suc j) d h lt le = rise xs i j d h.1 (omega arith) (omega arith)

  -- puts

  pub puts_commute : (x y : A) (l : List A) → (R x y ≡ Equal → ⊥) → put_in before x (put_in before y l) ≡ put_in before y (put_in before x l)
  puts_commute x y [] h = by (before x y) (before y x) (other_way x y h) where
    by : (a b : Bool) → b ≡ not a → cond b (y ∷ x ∷ []) (x ∷ y ∷ []) ≡ cond a (x ∷ y ∷ []) (y ∷ x ∷ [])
    by true b e = cond-false b _ _ e
    by false b e = cond-true b _ _ e
  puts_commute x y (z ∷ zs) h = four (puts_commute x y zs h) (before z x) (before z y) refl refl where
    four : put_in before x (put_in before y zs) ≡ put_in before y (put_in before x zs) → (a b : Bool) → before z x ≡ a → before z y ≡ b →
        put_in before x (cond b (z ∷ put_in before y zs) (y ∷ z ∷ zs)) ≡ put_in before y (cond a (z ∷ put_in before x zs) (x ∷ z ∷ zs))
    four rest true true e f = cond-true (before z x) _ _ e ∙ ap (λ v. z ∷ v) rest ∙ sym (cond-true (before z y) _ _ f)
    four rest true false e f =
        cond-true (before y x) _ _ (nearer x y z e f) ∙ ap (λ v. y ∷ v) (cond-true (before z x) _ _ e) ∙ sym (cond-false (before z y) _ _ f)
    four rest false true e f =
        cond-false (before z x) _ _ e ∙ sym (cond-true (before x y) _ _ (nearer y x z f e) ∙ ap (λ v. x ∷ v) (cond-true (before z y) _ _ f))
    four rest false false e f = both (before x y) (before y x) (other_way x y h) where
      both : (a b : Bool) → b ≡ not a → cond b (y ∷ put_in before x (z ∷ zs)) (x ∷ y ∷ z ∷ zs) ≡ cond a (x ∷ put_in before y (z ∷ zs)) (y ∷ x ∷ z ∷ zs)
      both true b g = cond-false b _ _ g ∙ ap (λ v. x ∷ v) (sym (cond-false (before z y) _ _ f))
      both false b g = cond-true b _ _ g ∙ ap (λ v. y ∷ v) (cond-false (before z x) _ _ e)

  pub put_front : (x : A) (l : List A) → AllAfter before x l → put_in before x l ≡ x ∷ l
  put_front x [] h = refl
  put_front x (y ∷ ys) h = cond-false (before y x) _ _ (after_is_not_before x y h.0)

  all_put : (z x : A) (l : List A) → before z x ≡ true → AllAfter before z l → AllAfter before z (put_in before x l)
  all_put z x [] h k = (h, tt)
  all_put z x (y ∷ ys) h k = by (all_put z x ys h k.1) (before y x) where
    by : AllAfter before z (put_in before x ys) → (b : Bool) → AllAfter before z (cond b (y ∷ put_in before x ys) (x ∷ y ∷ ys))
    by rest true = (k.0, rest)
    by rest false = (h, k)

  pub all_goes_on : (x y : A) (l : List A) → before x y ≡ true → AllAfter before y l → AllAfter before x l
  all_goes_on x y [] h k = tt
  all_goes_on x y (z ∷ zs) h k = (goes_on x y z h k.0, all_goes_on x y zs h k.1)

  in_order_put : (x : A) (l : List A) → Apart x l → InOrder before l → InOrder before (put_in before x l)
  in_order_put x [] a h = (tt, tt)
  in_order_put x (y ∷ ys) a h = by (in_order_put x ys a.1 h.1) (before y x) refl where
    by : InOrder before (put_in before x ys) → (b : Bool) → before y x ≡ b → InOrder before (cond b (y ∷ put_in before x ys) (x ∷ y ∷ ys))
    by rest true e = (all_put y x ys e h.0, rest)
    by rest false e = let first : before x y ≡ true = not_false (before x y) (before y x) (other_way x y a.0) e in ((first, all_goes_on x y ys first h.0), h) where
      not_false : (a b : Bool) → b ≡ not a → b ≡ false → a ≡ true
      not_false true b f g = refl
      not_false false b f g = let w : true ≡ false = sym f ∙ g in cc

  apart_put : (x y : A) (l : List A) → (R x y ≡ Equal → ⊥) → Apart x l → Apart x (put_in before y l)
  apart_put x y [] h a = (h, tt)
  apart_put x y (z ∷ zs) h a = by (apart_put x y zs h a.1) (before z y) where
    by : Apart x (put_in before y zs) → (b : Bool) → Apart x (cond b (z ∷ put_in before y zs) (y ∷ z ∷ zs))
    by rest true = (a.0, rest)
    by rest false = (h, a)

  apart_sorted : (x : A) (l : List A) → Apart x l → Apart x (sorted before l)
  apart_sorted x [] a = tt
  apart_sorted x (y ∷ ys) a = apart_put x y (sorted before ys) a.0 (apart_sorted x ys a.1)

  pub sorted_in_order : (l : List A) → AllApart l → InOrder before (sorted before l)
  sorted_in_order [] a = tt
  sorted_in_order (x ∷ xs) a = in_order_put x (sorted before xs) (apart_sorted x xs a.0) (sorted_in_order xs a.1)

  pub sorted_already : (l : List A) → InOrder before l → sorted before l ≡ l
  sorted_already [] h = refl
  sorted_already (x ∷ xs) h = ap (put_in before x) (sorted_already xs h.1) ∙ put_front x xs h.0

  pub sorted_push : (x : A) (l : List A) → Apart x l → sorted before (l ++ x ∷ []) ≡ put_in before x (sorted before l)
  sorted_push x [] a = refl
  sorted_push x (y ∷ ys) a = ap (put_in before y) (sorted_push x ys a.1) ∙ sym (puts_commute x y (sorted before ys) a.0)

  -- filters

  filter_skips : (f : A → Bool) (x : A) (l : List A) → f x ≡ false → filter f (put_in before x l) ≡ filter f l
  filter_skips f x [] h = cond-false (f x) _ _ h
  filter_skips f x (y ∷ ys) h = by (filter_skips f x ys h) (before y x) where
    by : filter f (put_in before x ys) ≡ filter f ys → (b : Bool) → filter f (cond b (y ∷ put_in before x ys) (x ∷ y ∷ ys)) ≡ filter f (y ∷ ys)
    by rest true = ap (λ v. cond (f y) (y ∷ v) v) rest
    by rest false = cond-false (f x) _ _ h

  later : (x y z : A) → before y x ≡ false → before y z ≡ true → before z x ≡ false
  later x y z g j = after_is_not_before x z (nearer z x y j g)

  none_before : (x y : A) (l : List A) → before y x ≡ false → AllAfter before y l → (f : A → Bool) → put_in before x (filter f l) ≡ x ∷ filter f l
  none_before x y [] h k f = refl
  none_before x y (z ∷ zs) h k f = by (none_before x y zs h k.1 f) (f z) where
    by : put_in before x (filter f zs) ≡ x ∷ filter f zs → (b : Bool) → put_in before x (cond b (z ∷ filter f zs) (filter f zs)) ≡ x ∷ cond b (z ∷ filter f zs) (filter f zs)
    by rest true = cond-false (before z x) _ _ (later x y z h k.0)
    by rest false = rest

  filter_put : (f : A → Bool) (x : A) (l : List A) → InOrder before l → f x ≡ true → filter f (put_in before x l) ≡ put_in before x (filter f l)
  filter_put f x [] h e = cond-true (f x) _ _ e
  filter_put f x (y ∷ ys) h e = by (filter_put f x ys h.1 e) (before y x) refl where
    by : filter f (put_in before x ys) ≡ put_in before x (filter f ys) → (b : Bool) → before y x ≡ b →
        filter f (cond b (y ∷ put_in before x ys) (x ∷ y ∷ ys)) ≡ put_in before x (cond (f y) (y ∷ filter f ys) (filter f ys))
    by rest true g = two (f y) where
      two : (d : Bool) → cond d (y ∷ filter f (put_in before x ys)) (filter f (put_in before x ys)) ≡ put_in before x (cond d (y ∷ filter f ys) (filter f ys))
      two true = ap (λ v. y ∷ v) rest ∙ sym (cond-true (before y x) _ _ g)
      two false = rest
    by rest false g = cond-true (f x) _ _ e ∙ two (f y) where
      two : (d : Bool) → x ∷ cond d (y ∷ filter f ys) (filter f ys) ≡ put_in before x (cond d (y ∷ filter f ys) (filter f ys))
      two true = sym (cond-false (before y x) _ _ g)
      two false = sym (none_before x y ys g h.0 f)

  pub filter_sorted : (f : A → Bool) (l : List A) → AllApart l → filter f (sorted before l) ≡ sorted before (filter f l)
  filter_sorted f [] a = refl
  filter_sorted f (x ∷ xs) a = by (filter_sorted f xs a.1) (f x) refl where
    by : filter f (sorted before xs) ≡ sorted before (filter f xs) → (b : Bool) → f x ≡ b → filter f (put_in before x (sorted before xs)) ≡ sorted before (cond b (x ∷ filter f xs) (filter f xs))
    by rest true e = filter_put f x (sorted before xs) (sorted_in_order xs a.1) e ∙ ap (put_in before x) rest
    by rest false e = filter_skips f x (sorted before xs) e ∙ rest
