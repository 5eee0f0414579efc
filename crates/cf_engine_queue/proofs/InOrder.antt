-- Lists in order: where a rank divides them, and what stays in order.
use Rattle.std.proofs.Common.{◌≡◌, ℕ, zero, suc, ◌<◌, ◌≤◌, Bool, true, false, not, cond, nat_lt, ◌&&◌, ◌||◌, ◌==◌, List, [], ◌∷◌, ◌++◌, length, take, drop, filter, Option, Some, None, get_or, slice_get, inl, inr, ◌⊎◌, refl, sym, ap, ◌∙◌, subst, arith}
use Rattle.std.proofs.lemmas.Bool.{cases_Bool, eq-eqb, eqb-true, ltb-false, ltb-true}
use Rattle.std.specs.List.{AllByRecursion, AllWithin, insert, remove}
use Rattle.std.specs.List.Sorted.{IsPartitionedBy, IsPartitionPoint}
use Rattle.std.proofs.lemmas.Option.{slice_get_past, slice_get_read}
use Rattle.std.specs.Prelude.{IfSome, find, is_some, option_copied}
use denote.Ref.{Bor}
use Rattle.cf_model.specs.Words.{put_in, says}
use Rattle.cf_engine_queue.specs.Order.{Divides, IsInOrder, is_above, is_same}

-- tests

or_cases : (x y : Bool) → (x || y) ≡ true → (x ≡ true) ⊎ (y ≡ true)
or_cases true y h = inl refl
or_cases false y h = inr h

or_none : (x y : Bool) → (x || y) ≡ false → (x ≡ false) × (y ≡ false)
or_none true y h = absurd cc
or_none false y h = (refl, h)

and_both : (x y : Bool) → (x && y) ≡ true → (x ≡ true) × (y ≡ true)
and_both true y h = (refl, h)
and_both false y h = absurd cc

and_not : (x y : Bool) → (x && y) ≡ false → x ≡ true → y ≡ false
and_not true y h e = h
and_not false y h e = absurd cc

-- pairs of numbers

-- what it means to be above, and not to be
yes_above : (a b : ℕ × ℕ) → is_above a b ≡ true → (b.0 < a.0) ⊎ ((a.0 ≡ b.0) × (b.1 < a.1))
yes_above a b h = elim (or_cases (nat_lt b.0 a.0) ((a.0 == b.0) && nat_lt b.1 a.1) h) [
  | inl e ↦ inl (ltb-true b.0 a.0 e)
  | inr e ↦ (let p = and_both (a.0 == b.0) (nat_lt b.1 a.1) e in inr (eqb-true a.0 b.0 p.0, ltb-true b.1 a.1 p.1))
]

not_above : (a b : ℕ × ℕ) → is_above a b ≡ false → (a.0 ≤ b.0) × (a.0 ≡ b.0 → a.1 ≤ b.1)
not_above a b h =
    let o = or_none (nat_lt b.0 a.0) ((a.0 == b.0) && nat_lt b.1 a.1) h in
    (ltb-false b.0 a.0 o.0, λ e. ltb-false b.1 a.1 (and_not (a.0 == b.0) (nat_lt b.1 a.1) o.1 (eq-eqb a.0 b.0 e)))

up_to : (a b : ℕ × ℕ) → a.0 ≤ b.0 → (a.0 ≡ b.0 → a.1 ≤ b.1) → is_above a b ≡ false
up_to a b low then' = elim (cases_Bool (is_above a b)) [
  | inl y ↦ absurd (elim (yes_above a b y) [ inl lt ↦ omega arith | inr e ↦ (let le = then' e.0 in omega (arith, e.1)) ])
  | inr n ↦ n
]

up_to_itself : (a : ℕ × ℕ) → is_above a a ≡ false
up_to_itself a = up_to a a (omega arith) (λ e. omega arith)

up_to_then : (a b c : ℕ × ℕ) → is_above a b ≡ false → is_above b c ≡ false → is_above a c ≡ false
up_to_then a b c h k =
    let p = not_above a b h in
    let q = not_above b c k in
    up_to a c (omega (arith, p.0, q.0)) (λ e. (let first = p.1 (omega (arith, p.0, q.0)) in let second = q.1 (omega (arith, p.0, q.0)) in omega arith))

pub one_way : (a b : ℕ × ℕ) → is_above a b ≡ true → is_above b a ≡ false
one_way a b h = elim (yes_above a b h) [
  | inl lt ↦ up_to b a (omega arith) (λ e. omega arith)
  | inr p ↦ up_to b a (omega (arith, p.0)) (λ e. omega (arith, p.1))
]

same_is : (a b : ℕ × ℕ) → is_same a b ≡ true → (a.0 ≡ b.0) × (a.1 ≡ b.1)
same_is a b h = let p = and_both (a.0 == b.0) (a.1 == b.1) h in (eqb-true a.0 b.0 p.0, eqb-true a.1 b.1 p.1)

is_same_as : (a b : ℕ × ℕ) → a.0 ≡ b.0 → a.1 ≡ b.1 → is_same a b ≡ true
is_same_as a b e f = rw (eq-eqb a.0 b.0 e, eq-eqb a.1 b.1 f) refl

-- what is below t is not t
pub below_differs : (t a : ℕ × ℕ) → is_above t a ≡ true → is_same a t ≡ false
below_differs t a h = elim (cases_Bool (is_same a t)) [
  | inl y ↦ (let s = same_is a t y in absurd (elim (yes_above t a h) [ inl lt ↦ omega (arith, s.0) | inr p ↦ omega (arith, s.1, p.1) ]))
  | inr n ↦ n
]

-- what comes after one that is above t is not t
later_differs : (t a b : ℕ × ℕ) → is_above t a ≡ false → is_same a t ≡ false → is_above a b ≡ false → is_same b t ≡ false
later_differs t a b h differs k = elim (cases_Bool (is_same b t)) [
  | inl y ↦ (let s = same_is b t y in
      let p = not_above t a h in
      let q = not_above a b k in
      let first : a.0 ≡ t.0 = omega (arith, p.0, q.0, s.0) in
      let low = p.1 (sym first) in
      let high = q.1 (omega (arith, first, s.0)) in
      let second : a.1 ≡ t.1 = omega (arith, low, high, s.1) in
      absurd (let z : ◌≡◌ {A = Bool} true false = sym (is_same_as a t first second) ∙ differs in cc))
  | inr n ↦ n
]

-- lists

pub all_at : {X : Type 0} (P : X → Type 0) (xs : List X) (j : ℕ) (d : X) → AllByRecursion P xs → j < length xs → P (get_or xs j d)
all_at P [] j d h lt = absurd (omega arith)
all_at P (x ∷ xs) zero d h lt = h.0
all_at P (x ∷ xs) (suc j) d h lt = all_at P xs j d h.1 (omega arith)

pub all_weaker : {X : Type 0} (P Q : X → Type 0) (xs : List X) → ((x : X) → P x → Q x) → AllByRecursion P xs → AllByRecursion Q xs
all_weaker P Q [] f h = tt
all_weaker P Q (x ∷ xs) f h = (f x h.0, all_weaker P Q xs f h.1)

pub all_put : {X : Type 0} (P : X → Type 0) (before : X → X → Bool) (x : X) (xs : List X) → P x → AllByRecursion P xs → AllByRecursion P (put_in before x xs)
all_put P before x [] p h = (p, tt)
all_put P before x (y ∷ ys) p h = elim (cases_Bool (before y x)) [
  | inl e ↦ rw e (h.0, all_put P before x ys p h.1)
  | inr e ↦ rw e (p, (h.0, h.1))
]

pub all_kept : {X : Type 0} (P : X → Type 0) (p : X → Bool) (xs : List X) → AllByRecursion P xs → AllByRecursion P (filter p xs)
all_kept P p [] h = tt
all_kept P p (x ∷ xs) h = elim (cases_Bool (p x)) [
  | inl e ↦ rw e (h.0, all_kept P p xs h.1)
  | inr e ↦ rw e (all_kept P p xs h.1)
]

module _ {X : Type 0} (rank : X → ℕ × ℕ) where
  in_order_at : (xs : List X) (i j : ℕ) (d : X) → IsInOrder rank xs → i ≤ j → j < length xs → is_above (rank (get_or xs i d)) (rank (get_or xs j d)) ≡ false
  in_order_at [] i j d h le lt = absurd (omega arith)
  in_order_at (x ∷ xs) zero zero d h le lt = up_to_itself (rank x)
  in_order_at (x ∷ xs) zero (suc j) d h le lt = all_at (λ y. is_above (rank x) (rank y) ≡ false) xs j d h.0 (omega arith)
  in_order_at (x ∷ xs) (suc i) zero d h le lt = absurd (omega arith)
  in_order_at (x ∷ xs) (suc i) (suc j) d h le lt = in_order_at xs i j d h.1 (omega arith) (omega arith)

  pub divided_below : (t : ℕ × ℕ) (xs : List X) → IsInOrder rank xs → IsPartitionedBy (λ x. is_above t (rank x)) xs
  divided_below t xs h i j d le lt hit = elim (cases_Bool (is_above t (rank (get_or xs i d)))) [
    | inl y ↦ y
    | inr n ↦ absurd (let miss = up_to_then t (rank (get_or xs i d)) (rank (get_or xs j d)) n (in_order_at xs i j d h le lt) in let z : ◌≡◌ {A = Bool} true false = sym hit ∙ miss in cc)
  ]

  not_true : (b : Bool) → not b ≡ true → b ≡ false
  not_true true h = sym h
  not_true false h = refl

  pub divided_up_to : (t : ℕ × ℕ) (xs : List X) → IsInOrder rank xs → IsPartitionedBy (λ x. not (is_above (rank x) t)) xs
  divided_up_to t xs h i j d le lt hit =
      ap not (up_to_then (rank (get_or xs i d)) (rank (get_or xs j d)) t (in_order_at xs i j d h le lt) (not_true (is_above (rank (get_or xs j d)) t) hit))

all_within : {X : Type 0} (P : X → Type 0) (xs : List X) → AllWithin P xs 0 (length xs) → AllByRecursion P xs
all_within P [] h = tt
all_within P (x ∷ xs) h = (h 0 x (omega arith) (omega arith), all_within P xs (λ k d low high. h (suc k) d (omega arith) (omega arith)))

pub divides : {X : Type 0} (p : X → Bool) (n : ℕ) (xs : List X) → n ≤ length xs → IsPartitionPoint (λ x. p x ≡ true) (λ x. p x ≡ false) xs n → Divides p n xs
divides p zero xs le h = all_within (λ x. p x ≡ false) xs h.1
divides p (suc n) [] le h = absurd (omega arith)
divides p (suc n) (x ∷ xs) le h = (
  h.0 0 x (omega arith) (omega arith),
  divides p n xs (omega arith)
      (λ k d low high. h.0 (suc k) d (omega arith) (omega arith), λ k d low high. h.1 (suc k) d (omega arith) (omega arith)),
)

-- putting in

pub put_there : {X : Type 0} (before : X → X → Bool) (x : X) (n : ℕ) (xs : List X) → Divides (λ y. before y x) n xs → put_in before x xs ≡ take n xs ++ x ∷ drop n xs
put_there before x zero [] h = refl
put_there before x zero (y ∷ ys) h = rw h.0 refl
put_there before x (suc n) [] h = absurd h
put_there before x (suc n) (y ∷ ys) h = rw h.0 (ap (λ (zs : List _). y ∷ zs) (put_there before x n ys h.1))

pub put_last : {X : Type 0} (before : X → X → Bool) (x : X) (xs : List X) → AllByRecursion (λ y. before y x ≡ true) xs → put_in before x xs ≡ xs ++ x ∷ []
put_last before x [] h = refl
put_last before x (y ∷ ys) h = rw h.0 (ap (λ (zs : List _). y ∷ zs) (put_last before x ys h.1))

pub all_not : {X : Type 0} (p : X → Bool) (xs : List X) → AllByRecursion (λ x. p x ≡ false) xs → AllByRecursion (λ x. not (p x) ≡ true) xs
all_not p [] h = tt
all_not p (x ∷ xs) h = (ap not h.0, all_not p xs h.1)

pub put_in_order : {X : Type 0} (rank : X → ℕ × ℕ) (before : X → X → Bool) (x : X) (xs : List X)
    → ((y : X) → before y x ≡ true → is_above (rank y) (rank x) ≡ false) → ((y : X) → before y x ≡ false → is_above (rank x) (rank y) ≡ false)
    → IsInOrder rank xs → IsInOrder rank (put_in before x xs)
put_in_order rank before x [] f g h = (tt, tt)
put_in_order rank before x (y ∷ ys) f g h = elim (cases_Bool (before y x)) [
  | inl e ↦ rw e (all_put (λ z. is_above (rank y) (rank z) ≡ false) before x ys (f y e) h.0, put_in_order rank before x ys f g h.1)
  | inr e ↦ rw e ((g y e, all_weaker (λ z. is_above (rank y) (rank z) ≡ false) (λ z. is_above (rank x) (rank z) ≡ false) ys (λ z. up_to_then (rank x) (rank y) (rank z) (g y e)) h.0), h)
]

not_false : (b : Bool) → not b ≡ false → b ≡ true
not_false true h = refl
not_false false h = sym h

is_not : (b : Bool) → not b ≡ true → b ≡ false
is_not true h = sym h
is_not false h = refl

pub ordered_before : {X : Type 0} (rank : X → ℕ × ℕ) (x : X) (xs : List X) → IsInOrder rank xs → IsInOrder rank (put_in (λ x y. is_above (rank y) (rank x)) x xs)
ordered_before rank x xs h = put_in_order rank (λ x y. is_above (rank y) (rank x)) x xs (λ y e. one_way (rank x) (rank y) e) (λ y e. e) h

pub ordered_behind : {X : Type 0} (rank : X → ℕ × ℕ) (x : X) (xs : List X) → IsInOrder rank xs → IsInOrder rank (put_in (λ x y. not (is_above (rank x) (rank y))) x xs)
ordered_behind rank x xs h =
    put_in_order rank (λ x y. not (is_above (rank x) (rank y))) x xs (λ y e. is_not (is_above (rank y) (rank x)) e) (λ y e. one_way (rank y) (rank x) (not_false (is_above (rank y) (rank x)) e)) h

-- at the place that the count tells

pub put_below : {X : Type 0} (rank : X → ℕ × ℕ) (x : X) (xs ys zs : List X) (n : ℕ) (t : ℕ × ℕ) → t ≡ rank x → ys ≡ xs → Divides (λ y. is_above t (rank y)) n ys → zs ≡ insert xs n x → zs ≡ put_in (λ x y. is_above (rank y) (rank x)) x xs
put_below rank x xs ys zs n t is same d e = e ∙ sym (put_there (λ a b. is_above (rank b) (rank a)) x n xs (subst (λ (l : List _). Divides (λ y. is_above (rank x) (rank y)) n l) same (subst (λ (u : ℕ × ℕ). Divides (λ y. is_above u (rank y)) n ys) is d)))

pub put_above : {X : Type 0} (rank : X → ℕ × ℕ) (x : X) (xs ys zs : List X) (n : ℕ) (t : ℕ × ℕ) → t ≡ rank x → ys ≡ xs → Divides (λ y. not (is_above (rank y) t)) n ys → zs ≡ insert xs n x → zs ≡ put_in (λ x y. not (is_above (rank x) (rank y))) x xs
put_above rank x xs ys zs n t is same d e = e ∙ sym (put_there (λ a b. not (is_above (rank a) (rank b))) x n xs (subst (λ (l : List _). Divides (λ y. not (is_above (rank y) (rank x))) n l) same (subst (λ (u : ℕ × ℕ). Divides (λ y. not (is_above (rank y) u)) n ys) is d)))

-- what stands at a place
pub got_at : {X : Type 0} (xs : List X) (i : ℕ) (r : Option (Bor X)) → is_some r ≡ nat_lt i (length xs) → IfSome r (λ x. x.now ≡ get_or xs i x.now) → option_copied r ≡ slice_get xs i
got_at xs i None e h = sym (slice_get_past xs i (ltb-false i (length xs) (sym e)))
got_at xs i (Some b) e h = sym (slice_get_read xs (length xs) i b.now refl (ltb-true i (length xs) (sym e)) h)

-- taking out

pub ordered_filter : {X : Type 0} (rank : X → ℕ × ℕ) (p : X → Bool) (xs : List X) → IsInOrder rank xs → IsInOrder rank (filter p xs)
ordered_filter rank p [] h = tt
ordered_filter rank p (x ∷ xs) h = elim (cases_Bool (p x)) [
  | inl e ↦ rw e (all_kept (λ y. is_above (rank x) (rank y) ≡ false) p xs h.0, ordered_filter rank p xs h.1)
  | inr e ↦ rw e (ordered_filter rank p xs h.1)
]

module _ {X : Type 0} (rank : X → ℕ × ℕ) (t : ℕ × ℕ) where
  abbrev is_it : X → Bool
  is_it x = is_same (rank x) t

  none_later : (y : X) (ys : List X) → is_above t (rank y) ≡ false → is_it y ≡ false → AllByRecursion (λ z. is_above (rank y) (rank z) ≡ false) ys → AllByRecursion (λ z. is_it z ≡ false) ys
  none_later y ys h differs k = all_weaker (λ z. is_above (rank y) (rank z) ≡ false) (λ z. is_it z ≡ false) ys (λ z. later_differs t (rank y) (rank z) h differs) k

  found_none : (xs : List X) → AllByRecursion (λ z. is_it z ≡ false) xs → find is_it xs ≡ None
  found_none [] h = refl
  found_none (x ∷ xs) h = rw h.0 (found_none xs h.1)

  kept_all : (xs : List X) → AllByRecursion (λ z. is_it z ≡ false) xs → filter (λ z. not (is_it z)) xs ≡ xs
  kept_all [] h = refl
  kept_all (x ∷ xs) h = rw h.0 (ap (λ (zs : List X). x ∷ zs) (kept_all xs h.1))

  -- the one at the place, if it is the one
  pub finds : (n : ℕ) (xs : List X) → IsInOrder rank xs → Divides (λ x. is_above t (rank x)) n xs → find is_it xs ≡ cond (says is_it (slice_get xs n)) (slice_get xs n) None
  finds zero [] h d = refl
  finds zero (x ∷ xs) h d = elim (cases_Bool (is_it x)) [
    | inl y ↦ rw y refl
    | inr n ↦ rw n (found_none xs (none_later x xs d.0 n h.0))
  ]
  finds (suc n) [] h d = absurd d
  finds (suc n) (x ∷ xs) h d = rw (below_differs t (rank x) d.0) (finds n xs h.1 d.1)

  -- one that goes from the place
  pub kept_same : (n : ℕ) (xs : List X) → says is_it (slice_get xs n) ≡ true → filter (λ z. not (is_it z)) (remove xs n) ≡ filter (λ z. not (is_it z)) xs
  kept_same zero [] h = absurd cc
  kept_same zero (x ∷ xs) h = rw h refl
  kept_same (suc n) [] h = absurd cc
  kept_same (suc n) (x ∷ xs) h = elim (cases_Bool (is_it x)) [
    | inl y ↦ rw y (kept_same n xs h)
    | inr n' ↦ rw n' (ap (λ (zs : List X). x ∷ zs) (kept_same n xs h))
  ]

  -- none is left
  pub kept_whole : (n : ℕ) (xs : List X) → IsInOrder rank xs → Divides (λ x. is_above t (rank x)) n xs → says is_it (slice_get xs n) ≡ false → filter (λ z. not (is_it z)) xs ≡ xs
  kept_whole zero [] h d none = refl
  kept_whole zero (x ∷ xs) h d none = rw none (ap (λ (zs : List X). x ∷ zs) (kept_all xs (none_later x xs d.0 none h.0)))
  kept_whole (suc n) [] h d none = absurd d
  kept_whole (suc n) (x ∷ xs) h d none = rw (below_differs t (rank x) d.0) (ap (λ (zs : List X). x ∷ zs) (kept_whole n xs h.1 d.1 none))

  -- what is found in a list that two names have
  pub found_there : (n : ℕ) (xs ys zs : List X) (b : Bool) → ys ≡ xs → zs ≡ xs → IsInOrder rank xs → Divides (λ x. is_above t (rank x)) n ys → says is_it (slice_get zs n) ≡ b → find is_it xs ≡ cond b (slice_get xs n) None
  found_there n xs ys zs b e f h d there =
      finds n xs h (subst (Divides (λ x. is_above t (rank x)) n) e d) ∙ ap (λ (c : Bool). cond c (slice_get xs n) None) (ap (λ (l : List X). says is_it (slice_get l n)) (sym f) ∙ there)

  pub none_there : (n : ℕ) (xs ys zs : List X) → ys ≡ xs → zs ≡ xs → IsInOrder rank xs → Divides (λ x. is_above t (rank x)) n ys → says is_it (slice_get zs n) ≡ false → xs ≡ filter (λ z. not (is_it z)) xs
  none_there n xs ys zs e f h d there = sym (kept_whole n xs h (subst (Divides (λ x. is_above t (rank x)) n) e d) (ap (λ (l : List X). says is_it (slice_get l n)) (sym f) ∙ there))
