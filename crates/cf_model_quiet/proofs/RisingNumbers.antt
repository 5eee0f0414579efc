-- Numbers that rise along a list, and what is found in a list.
use Rattle.std.proofs.Common.{◌≡◌, ◌<◌, ◌≤◌, ℕ, Bool, true, false, List, [], ◌∷◌, ◌++◌, refl, sym, subst, arith, inl, inr}
use Rattle.std.specs.Prelude.{Some, cond, filter, find, map, ◌||◌}
use Rattle.std.specs.List.{list_any}
use Rattle.cf_model_laws.specs.Invariant.{All, Among}
use Rattle.cf_model_laws.proofs.Gathered.{all_both, all_weaker}
use Rattle.cf_model_laws.proofs.RightItems.{no_way}
use Rattle.cf_model_laws.proofs.SoundSettles.{or_right}
use Rattle.cf_model_quiet.specs.Asked.{Rises}

-- numbers that rise

lower : (a b c : ℕ) → a ≤ b → b < c → a < c
lower a b c h k = omega (arith, h, k)

lower_all : (a b c : ℕ) → a < b → b < c → a < c
lower_all a b c h k = omega (arith, h, k)

at_most : (a b c : ℕ) → a ≤ b → b ≤ c → a ≤ c
at_most a b c h k = omega (arith, h, k)

least : (a b : ℕ) → a < b → a ≤ b
least a b h = omega (arith, h)

apart : (a b : ℕ) → a < b → a ≡ b → ⊥
apart a b h e = omega (arith, h, e)

module _ {A : Type 0} (f : A → ℕ) where
  pub rises_from : (low less last : ℕ) (xs : List A) → less ≤ low → Rises f low last xs → Rises f less last xs
  rises_from low less last [] le h = at_most less low last le h
  rises_from low less last (x ∷ xs) le h = (lower less low (f x) le h.0, h.1)

  pub rises_upto : (low last : ℕ) (xs : List A) → Rises f low last xs → low ≤ last
  rises_upto low last [] h = h
  rises_upto low last (x ∷ xs) h = at_most low (f x) last (least low (f x) h.0) (rises_upto (f x) last xs h.1)

  pub rises_filter : (p : A → Bool) (low last : ℕ) (xs : List A) → Rises f low last xs → Rises f low last (filter p xs)
  rises_filter p low last [] h = h
  rises_filter p low last (x ∷ xs) h = by (p x) (rises_filter p (f x) last xs h.1) where
    by : (b : Bool) → Rises f (f x) last (filter p xs) → Rises f low last (cond b (x ∷ filter p xs) (filter p xs))
    by true k = (h.0, k)
    by false k = rises_from (f x) low last (filter p xs) (least low (f x) h.0) k

  pub rises_map : (g : A → A) → ((x : A) → f (g x) ≡ f x) → (low last : ℕ) (xs : List A) → Rises f low last xs → Rises f low last (map g xs)
  rises_map g same low last [] h = h
  rises_map g same low last (x ∷ xs) h = (subst (λ (n : ℕ). low < n) (sym (same x)) h.0, subst (λ (n : ℕ). Rises f n last (map g xs)) (sym (same x)) (rises_map g same (f x) last xs h.1))

  pub rises_append : (low mid last : ℕ) (xs ys : List A) → Rises f low mid xs → Rises f mid last ys → Rises f low last (xs ++ ys)
  rises_append low mid last [] ys h k = rises_from mid low last ys h k
  rises_append low mid last (x ∷ xs) ys h k = (h.0, rises_append (f x) mid last xs ys h.1 k)

  pub above_all : (low last : ℕ) (xs : List A) → Rises f low last xs → All (λ x. low < f x) xs
  above_all low last [] h = tt
  above_all low last (x ∷ xs) h = (h.0, all_weaker (λ y. f x < f y) (λ y. low < f y) (λ y k. lower_all low (f x) (f y) h.0 k) xs (above_all (f x) last xs h.1))

  pub upto_all : (low last : ℕ) (xs : List A) → Rises f low last xs → All (λ x. f x ≤ last) xs
  upto_all low last [] h = tt
  upto_all low last (x ∷ xs) h = (rises_upto (f x) last xs h.1, upto_all (f x) last xs h.1)

  -- no two have one number
  pub all_apart : (low last : ℕ) (xs : List A) → Rises f low last xs → All (λ x. All (λ y. f y ≡ f x → y ≡ x) xs) xs
  all_apart low last [] h = tt
  all_apart low last (x ∷ xs) h =
      let above : All (λ y. f x < f y) xs = above_all (f x) last xs h.1 in (
        ((λ e. refl), all_weaker (λ y. f x < f y) (λ y. f y ≡ f x → y ≡ x) (λ y k e. absurd (apart (f x) (f y) k (sym e))) xs above),
        all_both (λ z. f x < f z) (λ z. All (λ y. f y ≡ f z → y ≡ z) xs) (λ z. All (λ y. f y ≡ f z → y ≡ z) (x ∷ xs)) (λ z k rest. ((λ e. absurd (apart (f x) (f z) k e)), rest)) xs above (all_apart (f x) last xs h.1),
      )

  -- each is found by a test that tells numbers apart
  pub each_found : (low last : ℕ) (xs : List A) → Rises f low last xs → All (λ x. (p : A → Bool) → p x ≡ true → ((y : A) → p y ≡ true → f y ≡ f x) → find p xs ≡ Some x) xs
  each_found low last [] h = tt
  each_found low last (x ∷ xs) h = (
    (λ p e only. rw e refl),
    all_both (λ z. f x < f z) (λ z. (p : A → Bool) → p z ≡ true → ((y : A) → p y ≡ true → f y ≡ f z) → find p xs ≡ Some z) (λ z. (p : A → Bool) → p z ≡ true → ((y : A) → p y ≡ true → f y ≡ f z) → find p (x ∷ xs) ≡ Some z)
        (λ z k found p e only. passed p z k only (found p e only)) xs (above_all (f x) last xs h.1) (each_found (f x) last xs h.1),
  ) where
    passed : (p : A → Bool) (z : A) → f x < f z → ((y : A) → p y ≡ true → f y ≡ f z) → find p xs ≡ Some z → find p (x ∷ xs) ≡ Some z
    passed p z k only found = by (p x) refl where
      by : (b : Bool) → p x ≡ b → cond b (Some x) (find p xs) ≡ Some z
      by true q = absurd (apart (f x) (f z) k (only x q))
      by false q = found

-- what is in a list

module _ {A : Type 0} where
  pub among_any : (g : A → Bool) (x : A) (xs : List A) → Among x xs → g x ≡ true → list_any g xs ≡ true
  among_any g x [] is e = absurd is
  among_any g x (y ∷ ys) (inl z) e = rw (subst (λ (u : A). g u ≡ true) (sym z) e) refl
  among_any g x (y ∷ ys) (inr is) e = or_right (g y) (list_any g ys) (among_any g x ys is e)

  -- what passes both
  pub any_passed : (Q : A → Type 0) (g p : A → Bool) → ((x : A) → Q x → g x ≡ true → p x ≡ true) → (xs : List A) → All Q xs → list_any g xs ≡ true → list_any g (filter p xs) ≡ true
  any_passed Q g p k [] h e = e
  any_passed Q g p k (x ∷ xs) h e = by (g x) (p x) refl (k x h.0) e (any_passed Q g p k xs h.1) where
    by : (b c : Bool) → g x ≡ b → (b ≡ true → c ≡ true) → (b || list_any g xs) ≡ true → (list_any g xs ≡ true → list_any g (filter p xs) ≡ true) → list_any g (cond c (x ∷ filter p xs) (filter p xs)) ≡ true
    by true true q m e more = rw q refl
    by true false q m e more = no_way (m refl)
    by false true q m e more = or_right (g x) (list_any g (filter p xs)) (more e)
    by false false q m e more = more e

  pub any_so : (Q : A → Type 0) (f g : A → Bool) → ((x : A) → Q x → f x ≡ true → g x ≡ true) → (xs : List A) → All Q xs → list_any f xs ≡ true → list_any g xs ≡ true
  any_so Q f g k [] h e = e
  any_so Q f g k (x ∷ xs) h e = by (f x) (g x) (k x h.0) e (any_so Q f g k xs h.1) where
    by : (b c : Bool) → (b ≡ true → c ≡ true) → (b || list_any f xs) ≡ true → (list_any f xs ≡ true → list_any g xs ≡ true) → (c || list_any g xs) ≡ true
    by true c m e more = rw (m refl) refl
    by false c m e more = or_right c (list_any g xs) (more e)

  pub any_mapped : (g : A → Bool) (h : A → A) → ((x : A) → g (h x) ≡ g x) → (xs : List A) → list_any g xs ≡ true → list_any g (map h xs) ≡ true
  any_mapped g h same [] e = e
  any_mapped g h same (x ∷ xs) e = subst (λ (b : Bool). (b || list_any g (map h xs)) ≡ true) (sym (same x)) (by (g x) e (any_mapped g h same xs)) where
    by : (b : Bool) → (b || list_any g xs) ≡ true → (list_any g xs ≡ true → list_any g (map h xs) ≡ true) → (b || list_any g (map h xs)) ≡ true
    by true e more = refl
    by false e more = more e

  pub any_behind : (g : A → Bool) (xs ys : List A) → list_any g ys ≡ true → list_any g (xs ++ ys) ≡ true
  any_behind g [] ys e = e
  any_behind g (x ∷ xs) ys e = or_right (g x) (list_any g (xs ++ ys)) (any_behind g xs ys e)

-- each that passes a test is told by what is made of it
pub each_made : {A B : Type 0} (f : A → B) (t : A → Bool) (g : A → B → Bool) → ((x : A) → g x (f x) ≡ true) → (xs : List A) → All (λ x. t x ≡ true → list_any (g x) (map f (filter t xs)) ≡ true) xs
each_made {A} {B} f t g told [] = tt
each_made {A} {B} f t g told (x ∷ xs) = by (t x) (each_made f t g told xs) where
  made : Bool → List B
  made b = map f (cond b (x ∷ filter t xs) (filter t xs))

  front : (b c : Bool) → b ≡ true → (b || c) ≡ true
  front true c k = refl
  front false c k = no_way k

  by : (b : Bool) → All (λ y. t y ≡ true → list_any (g y) (map f (filter t xs)) ≡ true) xs → (b ≡ true → list_any (g x) (made b) ≡ true) × All (λ y. t y ≡ true → list_any (g y) (made b) ≡ true) xs
  by true k = (
    (λ e. front (g x (f x)) (list_any (g x) (map f (filter t xs))) (told x)),
    all_weaker (λ y. t y ≡ true → list_any (g y) (map f (filter t xs)) ≡ true) (λ y. t y ≡ true → list_any (g y) (made true) ≡ true) (λ y m e. or_right (g y (f x)) (list_any (g y) (map f (filter t xs))) (m e)) xs k,
  )
  by false k = ((λ e. no_way e), k)
