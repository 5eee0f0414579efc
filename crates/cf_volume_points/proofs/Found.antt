-- What is found in a list after something was put in or taken out.
use Rattle.std.proofs.Common.{◌≡◌, Bool, true, false, not, cond, List, [], ◌∷◌, refl, sym, ◌∙◌, ap, Option, Some, None}
use Rattle.std.specs.Prelude.{find, filter}
use Rattle.std.proofs.lemmas.Option.{none-some}
use Rattle.cf_model.specs.Words.{put_in}

-- what stands at the head decides
either_first : {A : Type 0} (t u : Bool) (x y : A) (o : Option A) → (u ≡ true → cond t (Some y) o ≡ None) → cond t (Some y) (cond u (Some x) o) ≡ cond u (Some x) (cond t (Some y) o)
either_first {A} true true x y o h = absurd (none-some y (sym (h refl)))
either_first {A} true false x y o h = refl
either_first {A} false true x y o h = refl
either_first {A} false false x y o h = refl

rest_none : {A : Type 0} (t : Bool) (y : A) (o : Option A) → cond t (Some y) o ≡ None → o ≡ None
rest_none {A} true y o h = absurd (none-some y (sym h))
rest_none {A} false y o h = h

pub found_put : {A : Type 0} (test : A → Bool) (before : A → A → Bool) (x : A) (xs : List A) → (test x ≡ true → find test xs ≡ None) → find test (put_in before x xs) ≡ cond (test x) (Some x) (find test xs)
found_put {A} test before x [] none = refl
found_put {A} test before x (y ∷ ys) none = by (before y x) (found_put test before x ys (λ e. rest_none (test y) y (find test ys) (none e)))
  where
    by : (b : Bool) → find test (put_in before x ys) ≡ cond (test x) (Some x) (find test ys) → find test (cond b (y ∷ put_in before x ys) (x ∷ y ∷ ys)) ≡ cond (test x) (Some x) (find test (y ∷ ys))
    by true h = ap (λ (o : Option A). cond (test y) (Some y) o) h ∙ either_first (test y) (test x) x y (find test ys) none
    by false h = refl

-- of what is found it is known whether it is one of those that are taken out
pub found_left : {A : Type 0} (test out : A → Bool) (c : Bool) (xs : List A) → ((x : A) → test x ≡ true → out x ≡ c) → find test (filter (λ x. not (out x)) xs) ≡ cond c None (find test xs)
found_left {A} test out true [] same = refl
found_left {A} test out false [] same = refl
found_left {A} test out c (y ∷ ys) same = by (out y) refl (found_left test out c ys same)
  where
    gone : (t : Bool) → (t ≡ true → true ≡ c) → find test (filter (λ x. not (out x)) ys) ≡ cond c None (find test ys) → find test (filter (λ x. not (out x)) ys) ≡ cond c None (cond t (Some y) (find test ys))
    gone true s rest = rest ∙ sym (ap (λ (d : Bool). cond d None (find test ys)) (s refl)) ∙ ap (λ (d : Bool). cond d None (Some y)) (s refl)
    gone false s rest = rest

    kept : (t : Bool) → (t ≡ true → false ≡ c) → find test (filter (λ x. not (out x)) ys) ≡ cond c None (find test ys) → cond t (Some y) (find test (filter (λ x. not (out x)) ys)) ≡ cond c None (cond t (Some y) (find test ys))
    kept true s rest = ap (λ (d : Bool). cond d None (Some y)) (s refl)
    kept false s rest = rest

    by : (u : Bool) → out y ≡ u → find test (filter (λ x. not (out x)) ys) ≡ cond c None (find test ys)
        → find test (cond (not u) (y ∷ filter (λ x. not (out x)) ys) (filter (λ x. not (out x)) ys)) ≡ cond c None (cond (test y) (Some y) (find test ys))
    by true e rest = gone (test y) (λ h. sym e ∙ same y h) rest
    by false e rest = kept (test y) (λ h. sym e ∙ same y h) rest
