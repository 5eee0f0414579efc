-- Lines that end silent, and the lines of the last pass.
use Rattle.std.proofs.Common.{◌≡◌, ◌⊎◌, Bool, true, false, List, [], ◌∷◌, ◌++◌, refl, sym, ◌∙◌, subst, inl, inr}
use Rattle.std.specs.Prelude.{Option, Some, None, cond, not, ◌&&◌, ◌||◌}
use Rattle.std.specs.List.{list_any}
use Rattle.cf_base.specs.declared.notices.Notice.{Notice}
use Rattle.cf_model_laws.proofs.RightItems.{no_way, no_way_back}
use Rattle.cf_model_laws.proofs.SoundSettles.{left_true, not_true, right_true}
use Rattle.cf_model_convergence.specs.Hearing.{is_heard}
use Rattle.cf_model_quiet.specs.LastPass.{asks_round, asks_settle, at_last, before_feed, ends_silent, from_first, is_silent_by, since_last}
use Rattle.cf_model_quiet.proofs.UnfedGuarded.{AreUnfed}

abbrev Split : Type 0
Split = Option (List Notice × List Notice)

right_none : (f : Notice → Bool) (xs ys : List Notice) → list_any f (xs ++ ys) ≡ false → list_any f ys ≡ false
right_none f [] ys e = e
right_none f (x ∷ xs) ys e = by (f x) e (right_none f xs ys) where
  by : (b : Bool) → (b || list_any f (xs ++ ys)) ≡ false → (list_any f (xs ++ ys) ≡ false → list_any f ys ≡ false) → list_any f ys ≡ false
  by true z more = no_way_back z
  by false z more = more z

both_none : (f : Notice → Bool) (xs ys : List Notice) → list_any f xs ≡ false → list_any f ys ≡ false → list_any f (xs ++ ys) ≡ false
both_none f [] ys h k = k
both_none f (x ∷ xs) ys h k = by (f x) h (both_none f xs ys) where
  by : (b : Bool) → (b || list_any f xs) ≡ false → (list_any f xs ≡ false → list_any f ys ≡ false → list_any f (xs ++ ys) ≡ false) → (b || list_any f (xs ++ ys)) ≡ false
  by true z more = no_way_back z
  by false z more = more z k

-- where the last of a kind stands

module _ (f : Notice → Bool) where
  none_last : (ys : List Notice) → list_any f ys ≡ false → at_last f ys ≡ None
  none_last [] e = refl
  none_last (y ∷ ys) e = by (f y) refl e (none_last ys) where
    by : (b : Bool) → f y ≡ b → (b || list_any f ys) ≡ false → (list_any f ys ≡ false → at_last f ys ≡ None) → at_last f (y ∷ ys) ≡ None
    by true q z more = no_way_back z
    by false q z more = rw (more z) (rw q refl)

  last_here : (xs ys : List Notice) (n : Notice) → f n ≡ true → list_any f ys ≡ false → at_last f (xs ++ n ∷ ys) ≡ Some (xs, n ∷ ys)
  last_here [] ys n e none = rw (none_last ys none) (rw e refl)
  last_here (x ∷ xs) ys n e none = rw (last_here xs ys n e none) refl

  abbrev longer : List Notice → Split → Split
  longer ys None = None
  longer ys (Some p) = Some (p.0, p.1 ++ ys)

  last_longer : (xs ys : List Notice) → list_any f ys ≡ false → at_last f (xs ++ ys) ≡ longer ys (at_last f xs)
  last_longer [] ys none = none_last ys none
  last_longer (x ∷ xs) ys none = rw (last_longer xs ys none) (by (at_last f xs) (f x)) where
    step : Split → List Notice → Bool → Split
    step o zs b = elim o as (λ _. Option (List Notice × List Notice)) [ None ↦ cond b (Some ([], x ∷ zs)) None | Some p ↦ Some (x ∷ p.0, p.1) ]

    by : (o : Split) (b : Bool) → step (longer ys o) (xs ++ ys) b ≡ longer ys (step o xs b)
    by None true = refl
    by None false = refl
    by (Some p) b = refl

-- what a pass asks of uploads, first of all its lines
abbrev pub StartsSettling : List Notice → Type 0
StartsSettling ns = (ns ≡ []) ⊎ ((n : Notice) × (more : List Notice) × (ns ≡ n ∷ more) × (asks_settle n ≡ true))

from_settle : (xs ns : List Notice) → StartsSettling ns → list_any is_heard (from_first asks_settle (xs ++ ns)) ≡ false → list_any is_heard ns ≡ false
from_settle xs ns (inl e) h = subst (λ (zs : List Notice). list_any is_heard zs ≡ false) (sym e) refl
from_settle [] ns (inr (n, more, e, settle)) h = subst (λ (zs : List Notice). list_any is_heard zs ≡ false) (sym e) (here (subst (λ (zs : List Notice). list_any is_heard (from_first asks_settle zs) ≡ false) e h)) where
  here : list_any is_heard (cond (asks_settle n) (n ∷ more) (from_first asks_settle more)) ≡ false → list_any is_heard (n ∷ more) ≡ false
  here z = subst (λ (b : Bool). list_any is_heard (cond b (n ∷ more) (from_first asks_settle more)) ≡ false) settle z
from_settle (x ∷ xs) ns (inr k) h = by (asks_settle x) h (from_settle xs ns (inr k)) where
  by : (b : Bool) → list_any is_heard (cond b (x ∷ (xs ++ ns)) (from_first asks_settle (xs ++ ns))) ≡ false → (list_any is_heard (from_first asks_settle (xs ++ ns)) ≡ false → list_any is_heard ns ≡ false) → list_any is_heard ns ≡ false
  by true z more = right_none is_heard (x ∷ xs) ns z
  by false z more = more z

-- before its feed nothing is heard
before_silent : (xs ns : List Notice) → AreUnfed ns → StartsSettling ns → list_any is_heard (before_feed (xs ++ ns)) ≡ false → list_any is_heard ns ≡ false
before_silent xs ns unfed starts h =
    by (at_last asks_round xs) (subst (λ (o : Split). list_any is_heard (from_first asks_settle (since_last o (xs ++ ns))) ≡ false) (last_longer asks_round xs ns unfed) h) where
      by : (o : Split) → list_any is_heard (from_first asks_settle (since_last (longer asks_round ns o) (xs ++ ns))) ≡ false → list_any is_heard ns ≡ false
      by None z = from_settle xs ns starts z
      by (Some p) z = from_settle p.1 ns starts z

-- a pass that asked for a feed is silent where the lines end so
pub fed_silent : (before settles rest : List Notice) (n : Notice) → AreUnfed settles → StartsSettling settles → asks_round n ≡ true → AreUnfed rest → ends_silent ((before ++ settles) ++ n ∷ rest) ≡ true → list_any is_heard (settles ++ n ∷ rest) ≡ false
fed_silent before settles rest n unfed starts asks none e =
    let z : (not (list_any is_heard (before_feed (before ++ settles))) && not (list_any is_heard (n ∷ rest))) ≡ true = subst (λ (o : Split). is_silent_by o ≡ true) (last_here asks_round (before ++ settles) rest n asks none) e in
    both_none is_heard settles (n ∷ rest) (before_silent before settles unfed starts (not_true (list_any is_heard (before_feed (before ++ settles))) (left_true (not (list_any is_heard (before_feed (before ++ settles)))) (not (list_any is_heard (n ∷ rest))) z)))
    (not_true (list_any is_heard (n ∷ rest)) (right_true (not (list_any is_heard (before_feed (before ++ settles)))) (not (list_any is_heard (n ∷ rest))) z))

-- one that asked for none is not
pub unfed_loud : (before rest : List Notice) → AreUnfed rest → list_any is_heard rest ≡ true → ends_silent (before ++ rest) ≡ true → ⊥
unfed_loud before rest unfed loud e = by (at_last asks_round before) (subst (λ (o : Split). is_silent_by o ≡ true) (last_longer asks_round before rest unfed) e) where
  by : (o : Split) → is_silent_by (longer asks_round rest o) ≡ true → ⊥
  by None z = no_way z
  by (Some p) z = no_way (sym (right_none is_heard p.1 rest (not_true (list_any is_heard (p.1 ++ rest)) (right_true (not (list_any is_heard (before_feed p.0))) (not (list_any is_heard (p.1 ++ rest))) z))) ∙ loud)
