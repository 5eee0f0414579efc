-- What a restart may end with, and a crash.
use Rattle.std.proofs.Common.{◌≡◌, ◌⊎◌, ℕ, suc, Bool, true, false, List, [], ◌∷◌, ◌++◌, length, nat_lt, reverse, refl, sym, ◌∙◌, ap, subst, inl, inr, filter}
use Rattle.std.proofs.lemmas.List.{length-reverse, reverse-append}
use Rattle.cf_base.specs.declared.answers.OpenedBook.{OpenedBook}
use Rattle.cf_base.specs.declared.answers.Shown.{Shown}
use Rattle.cf_base.specs.declared.answers.Shown.TheVariants as shown
use Rattle.cf_base.specs.declared.codes.Code.TheVariants as code
use Rattle.cf_model.specs.Arrows.{Arrow, choose, noted, ret, then_do}
use Rattle.cf_model.specs.Books.{Book}
use Rattle.cf_model.specs.Numbers.{most}
use Rattle.cf_model.specs.Points.{ArePoints, HasPoints, Opens}
use Rattle.cf_model.specs.Restarts.{crash, crashed, epoch_after, more_epochs, open_in, one_of, open_point, open_points, open_skipping, points_at, restart, restart_by, resumed, with_opened}
use Rattle.cf_model.specs.State.{Broken, Off, On, Point, Power, State}
use Rattle.cf_model.specs.Trees.{Ends, Stops}
use Rattle.cf_model.specs.Words.{counting}
use Rattle.cf_check_ways.specs.Ways.{core_of, Alike, BothResumed, IsSure, SameEnd, fixed_state, of_state}
use Rattle.cf_check_ways.proofs.Sure.{plain_quiet, sure_noted, sure_ret, sure_then}

pub crash_sure : IsSure of_state crash
crash_sure = sure_then of_state (noted crashed) (ret shown.Done) (sure_noted of_state crashed (plain_quiet of_state crashed (λ s. refl) (λ s. refl) (λ s. refl) (λ s. refl) (λ s. refl) (λ s. refl))) (sure_ret of_state shown.Done)

-- a restart over a volume that was off

pub ends_one_of : {X : Type 0} (f : X → Arrow State Shown) (x : X) (xs : List X) (s : State) (a : Shown) (t : State) → Ends (one_of f x xs s) a t → (y : X) × Ends (f y s) a t
ends_one_of f x [] s a t h = (x, h)
ends_one_of f x (y ∷ ys) s a t (inl h) = (x, h)
ends_one_of f x (y ∷ ys) s a t (inr h) = ends_one_of f y ys s a t h

-- the epochs are used up, or the point was opened
pub opened_in : (p : Point) (epoch : ℕ) (s : State) (a : Shown) (t : State) (none : Bool) → Ends (choose none (ret (shown.Refused code.Exhausted)) (then_do (noted (with_opened p epoch)) (ret (resumed p))) s) a t
    → ((none ≡ true) × (a ≡ shown.Refused code.Exhausted) × (t ≡ s)) ⊎ ((none ≡ false) × (a ≡ resumed p) × (t ≡ with_opened p epoch s))
opened_in p epoch s a t true h = inl (refl, h.0, h.1)
opened_in p epoch s a t false h = inr (refl, h.0, h.1)

-- the point that was opened is one of these
abbrev Opened : State → List Point → Shown → State → Type 0
Opened s ps a t = ((nat_lt most (epoch_after 0 s) ≡ true) × (a ≡ shown.Refused code.Exhausted) × (t ≡ s))
    ⊎ ((nat_lt most (epoch_after 0 s) ≡ false) × ((p : Point) × (a ≡ resumed p) × (t ≡ with_opened p (epoch_after 0 s) s) × Opens ps p))

opened_at_point : (s : State) (ps : List Point) (p : Point) (a : Shown) (t : State) → Opens ps p → s.failed_opens ≡ 0 → Ends (open_point p s) a t → Opened s ps a t
opened_at_point s ps p a t is none h =
    let first : Ends (one_of (open_skipping p) 0 [] s) a t = subst (λ (n : ℕ). Ends (one_of (open_skipping p) 0 (counting 1 n) s) a t) none h in
    elim (opened_in p (epoch_after 0 s) s a t (nat_lt most (epoch_after 0 s)) first) as (λ _. Opened s ps a t) [ inl x ↦ inl x | inr x ↦ inr (x.0, (p, x.1, x.2, is)) ]

pub ends_one_point : (p : Point) (ps : List Point) (s : State) (a : Shown) (t : State) → Ends (one_of open_point p ps s) a t → (q : Point) × Opens (p ∷ ps) q × Ends (open_point q s) a t
ends_one_point p [] s a t h = (p, inl refl, h)
ends_one_point p (q ∷ ps) s a t (inl h) = (p, inl refl, h)
ends_one_point p (q ∷ ps) s a t (inr h) = let x = ends_one_point q ps s a t h in (x.0, inr x.1, x.2)

opened_of_points : (s : State) (ps : List Point) (a : Shown) (t : State) → (ps ≡ [] → ⊥) → s.failed_opens ≡ 0 → Ends (open_points ps s) a t → Opened s ps a t
opened_of_points s [] a t some none h = absurd (some refl)
opened_of_points s (p ∷ ps) a t some none h = let x = ends_one_point p ps s a t h in opened_at_point s (p ∷ ps) x.0 a t x.1 none x.2

-- the last first, they are the same

opens_longer : (p q : Point) (ps : List Point) → Opens (ps ++ q ∷ []) p → (p ≡ q) ⊎ Opens ps p
opens_longer p q [] (inl e) = inl e
opens_longer p q [] (inr h) = absurd h
opens_longer p q (x ∷ xs) (inl e) = inr (inl e)
opens_longer p q (x ∷ xs) (inr h) = elim (opens_longer p q xs h) as (λ _. (p ≡ q) ⊎ Opens (x ∷ xs) p) [ inl e ↦ inl e | inr k ↦ inr (inr k) ]

pub opens_reversed : (p : Point) (ps : List Point) → Opens (reverse ps) p → Opens ps p
opens_reversed p [] h = h
opens_reversed p (q ∷ ps) h = elim (opens_longer p q (reverse ps) (subst (λ (xs : List Point). Opens xs p) (reverse-append (q ∷ []) ps) h)) as (λ _. Opens (q ∷ ps) p) [ inl e ↦ inl e | inr k ↦ inr (opens_reversed p ps k) ]

no_longer_empty : (p : Point) (ps : List Point) → reverse (p ∷ ps) ≡ [] → ⊥
no_longer_empty p ps e = let n : length (reverse (p ∷ ps)) ≡ length (p ∷ ps) = length-reverse (p ∷ ps) in let z : 0 ≡ suc (length ps) = sym (ap (λ (xs : List Point). length xs) e) ∙ n in absurd cc

some_points : (n : ℕ) (ps : List Point) → ArePoints n ps → reverse ps ≡ [] → ⊥
some_points n [] h e = h
some_points n (p ∷ ps) h e = no_longer_empty p ps e

-- at points of one count and one book both are alike
abbrev of_count : ℕ → Book → Point
of_count count book = record { sure = true; count = count; book = book }

pub same_opened : (s o : State) (a b : Shown) (t u : State) → Alike of_state s o → (r : BothResumed s o a b t u) → r.point.count ≡ r.other.count → r.point.book ≡ r.other.book → SameEnd of_state a t b u
same_opened s o a b t u e r counts books = (
  r.resumes ∙ ap (λ (n : ℕ). resumed (of_count n r.point.book)) counts ∙ ap (λ (k : Book). resumed (of_count r.other.count k)) books ∙ sym r.resumes_too,
  ap fixed_state r.left
      ∙ ap (λ (n : ℕ). fixed_state (with_opened (of_count n r.point.book) (epoch_after 0 s) s)) counts
      ∙ ap (λ (k : Book). fixed_state (with_opened (of_count r.other.count k) (epoch_after 0 s) s)) books
      ∙ ap (λ (x : State). fixed_state (with_opened (of_count r.other.count r.other.book) (epoch_after 0 x) x)) e
      ∙ ap fixed_state (sym r.left_too),
)

-- the same end, which leaves the volumes as they were
abbrev pub BothRefused : State → State → Shown → Shown → State → State → Type 0
BothRefused s o a b t u = SameEnd of_state a t b u × (core_of t.filter.volume ≡ core_of s.filter.volume) × (core_of u.filter.volume ≡ core_of o.filter.volume)

core_as : (t s : State) → t ≡ s → core_of t.filter.volume ≡ core_of s.filter.volume
core_as t s e = ap (λ (x : State). core_of x.filter.volume) e

both_opened : (s o : State) (a b : Shown) (t u : State) → Alike of_state s o → Opened s (points_at s) a t → Opened o (points_at o) b u → BothRefused s o a b t u ⊎ BothResumed s o a b t u
both_opened s o a b t u e (inl x) (inl y) = inl ((x.1 ∙ sym y.1, ap fixed_state x.2 ∙ e ∙ ap fixed_state (sym y.2)), core_as t s x.2, core_as u o y.2)
both_opened s o a b t u e (inl x) (inr y) = let z : true ≡ false = sym x.0 ∙ ap (λ (k : State). nat_lt most (epoch_after 0 k)) e ∙ y.0 in absurd cc
both_opened s o a b t u e (inr x) (inl y) = let z : false ≡ true = sym x.0 ∙ ap (λ (k : State). nat_lt most (epoch_after 0 k)) e ∙ y.0 in absurd cc
both_opened s o a b t u e (inr x) (inr y) =
    inr (record {
      point = x.1.0;
      other = y.1.0;
      opens = opens_reversed x.1.0 s.filter.volume.points x.1.3;
      opens_too = opens_reversed y.1.0 o.filter.volume.points y.1.3;
      resumes = x.1.1;
      resumes_too = y.1.1;
      left = x.1.2;
      left_too = y.1.2;
    })

-- two restarts, where none failed since the last opening
pub restart_both : (s o : State) → Alike of_state s o → s.failed_opens ≡ 0 → HasPoints s.filter.volume → HasPoints o.filter.volume → (a b : Shown) (t u : State)
    → Ends (restart s) a t → Ends (restart o) b u → BothRefused s o a b t u ⊎ BothResumed s o a b t u
restart_both s o e none has has_too a b t u h k = by s.power o.power (ap (λ (x : State). x.power) e) h k
  where
    unchanged : (a ≡ shown.Refused code.Running) × (t ≡ s) → (b ≡ shown.Refused code.Running) × (u ≡ o) → BothRefused s o a b t u
    unchanged h k = ((h.0 ∙ sym k.0, ap fixed_state h.1 ∙ e ∙ ap fixed_state (sym k.1)), core_as t s h.1, core_as u o k.1)

    by : (w v : Power) → w ≡ v → Ends (restart_by w s) a t → Ends (restart_by v o) b u → BothRefused s o a b t u ⊎ BothResumed s o a b t u
    by Off Off same h k =
        both_opened s o a b t u e (opened_of_points s (points_at s) a t (some_points (length s.filter.volume.log) s.filter.volume.points has) none h)
        (opened_of_points o (points_at o) b u (some_points (length o.filter.volume.log) o.filter.volume.points has_too) (sym (ap (λ (x : State). x.failed_opens) e) ∙ none) k)
    by On On same h k = inl (unchanged h k)
    by Broken Broken same h k = inl (unchanged h k)
    by Off On same h k = let z : Off ≡ On = same in absurd cc
    by Off Broken same h k = let z : Off ≡ Broken = same in absurd cc
    by On Off same h k = let z : On ≡ Off = same in absurd cc
    by On Broken same h k = let z : On ≡ Broken = same in absurd cc
    by Broken On same h k = let z : Broken ≡ On = same in absurd cc
    by Broken Off same h k = let z : Broken ≡ Off = same in absurd cc

pub restart_one : (s o : State) → Alike of_state s o → s.failed_opens ≡ 0 → HasPoints s.filter.volume → HasPoints o.filter.volume → (a b : Shown) (t u : State)
    → Ends (restart s) a t → Ends (restart o) b u → SameEnd of_state a t b u ⊎ BothResumed s o a b t u
restart_one s o e none has has_too a b t u h k = elim (restart_both s o e none has has_too a b t u h k) as (λ _. SameEnd of_state a t b u ⊎ BothResumed s o a b t u) [ inl x ↦ inl x.0 | inr x ↦ inr x ]

-- a restart sends nothing

opened_sends : (p : Point) (epoch : ℕ) (s : State) (a : Shown) (t : State) → Ends (open_in p epoch s) a t → t.link ≡ s.link
opened_sends p epoch s a t h = elim (opened_in p epoch s a t (nat_lt most epoch) h) as (λ _. t.link ≡ s.link) [ inl x ↦ ap (λ (z : State). z.link) x.2 | inr x ↦ ap (λ (z : State). z.link) x.2 ]

points_send : (ps : List Point) (s : State) (a : Shown) (t : State) → Ends (open_points ps s) a t → t.link ≡ s.link
points_send [] s a t h = ap (λ (z : State). z.link) h.1
points_send (p ∷ ps) s a t h =
    let x = ends_one_of open_point p ps s a t h in
    let y = ends_one_of (open_skipping x.0) 0 (more_epochs s) s a t x.1 in
    opened_sends x.0 (epoch_after y.0 s) s a t y.1

pub restart_sends : (s : State) (a : Shown) (t : State) → Ends (restart s) a t → t.link ≡ s.link
restart_sends s a t h = by s.power h
  where
    by : (w : Power) → Ends (restart_by w s) a t → t.link ≡ s.link
    by Off h = points_send (points_at s) s a t h
    by On h = ap (λ (z : State). z.link) h.1
    by Broken h = ap (λ (z : State). z.link) h.1

-- after a restart no opening has failed, where none had before

opened_afresh : (p : Point) (epoch : ℕ) (s : State) (a : Shown) (t : State) → s.failed_opens ≡ 0 → Ends (open_in p epoch s) a t → t.failed_opens ≡ 0
opened_afresh p epoch s a t none h =
    elim (opened_in p epoch s a t (nat_lt most epoch) h) as (λ _. t.failed_opens ≡ 0) [ inl x ↦ ap (λ (z : State). z.failed_opens) x.2 ∙ none | inr x ↦ ap (λ (z : State). z.failed_opens) x.2 ]

points_afresh : (ps : List Point) (s : State) (a : Shown) (t : State) → s.failed_opens ≡ 0 → Ends (open_points ps s) a t → t.failed_opens ≡ 0
points_afresh [] s a t none h = ap (λ (z : State). z.failed_opens) h.1 ∙ none
points_afresh (p ∷ ps) s a t none h =
    let x = ends_one_of open_point p ps s a t h in
    let y = ends_one_of (open_skipping x.0) 0 (more_epochs s) s a t x.1 in
    opened_afresh x.0 (epoch_after y.0 s) s a t none y.1

pub restart_afresh : (s : State) (a : Shown) (t : State) → s.failed_opens ≡ 0 → Ends (restart s) a t → t.failed_opens ≡ 0
restart_afresh s a t none h = by s.power h
  where
    by : (w : Power) → Ends (restart_by w s) a t → t.failed_opens ≡ 0
    by Off h = points_afresh (points_at s) s a t none h
    by On h = ap (λ (z : State). z.failed_opens) h.1 ∙ none
    by Broken h = ap (λ (z : State). z.failed_opens) h.1 ∙ none

-- a restart that the device stops tells nothing

points_run : (ps : List Point) (s t : State) → Stops (open_points ps s) t → ⊥
points_run [] s t h = h
points_run (p ∷ ps) s t h = none open_point p ps (λ q. λ g. none (open_skipping q) 0 (more_epochs s) (λ n. λ k. in_run q (epoch_after n s) (nat_lt most (epoch_after n s)) k) g) h
  where
    none : {X : Type 0} (f : X → Arrow State Shown) (x : X) (xs : List X) → ((y : X) → Stops (f y s) t → ⊥) → Stops (one_of f x xs s) t → ⊥
    none f x [] each h = each x h
    none f x (y ∷ ys) each (inl h) = each x h
    none f x (y ∷ ys) each (inr h) = none f y ys each h

    in_run : (q : Point) (epoch : ℕ) (full : Bool) → Stops (choose full (ret (shown.Refused code.Exhausted)) (then_do (noted (with_opened q epoch)) (ret (resumed q))) s) t → ⊥
    in_run q epoch true h = h
    in_run q epoch false h = h

pub restart_quiet : (s t : State) → Stops (restart s) t → t.filter.notes ≡ s.filter.notes
restart_quiet s t h = by s.power h
  where
    by : (w : Power) → Stops (restart_by w s) t → t.filter.notes ≡ s.filter.notes
    by Off (inl e) = ap (λ (z : State). z.filter.notes) e
    by Off (inr h) = absurd (points_run (points_at s) s t h)
    by On h = absurd h
    by Broken h = absurd h

-- nor does one that ends
points_lines : (ps : List Point) (s : State) (a : Shown) (t : State) → s.filter.notes ≡ [] → Ends (open_points ps s) a t → t.filter.notes ≡ []
points_lines [] s a t none h = ap (λ (z : State). z.filter.notes) h.1 ∙ none
points_lines (p ∷ ps) s a t none h =
    let x = ends_one_of open_point p ps s a t h in
    let y = ends_one_of (open_skipping x.0) 0 (more_epochs s) s a t x.1 in
    elim (opened_in x.0 (epoch_after y.0 s) s a t (nat_lt most (epoch_after y.0 s)) y.1) as (λ _. t.filter.notes ≡ []) [ inl z ↦ ap (λ (w : State). w.filter.notes) z.2 ∙ none | inr z ↦ ap (λ (w : State). w.filter.notes) z.2 ]

pub restart_lines : (s : State) (a : Shown) (t : State) → s.filter.notes ≡ [] → Ends (restart s) a t → t.filter.notes ≡ []
restart_lines s a t none h = by s.power h
  where
    by : (w : Power) → Ends (restart_by w s) a t → t.filter.notes ≡ []
    by Off h = points_lines (points_at s) s a t none h
    by On h = ap (λ (z : State). z.filter.notes) h.1 ∙ none
    by Broken h = ap (λ (z : State). z.filter.notes) h.1 ∙ none

-- one that resumed has opened a point

points_opened : (ps : List Point) (s : State) (a : Shown) (t : State) (n : ℕ) (k : OpenedBook) → Ends (open_points ps s) a t → a ≡ shown.Resumed n k → (p : Point) × (epoch : ℕ) × (t ≡ with_opened p epoch s)
points_opened [] s a t n k h is = let z : shown.Refused code.NotAVolume ≡ shown.Resumed n k = sym h.0 ∙ is in absurd cc
points_opened (p ∷ ps) s a t n k h is =
    let x = ends_one_of open_point p ps s a t h in
    let y = ends_one_of (open_skipping x.0) 0 (more_epochs s) s a t x.1 in
    elim (opened_in x.0 (epoch_after y.0 s) s a t (nat_lt most (epoch_after y.0 s)) y.1) as (λ _. (q : Point) × (epoch : ℕ) × (t ≡ with_opened q epoch s)) [
      | inl z ↦ let w : shown.Refused code.Exhausted ≡ shown.Resumed n k = sym z.1 ∙ is in absurd cc
      | inr z ↦ (x.0, epoch_after y.0 s, z.2)
    ]

pub opened_by : (s : State) (a : Shown) (t : State) (n : ℕ) (k : OpenedBook) → Ends (restart s) a t → a ≡ shown.Resumed n k → (p : Point) × (epoch : ℕ) × (t ≡ with_opened p epoch s)
opened_by s a t n k h is = by s.power h
  where
    by : (w : Power) → Ends (restart_by w s) a t → (p : Point) × (epoch : ℕ) × (t ≡ with_opened p epoch s)
    by Off h = points_opened (points_at s) s a t n k h is
    by On h = let z : shown.Refused code.Running ≡ shown.Resumed n k = sym h.0 ∙ is in absurd cc
    by Broken h = let z : shown.Refused code.Running ≡ shown.Resumed n k = sym h.0 ∙ is in absurd cc
