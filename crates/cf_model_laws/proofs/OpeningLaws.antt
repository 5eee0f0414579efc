-- What a restart opens, and what it keeps.
use Rattle.std.proofs.Common.{◌≡◌, ◌⊎◌, ◌≤◌, ℕ, zero, suc, Bool, true, false, List, [], ◌∷◌, ◌++◌, reverse, length, take, refl, sym, ◌∙◌, ap, subst, inl, inr, nat_lt, arith}
use Rattle.std.specs.Prelude.{Option, Some, None}
use Rattle.std.proofs.lemmas.List.{reverse-append}
use Rattle.cf_base.specs.declared.answers.Answer.{Answer}
use Rattle.cf_base.specs.declared.answers.OpenedBook.{OpenedBook}
use Rattle.cf_base.specs.declared.answers.Shown.{Shown}
use Rattle.cf_base.specs.declared.answers.Shown.TheVariants as shown
use Rattle.cf_base.specs.declared.calls.Call.TheVariants as call
use Rattle.cf_base.specs.declared.changes.Change.{Change}
use Rattle.cf_base.specs.declared.codes.Code.TheVariants as code
use Rattle.cf_base.specs.declared.events.Event.{Event}
use Rattle.cf_base.specs.declared.events.Event.TheVariants as event
use Rattle.cf_base.specs.declared.ids.Usn.{Usn}
use Rattle.cf_base.specs.declared.policies.Mode.{Mode}
use Rattle.cf_model.specs.Arrows.{Arrow, choose, noted, ret, then_do}
use Rattle.cf_model.specs.Books.{opened_of}
use Rattle.cf_model.specs.Events.{begun, outcome, tree_of}
use Rattle.cf_model.specs.Flushed.{AtLeast}
use Rattle.cf_model.specs.Lawful.{IsStep, Runs}
use Rattle.cf_model.specs.Numbers.{most}
use Rattle.cf_model.specs.Points.{Opens}
use Rattle.cf_model.specs.Restarts.{epoch_after, failed_open, more_epochs, one_of, open_point, open_points, open_skipping, points_at, restart_by, resumed, with_opened}
use Rattle.cf_model.specs.State.{Broken, Off, On, Point, Power, State}
use Rattle.cf_model.specs.Trees.{Ends, play}
use Rattle.cf_model.proofs.FlushedLaws.{flushed_stays}
use Rattle.cf_model_laws.specs.Openings.{IsKeptIn, IsOpened, restarting}
use Rattle.cf_model_laws.proofs.Leading.{Ended, Leads, led}

-- one of these
abbrev pub In : {X : Type 0} → X → List X → Type 0
In y [] = ⊥
In y (x ∷ xs) = (y ≡ x) ⊎ In y xs

in_longer : (p q : Point) (ps : List Point) → In p (ps ++ q ∷ []) → (p ≡ q) ⊎ In p ps
in_longer p q [] (inl e) = inl e
in_longer p q [] (inr h) = elim h as (λ _. (p ≡ q) ⊎ In p []) [ ]
in_longer p q (x ∷ xs) (inl e) = inr (inl e)
in_longer p q (x ∷ xs) (inr h) = elim (in_longer p q xs h) as (λ _. (p ≡ q) ⊎ In p (x ∷ xs)) [ inl e ↦ inl e | inr k ↦ inr (inr k) ]

in_reversed : (p : Point) (ps : List Point) → In p (reverse ps) → Opens ps p
in_reversed p [] h = h
in_reversed p (q ∷ ps) h = elim (in_longer p q (reverse ps) (subst (λ (xs : List Point). In p xs) (reverse-append (q ∷ []) ps) h)) as (λ _. Opens (q ∷ ps) p) [ inl e ↦ inl e | inr k ↦ inr (in_reversed p ps k) ]

-- what an opening leads to: the openings of the points that may be opened, after as many epochs as may be, and refusals
pub record Opening (I : State → Type 0) (Q : Shown → State → Type 0) (s : State) : Type 0 where
  pub opens : (p : Point) (skipped : ℕ) → Opens s.filter.volume.points p → nat_lt most (epoch_after skipped s) ≡ false → Q (resumed p) (with_opened p (epoch_after skipped s) s)
  pub refused : (r : Shown) → ((n : ℕ) (opened : OpenedBook) → r ≡ shown.Resumed n opened → ⊥) → Q r s
  pub fails : I (failed_open s)

one_leads : {X : Type 0} (I : State → Type 0) (Q : Shown → State → Type 0) (f : X → Arrow State Shown) (s : State) (x : X) (xs : List X) → ((y : X) → In y (x ∷ xs) → Leads I Q (f y s)) → Leads I Q (one_of f x xs s)
one_leads I Q f s x [] h = h x (inl refl)
one_leads I Q f s x (y ∷ ys) h = (h x (inl refl), one_leads I Q f s y ys (λ z i. h z (inr i)))

skipping_leads : (I : State → Type 0) (Q : Shown → State → Type 0) (s : State) → Opening I Q s → (p : Point) (skipped : ℕ) → Opens s.filter.volume.points p → (none : Bool) → nat_lt most (epoch_after skipped s) ≡ none
    → Leads I Q (choose none (ret (shown.Refused code.Exhausted)) (then_do (noted (with_opened p (epoch_after skipped s))) (ret (resumed p))) s)
skipping_leads I Q s o p skipped is true e = o.refused (shown.Refused code.Exhausted) (λ n opened z. let y : ◌≡◌ {A = Shown} (shown.Refused code.Exhausted) (shown.Resumed n opened) = z in cc)
skipping_leads I Q s o p skipped is false e = o.opens p skipped is e

point_leads : (I : State → Type 0) (Q : Shown → State → Type 0) (s : State) → Opening I Q s → (p : Point) → Opens s.filter.volume.points p → Leads I Q (open_point p s)
point_leads I Q s o p is = one_leads I Q (open_skipping p) s 0 (more_epochs s) (λ n _. skipping_leads I Q s o p n is (nat_lt most (epoch_after n s)) refl)

points_lead : (I : State → Type 0) (Q : Shown → State → Type 0) (s : State) → Opening I Q s → (ps : List Point) → ((p : Point) → In p ps → Opens s.filter.volume.points p) → Leads I Q (open_points ps s)
points_lead I Q s o [] is = o.refused (shown.Refused code.NotAVolume) (λ n opened z. let y : ◌≡◌ {A = Shown} (shown.Refused code.NotAVolume) (shown.Resumed n opened) = z in cc)
points_lead I Q s o (p ∷ ps) is = one_leads I Q open_point s p ps (λ q i. point_leads I Q s o q (is q i))

pub restart_leads : (I : State → Type 0) (Q : Shown → State → Type 0) (s : State) → Opening I Q s → (power : Power) → Leads I Q (restart_by power s)
restart_leads I Q s o Off = (o.fails, points_lead I Q s o (points_at s) (λ p i. in_reversed p s.filter.volume.points i))
restart_leads I Q s o On = o.refused (shown.Refused code.Running) (λ n opened z. let y : ◌≡◌ {A = Shown} (shown.Refused code.Running) (shown.Resumed n opened) = z in cc)
restart_leads I Q s o Broken = o.refused (shown.Refused code.Running) (λ n opened z. let y : ◌≡◌ {A = Shown} (shown.Refused code.Running) (shown.Resumed n opened) = z in cc)

-- the law

abbrev Tells : State → Shown → State → Type 0
Tells s r t = (n : ℕ) (opened : OpenedBook) → r ≡ shown.Resumed n opened → IsOpened s n opened t

resumed_is : (p : Point) (n : ℕ) (opened : OpenedBook) → resumed p ≡ shown.Resumed n opened → (n ≡ p.count) × (opened ≡ opened_of p.book)
resumed_is p n opened e = let z : ◌≡◌ {A = Shown} (shown.Resumed p.count (opened_of p.book)) (shown.Resumed n opened) = e in (let a : n ≡ p.count = cc in a, let b : opened ≡ opened_of p.book = cc in b)

opening_tells : (s : State) → Opening (λ t. Unit {0}) (Tells s) s
opening_tells s = record {
  opens = λ p skipped is small n opened e.
      let z : (n ≡ p.count) × (opened ≡ opened_of p.book) = resumed_is p n opened e in
      record { point = p; opens = is; count = z.0; log = ap (λ (k : ℕ). take k s.filter.volume.log) (sym z.0); book = refl; told = z.1 };
  refused = λ r none n opened e. elim (none n opened e) as (λ _. IsOpened s n opened s) [ ];
  fails = tt;
}

abbrev Shown_so : State → State × Answer → Type 0
Shown_so s x = (n : ℕ) (opened : OpenedBook) → x.1.shown ≡ shown.Resumed n opened → IsOpened s n opened x.0

outcome_tells : (s : State) (x : Option Shown × State) → Ended (λ t. Unit {0}) (Tells s) x → Shown_so s (outcome x)
outcome_tells s (Some r, t) h = h
outcome_tells s (None, t) h = λ n opened e. let y : ◌≡◌ {A = Shown} (shown.Refused code.Device) (shown.Resumed n opened) = e in cc

of_begun : (s : State) (n : ℕ) (opened : OpenedBook) (t : State) → IsOpened (begun s) n opened t → IsOpened s n opened t
of_begun s n opened t h = record { point = h.point; opens = h.opens; count = h.count; log = h.log; book = h.book; told = h.told }

pub step_opens : (m : Mode) (s : State) (a : Answer) (n : ℕ) (opened : OpenedBook) (t : State) → IsStep m s restarting a t → a.shown ≡ shown.Resumed n opened → IsOpened s n opened t
step_opens m s a n opened t is e =
    let h : Shown_so (begun s) (t, a) = subst (λ (x : State × Answer). Shown_so (begun s) x) is.2
    (outcome_tells (begun s) (play is.1 (tree_of restarting s)) (led (λ t. Unit {0}) (Tells (begun s)) is.1 (tree_of restarting s) (restart_leads (λ t. Unit {0}) (Tells (begun s)) (begun s) (opening_tells (begun s)) s.power))) in
    of_begun s n opened t (h n opened e)

at_least : (n : ℕ) (ps : List Point) (p : Point) → AtLeast n ps → Opens ps p → n ≤ p.count
at_least n [] p h is = elim is as (λ _. n ≤ p.count) [ ]
at_least n (q ∷ ps) p h (inl e) = rw e h.0
at_least n (q ∷ ps) p h (inr is) = at_least n ps p h.1 is

take_of_take : (n k : ℕ) (xs : List (Usn × Change)) → n ≤ k → take n (take k xs) ≡ take n xs
take_of_take zero k xs h = refl
take_of_take (suc n) zero xs h = elim (none h) as (λ _. take (suc n) (take zero xs) ≡ take (suc n) xs) [ ] where
  none : suc n ≤ zero → ⊥
  none h = omega (arith, h)
take_of_take (suc n) (suc k) [] h = refl
take_of_take (suc n) (suc k) (x ∷ xs) h = ap (λ (ys : List (Usn × Change)). x ∷ ys) (take_of_take n k xs (less h)) where
  less : suc n ≤ suc k → n ≤ k
  less h = omega (arith, h)

pub flushed_kept : (m : Mode) (first : State) (r : Shown) (flushed : State) (trace : List (Event × Answer)) (s : State) (a : Answer) (n : ℕ) (opened : OpenedBook) (t : State)
    → Ends (tree_of (event.Call call.Flush) first) r flushed → Runs m flushed trace s → IsStep m s restarting a t → a.shown ≡ shown.Resumed n opened → IsKeptIn flushed n t
flushed_kept m first r flushed trace s a n opened t ends runs is e =
    let o : IsOpened s n opened t = step_opens m s a n opened t is e in
    let h = flushed_stays m first r flushed trace s ends runs in
    let k : length flushed.filter.volume.log ≤ n = subst (λ (x : ℕ). length flushed.filter.volume.log ≤ x) (sym o.count) (at_least (length flushed.filter.volume.log) s.filter.volume.points o.point h.2 o.opens) in
    (k, ap (λ (l : List (Usn × Change)). take (length flushed.filter.volume.log) l) o.log ∙ take_of_take (length flushed.filter.volume.log) n s.filter.volume.log k ∙ h.0)
