-- What the parts of `Restarts` keep, each by what its own parts keep.
use Rattle.std.proofs.Common.{◌≡◌, ◌⊎◌, List, [], ◌∷◌, ◌++◌, reverse, refl, subst, inl, inr}
use Rattle.std.proofs.lemmas.List.{reverse-append}
use Rattle.cf_model.specs.Points.{Opens}
use Rattle.cf_model.specs.Trees.{Keeps}
use Rattle.cf_base.specs.declared.answers.Shown.{Shown}
use Rattle.cf_base.specs.declared.answers.Shown.TheVariants as shown
use Rattle.cf_base.specs.declared.codes.Code.TheVariants as code
use Rattle.cf_model.specs.Arrows.{Arrow, noted, ret}
use Rattle.cf_model.specs.State.{Off, Point, Power, State}
use Rattle.cf_model.specs.Restarts.{crash, crashed, more_epochs, one_of, open_point, open_points, open_skipping, open_volume, points_at, power_of, restart, restart_by}
use Rattle.cf_model.proofs.Closed.{Closed}
use Rattle.cf_model.proofs.ArrowLaws.{keeps_noted, keeps_reading, keeps_ret, keeps_then}
use Rattle.cf_model.specs.Arrows.{Preserves}

pub crash_keeps : (P : State → Type 0) → Closed P → Preserves P (crash)
crash_keeps P closed = keeps_then P (noted crashed) (ret shown.Done) (keeps_noted P crashed (closed.keeps_crashed)) (keeps_ret P shown.Done)

-- one of these
abbrev In : {X : Type 0} → X → List X → Type 0
In y [] = ⊥
In y (x ∷ xs) = (y ≡ x) ⊎ In y xs

one_of_at : {X : Type 0} → (P : State → Type 0) (f : X → Arrow State Shown) (s : State) (x : X) (xs : List X) → ((y : X) → In y (x ∷ xs) → Keeps P (f y s)) → Keeps P (one_of f x xs s)
one_of_at P f s x [] h = h x (inl refl)
one_of_at P f s x (y ∷ ys) h = (h x (inl refl), one_of_at P f s y ys (λ z i. h z (inr i)))

in_longer : (p q : Point) (ps : List Point) → In p (ps ++ q ∷ []) → (p ≡ q) ⊎ In p ps
in_longer p q [] (inl e) = inl e
in_longer p q [] (inr h) = elim h as (λ _. (p ≡ q) ⊎ In p []) [ ]
in_longer p q (x ∷ xs) (inl e) = inr (inl e)
in_longer p q (x ∷ xs) (inr h) = elim (in_longer p q xs h) as (λ _. (p ≡ q) ⊎ In p (x ∷ xs)) [ inl e ↦ inl e | inr k ↦ inr (inr k) ]

in_reversed : (p : Point) (ps : List Point) → In p (reverse ps) → Opens ps p
in_reversed p [] h = h
in_reversed p (q ∷ ps) h = elim (in_longer p q (reverse ps) (subst (λ (xs : List Point). In p xs) (reverse-append (q ∷ []) ps) h)) as (λ _. Opens (q ∷ ps) p) [ inl e ↦ inl e | inr k ↦ inr (in_reversed p ps k) ]

-- each point that may be opened, after as many epochs as may be
open_point_at : (P : State → Type 0) → Closed P → (s : State) (p : Point) → Opens s.filter.volume.points p → P s → Keeps P (open_point p s)
open_point_at P closed s p is h = one_of_at P (open_skipping p) s 0 (more_epochs s) (λ n _. closed.opens s p n is h)

open_points_at : (P : State → Type 0) → Closed P → (s : State) (ps : List Point) → ((p : Point) → In p ps → Opens s.filter.volume.points p) → P s → Keeps P (open_points ps s)
open_points_at P closed s [] is h = h
open_points_at P closed s (p ∷ ps) is h = one_of_at P open_point s p ps (λ q i. open_point_at P closed s q (is q i) h)

pub open_volume_keeps : (P : State → Type 0) → Closed P → Preserves P open_volume
open_volume_keeps P closed = record { keeps = λ s h. (closed.keeps_failed_open s h, open_points_at P closed s (points_at s) (λ p i. in_reversed p s.filter.volume.points i) h) }

pub restart_by_keeps : (P : State → Type 0) → Closed P → (x1 : Power) → Preserves P (restart_by x1)
restart_by_keeps P closed Off = open_volume_keeps P closed
restart_by_keeps P closed _ = keeps_ret P (shown.Refused code.Running)

pub restart_keeps : (P : State → Type 0) → Closed P → Preserves P (restart)
restart_keeps P closed = keeps_reading P power_of restart_by (restart_by_keeps P closed)
