-- A restart that resumes keeps some first changes.
use Rattle.std.proofs.lemmas.List.{reverse-append}
use Rattle.std.proofs.Common.{◌++◌, length, reverse, ◌≡◌, ℕ, Bool, true, false, List, [], ◌∷◌, take, nat_lt, refl, sym, ◌∙◌, ap, inl, inr}
use Rattle.cf_base.specs.declared.answers.Answer.{Answer}
use Rattle.cf_base.specs.declared.events.Event.{Event}
use Rattle.cf_base.specs.declared.policies.Mode.{Mode}
use Rattle.cf_model.specs.Store.{Held}
use Rattle.cf_model.proofs.PointLaws.{started_with_points}
use Rattle.cf_base.specs.declared.answers.OpenedBook.{OpenedBook}
use Rattle.cf_base.specs.declared.answers.Shown.{Shown}
use Rattle.cf_base.specs.declared.answers.Shown.TheVariants as shown
use Rattle.cf_base.specs.declared.codes.Code.{Code}
use Rattle.cf_base.specs.declared.codes.Code.TheVariants as code
use Rattle.cf_base.specs.declared.events.DeviceEvent.TheVariants as device
use Rattle.cf_base.specs.declared.events.Event.TheVariants as event
use Rattle.cf_model.specs.Arrows.{Arrow, choose, noted, ret, then_do}
use Rattle.cf_model.specs.Events.{begun, tree_of}
use Rattle.cf_model.specs.Lawful.{Runs}
use Rattle.cf_model.specs.Numbers.{most}
use Rattle.cf_model.specs.Points.{ArePoints, HasPoints}
use Rattle.cf_model.specs.Restarts.{epoch_after, more_epochs, one_of, open_point, open_points, open_skipping, points_at, restart_by, resumed, with_opened}
use Rattle.cf_model.specs.State.{Broken, Off, On, Point, Power, State, start}
use Rattle.cf_model.specs.Trees.{Ends}

-- where the result is `resumed`, the log is the first changes of this state, as many as it says
IsFront : State → Shown → State → Type 0
IsFront s r t = (n : ℕ) (opened : OpenedBook) → r ≡ shown.Resumed n opened → t.filter.volume.log ≡ take n s.filter.volume.log

front_of_one : {X : Type 0} (f : X → Arrow State Shown) (first s : State) (x : X) (xs : List X) → ((y : X) (r : Shown) (t : State) → Ends (f y s) r t → IsFront first r t) → (r : Shown) (t : State) → Ends (one_of f x xs s) r t → IsFront first r t
front_of_one f first s x [] h r t e = h x r t e
front_of_one f first s x (y ∷ ys) h r t (inl e) = h x r t e
front_of_one f first s x (y ∷ ys) h r t (inr e) = front_of_one f first s y ys h r t e

not_resumed : (first : State) (r : Shown) (t : State) (c : Code) → r ≡ shown.Refused c → IsFront first r t
unfolding IsFront
not_resumed first r t c e n opened f = let z : ◌≡◌ {A = Shown} (shown.Refused c) (shown.Resumed n opened) = sym e ∙ f in cc

counts_agree : (n m : ℕ) (a b : OpenedBook) → ◌≡◌ {A = Shown} (shown.Resumed n a) (shown.Resumed m b) → n ≡ m
counts_agree n m a b e = cc

front_of_opened : (s : State) (p : Point) (skipped : ℕ) (none : Bool) (r : Shown) (t : State)
    → Ends (choose none (ret (shown.Refused code.Exhausted)) (then_do (noted (with_opened p (epoch_after skipped s))) (ret (resumed p))) s) r t → IsFront s r t
unfolding IsFront
front_of_opened s p skipped true r t (e, f) = not_resumed s r t code.Exhausted e
front_of_opened s p skipped false r t (e, f) = λ n opened g. rw f (ap (λ (k : ℕ). take k s.filter.volume.log) (counts_agree p.count n _ opened (sym e ∙ g)))

front_of_skipping : (s : State) (p : Point) (skipped : ℕ) (r : Shown) (t : State) → Ends (open_skipping p skipped s) r t → IsFront s r t
front_of_skipping s p skipped r t e = front_of_opened s p skipped (nat_lt most (epoch_after skipped s)) r t e

front_of_point : (s : State) (p : Point) (r : Shown) (t : State) → Ends (open_point p s) r t → IsFront s r t
front_of_point s p r t e = front_of_one (open_skipping p) s s 0 (more_epochs s) (front_of_skipping s p) r t e

front_of_points : (s : State) (ps : List Point) (r : Shown) (t : State) → Ends (open_points ps s) r t → IsFront s r t
front_of_points s [] r t (e, f) = not_resumed s r t code.NotAVolume e
front_of_points s (p ∷ ps) r t e = front_of_one open_point s s p ps (front_of_point s) r t e

front_by_power : (s : State) (power : Power) (r : Shown) (t : State) → Ends (restart_by power s) r t → IsFront s r t
front_by_power s Off r t e = front_of_points s (points_at s) r t e
front_by_power s On r t (e, f) = not_resumed s r t code.Running e
front_by_power s Broken r t (e, f) = not_resumed s r t code.Running e

pub resumed_front : (s : State) (n : ℕ) (opened : OpenedBook) (t : State) → Ends (tree_of (event.Device device.Restart) s) (shown.Resumed n opened) t → t.filter.volume.log ≡ take n s.filter.volume.log
unfolding IsFront
resumed_front s n opened t e = front_by_power (begun s) s.power (shown.Resumed n opened) t e n opened refl

-- where there are points a restart is not refused as no volume

IsVolume : Shown → Type 0
IsVolume r = r ≡ shown.Refused code.NotAVolume → ⊥

volume_of_one : {X : Type 0} (f : X → Arrow State Shown) (s : State) (x : X) (xs : List X) → ((y : X) (r : Shown) (t : State) → Ends (f y s) r t → IsVolume r) → (r : Shown) (t : State) → Ends (one_of f x xs s) r t → IsVolume r
volume_of_one f s x [] h r t e = h x r t e
volume_of_one f s x (y ∷ ys) h r t (inl e) = h x r t e
volume_of_one f s x (y ∷ ys) h r t (inr e) = volume_of_one f s y ys h r t e

volume_of_opened : (s : State) (p : Point) (skipped : ℕ) (none : Bool) (r : Shown) (t : State)
    → Ends (choose none (ret (shown.Refused code.Exhausted)) (then_do (noted (with_opened p (epoch_after skipped s))) (ret (resumed p))) s) r t → IsVolume r
unfolding IsVolume
volume_of_opened s p skipped true r t (e, f) = λ g. let z : ◌≡◌ {A = Shown} (shown.Refused code.Exhausted) (shown.Refused code.NotAVolume) = sym e ∙ g in cc
volume_of_opened s p skipped false r t (e, f) = λ g. let z : ◌≡◌ {A = Shown} (resumed p) (shown.Refused code.NotAVolume) = sym e ∙ g in cc

volume_of_point : (s : State) (p : Point) (r : Shown) (t : State) → Ends (open_point p s) r t → IsVolume r
volume_of_point s p r t e = volume_of_one (open_skipping p) s 0 (more_epochs s) (λ n q u k. volume_of_opened s p n (nat_lt most (epoch_after n s)) q u k) r t e

volume_of_points : (s : State) (ps more : List Point) (q : Point) → ps ≡ more ++ q ∷ [] → (r : Shown) (t : State) → Ends (open_points ps s) r t → IsVolume r
volume_of_points s [] more q is r t e = elim (some more is) as (λ _. IsVolume r) [ ] where
  some : (more : List Point) → [] ≡ more ++ q ∷ [] → ⊥
  some [] is = cc
  some (x ∷ xs) is = cc
volume_of_points s (p ∷ ps) more q is r t e = volume_of_one open_point s p ps (volume_of_point s) r t e

volume_of_some : (s : State) (n : ℕ) (ps : List Point) → ArePoints n ps → (r : Shown) (t : State) → Ends (open_points (reverse ps) s) r t → IsVolume r
volume_of_some s n [] h r t e = elim h as (λ _. IsVolume r) [ ]
volume_of_some s n (q ∷ ps) h r t e = volume_of_points s (reverse (q ∷ ps)) (reverse ps) q (reverse-append (q ∷ []) ps) r t e

volume_by_power : (s : State) (power : Power) → HasPoints s.filter.volume → (r : Shown) (t : State) → Ends (restart_by power s) r t → IsVolume r
unfolding IsVolume
volume_by_power s Off h r t e = volume_of_some s (length s.filter.volume.log) s.filter.volume.points h r t e
volume_by_power s On h r t (e, f) = λ g. let z : ◌≡◌ {A = Shown} (shown.Refused code.Running) (shown.Refused code.NotAVolume) = sym e ∙ g in cc
volume_by_power s Broken h r t (e, f) = λ g. let z : ◌≡◌ {A = Shown} (shown.Refused code.Running) (shown.Refused code.NotAVolume) = sym e ∙ g in cc

-- a restart in a run finds a volume
pub restart_finds : (m : Mode) (remote : Held) (clusters : ℕ) (trace : List (Event × Answer)) (s : State) (r : Shown) (t : State)
    → Runs m (start m remote clusters) trace s → Ends (tree_of (event.Device device.Restart) s) r t → r ≡ shown.Refused code.NotAVolume → ⊥
unfolding IsVolume
restart_finds m remote clusters trace s r t h e = volume_by_power (begun s) s.power (started_with_points m remote clusters trace s h) r t e
