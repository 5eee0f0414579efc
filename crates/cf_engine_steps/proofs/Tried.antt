-- A step that is done or left out, by why it is refused.
use Rattle.std.proofs.Common.{◌≡◌, ◌+◌, ◌<◌, ℕ, Bool, true, false, List, [], ◌∷◌, refl, sym, ◌∙◌, ap, subst, arith}
use Rattle.std.specs.Prelude.{Result, Ok, Err, Option, Some, None, nat_le, nat_lt}
use Rattle.cf_base.specs.declared.changes.Change.{Change}
use Rattle.cf_base.specs.declared.changes.Change.TheVariants as change
use Rattle.cf_base.specs.declared.codes.Code.{Code}
use Rattle.cf_base.specs.declared.codes.Code.TheVariants as code
use Rattle.cf_base.specs.declared.codes.CallError.{CallError}
use Rattle.cf_engine_steps.specs.Answering.{After, Answers, Any, On, Whole}
use Rattle.cf_engine_steps.specs.States.{Own, whole}
use Rattle.cf_engine_steps.specs.Suited.{IsSuited}
use Rattle.cf_engine_steps.proofs.Laws.{fails_first, goes_any, known, returned}
use Rattle.cf_engine_steps.proofs.Lifting.{lift_filter, quiet_change}
use Rattle.cf_model.specs.Arrows.{Arrow, ret, seq, unless_done}
use Rattle.cf_model.specs.Changes.{change as one_change, why_no_room}
use Rattle.cf_model.specs.LookUp.{depth_at, height_at}
use Rattle.cf_model.specs.Skips.{change_refused, do_change, is_too_deep, left_out, not_done, or_else, skip, tried, try_change, why_no_change}
use Rattle.cf_model.specs.State.{State, Volume}
use Rattle.cf_model.specs.Trees.{Does, bind}
use Rattle.cf_model.specs.Words.{first_of}
use Rattle.cf_remote.specs.Told.{Told}
use Rattle.cf_filter_steps.specs.Answering as steps
use Rattle.cf_filter_steps.specs.Readings.{room_refusal}
use Rattle.cf_filter_steps.specs.Suiting.{Ready, Suiting, Suits}

module _ {X : Type 0} (W : Whole X) (P Q : State → Type 0) (why : State → Option Code) (f : Arrow State (Unit {0})) (old : X) where
  abbrev Leads : (r : Result Bool CallError) → X → State → Option Code → Type 0
  Leads r new s o = (t : State) × Does (bind (unless_done f o s) left_out) r t × W.moved old new s t × After W old r new s t

  pub tried_done : (mid : X) (u : Unit {0}) → ((s : State) → W.means old s → P s → (why s ≡ None) × Q s) → Answers W Q f old (Ok u) mid → Answers W P (tried why f) old (Ok true) mid
  tried_done mid u w h =
      let k : Answers W Q (seq (seq f (λ _. ret None)) left_out) old (Ok true) mid = goes_any W Q (seq f (λ _. ret None)) left_out old mid mid None (Ok true) (goes_any W Q f (λ _. ret None) old mid mid u (Ok None) h (returned W Any None mid)) (returned W Any true mid) in
      record { leads = λ s i p. subst (Leads (Ok true) mid s) (sym (w s i p).0) (k.leads s i (w s i p).1) }

  pub tried_fails : (new : X) (e : CallError) → ((s : State) → W.means old s → P s → (why s ≡ None) × Q s) → Answers W Q f old (Err e) new → Answers W P (tried why f) old (Err e) new
  tried_fails new e w h =
      let k : Answers W Q (seq (seq f (λ _. ret None)) left_out) old (Err e) new = fails_first W Q (seq f (λ _. ret None)) left_out old new e (fails_first W Q f (λ _. ret None) old new e h) in
      record { leads = λ s i p. subst (Leads (Err e) new s) (sym (w s i p).0) (k.leads s i (w s i p).1) }

  pub tried_skips : (new : X) (c : Code) (r : Result Bool CallError) → ((s : State) → W.means old s → P s → why s ≡ Some c) → Answers W Any (seq (skip c) not_done) old r new → Answers W P (tried why f) old r new
  tried_skips new c r w h = record { leads = λ s i p. subst (Leads r new s) (sym (w s i p)) (h.leads s i (record {})) }

-- a change that suits is not too deep

second : (a b d : Bool) (x y z : Code) → first_of ((a, x) ∷ (b, y) ∷ (d, z) ∷ []) ≡ None → b ≡ false
second true b d x y z e = let q : ◌≡◌ {A = Option Code} (Some x) None = e in absurd cc
second false true d x y z e = let q : ◌≡◌ {A = Option Code} (Some y) None = e in absurd cc
second false false d x y z e = refl

lower : (n : ℕ) → n < 32 → nat_le 32 n ≡ false
lower n h = grind (arith, h)

pub suits_high : (c : Change) (v : Volume) → Suits c v → is_too_deep v.items c ≡ false
suits_high (change.Make item parent name kind size identity) v h = lower (depth_at v.items parent) h.plants.1.2
suits_high (change.Copy item from parent name) v h = lower (depth_at v.items parent) h.plants.1.2
suits_high (change.Move item parent name) v h = second _ (nat_lt 32 (depth_at v.items parent + 1 + height_at v.items item)) _ _ _ _ h.plants.3
suits_high (change.Remove item) v h = refl
suits_high (change.Write item at bytes) v h = refl
suits_high (change.Size item size) v h = refl
suits_high (change.Filled item start bytes) v h = refl
suits_high (change.Validated item start len) v h = refl
suits_high (change.Emptied item start len) v h = refl
suits_high (change.SetPin item pin) v h = refl
suits_high (change.Mark item number) v h = refl
suits_high (change.Clear item) v h = refl
suits_high (change.Convert item identity) v h = refl
suits_high (change.Revert item) v h = refl
suits_high (change.Rebase item identity len at) v h = refl
suits_high (change.Take item identity size) v h = refl
suits_high (change.Populated item) v h = refl
suits_high (change.Keep item on) v h = refl

refused_is : (c : Change) (v : Volume) → Suits c v → change_refused c v ≡ why_no_room (c ∷ []) v
refused_is c v h = ap (λ (b : Bool). or_else (first_of ((b, code.TooDeep) ∷ [])) (why_no_room (c ∷ []) v)) (suits_high c v h)

-- a change that suits

module _ {X R : Type 0} (S : steps.Sense X) (told : R → Told) (c : Change) (x y : X) (e : Own R) where
  why_none : steps.Reads S (Suiting (c ∷ [])) (room_refusal (c ∷ [])) x None → (s : State) → (whole S told).means (x, e) s → On (Suiting (c ∷ [])) s → (why_no_change c s ≡ None) × On (Ready c) s
  why_none h s i p =
      let room : None ≡ why_no_room (c ∷ []) s.filter.volume = h.is s.filter i.filter p in
      (refused_is c s.filter.volume p.0 ∙ sym room, record { room = sym room; suits = p.0 })

  pub change_done : (u : Unit {0}) → steps.Reads S (Suiting (c ∷ [])) (room_refusal (c ∷ [])) x None → steps.Answers S (Ready c) (one_change c) x (Ok u) y
      → Answers (whole S told) (On (Suiting (c ∷ []))) (try_change c) (x, e) (Ok true) (y, e)
  change_done u h k = tried_done (whole S told) (On (Suiting (c ∷ []))) (On (Ready c)) (why_no_change c) (do_change c) (x, e) (y, e) u (why_none h) (lift_filter S told (Ready c) (one_change c) x y e (Ok u) (quiet_change c) k)

  pub change_fails : (f : CallError) → steps.Reads S (Suiting (c ∷ [])) (room_refusal (c ∷ [])) x None → steps.Answers S (Ready c) (one_change c) x (Err f) y
      → Answers (whole S told) (On (Suiting (c ∷ []))) (try_change c) (x, e) (Err f) (y, e)
  change_fails f h k = tried_fails (whole S told) (On (Suiting (c ∷ []))) (On (Ready c)) (why_no_change c) (do_change c) (x, e) (y, e) f (why_none h) (lift_filter S told (Ready c) (one_change c) x y e (Err f) (quiet_change c) k)

pub change_skipped : {X R : Type 0} (S : steps.Sense X) (told : R → Told) (c : Change) (x y : X) (e f : Own R) (why : Code) (r : Result Bool CallError)
    → steps.Reads S (Suiting (c ∷ [])) (room_refusal (c ∷ [])) x (Some why) → Answers (whole S told) Any (seq (skip why) not_done) (x, e) r (y, f)
    → Answers (whole S told) (On (Suiting (c ∷ []))) (try_change c) (x, e) r (y, f)
change_skipped S told c x y e f why r h k =
    tried_skips (whole S told) (On (Suiting (c ∷ []))) Any (why_no_change c) (do_change c) (x, e) (y, f) why r (λ s i p. refused_is c s.filter.volume p.0 ∙ sym (h.is s.filter i.filter p)) k

-- as the code comes to it
pub room_by : {X : Type 0} (S : steps.Sense X) (c : Change) (cs : List Change) (x : X) (o w : Option Code) → cs ≡ c ∷ [] → o ≡ w → steps.Reads S (Suiting cs) (room_refusal cs) x o → steps.Reads S (Suiting (c ∷ [])) (room_refusal (c ∷ [])) x w
room_by S c cs x o w same is h = subst (λ (v : Option Code). steps.Reads S (Suiting (c ∷ [])) (room_refusal (c ∷ [])) x v) is (subst (λ (ds : List Change). steps.Reads S (Suiting ds) (room_refusal ds) x o) same h)

-- a change in any state, by what was tested of it

deep_refused : (c : Change) (v : Volume) → is_too_deep v.items c ≡ true → change_refused c v ≡ Some code.TooDeep
deep_refused c v h = ap (λ (b : Bool). or_else (first_of ((b, code.TooDeep) ∷ [])) (why_no_room (c ∷ []) v)) h

module _ {X R : Type 0} (S : steps.Sense X) (told : R → Told) (c : Change) (x y : X) (e f : Own R) (o : Option Code) (r : Result Bool CallError) where
  pub change_deep : (d : Code) → o ≡ Some d → IsSuited S c x o → Answers (whole S told) Any (seq (skip d) not_done) (x, e) r (y, f) → Answers (whole S told) Any (try_change c) (x, e) r (y, f)
  change_deep d is h k =
      let t = subst (λ (w : Option Code). IsSuited S c x w) is h in
      tried_skips (whole S told) Any Any (why_no_change c) (do_change c) (x, e) (y, f) d r (λ s i p. deep_refused c s.filter.volume (t.1.deep refl s.filter i.filter) ∙ ap (λ (w : Code). Some w) (sym t.0)) k

  pub change_suited : o ≡ None → IsSuited S c x o → Answers (whole S told) (On (Suiting (c ∷ []))) (try_change c) (x, e) r (y, f) → Answers (whole S told) Any (try_change c) (x, e) r (y, f)
  change_suited is h k =
      let t = subst (λ (w : Option Code). IsSuited S c x w) is h in
      known (whole S told) (On (Suiting (c ∷ []))) (try_change c) (x, e) (y, f) r (λ s i. t.suits refl s.filter i.filter) k
