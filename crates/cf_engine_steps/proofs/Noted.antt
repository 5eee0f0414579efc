-- Parts that change what an engine has of its own alone, and parts that a step of the device may come before.
use Rattle.std.proofs.Common.{◌≡◌, true, false, refl, sym, ap, subst, ℕ}
use Rattle.std.specs.Prelude.{Option, Some, Result, Ok, Err, unwrap_or}
use Rattle.cf_base.specs.declared.codes.CallError.{CallError}
use Rattle.cf_base.specs.declared.codes.CallError.TheVariants.{No, OutOfMemory}
use Rattle.cf_engine_steps.specs.Answering.{Answers, Whole}
use Rattle.cf_engine_steps.specs.Faults.{Rose, fault_lines, rose_none}
use Rattle.cf_engine_steps.specs.States.{Means, Own, told_of, whole, with_clock_of, with_skips_shown, with_took_done, with_volatile_of}
use Rattle.cf_model.specs.Arrows.{Arrow, noted, one, unit}
use Rattle.cf_model.specs.Feeds.{with_clock_seen}
use Rattle.cf_model.specs.Passes.{showing, without_done}
use Rattle.cf_model.specs.PushReplies.{with_done}
use Rattle.cf_model.specs.Skips.{in_volatile, with_volatile}
use Rattle.cf_model.specs.State.{Filter, State, Volatile}
use Rattle.cf_remote.specs.Told.{Told}
use Rattle.cf_filter_steps.specs.Answering as steps

-- without memory nothing is said of what was done
pub no_memory : {X A : Type 0} (W : Whole X) (P : State → Type 0) (f : Arrow State A) (x : X) → Answers W P f x (Err OutOfMemory) x
no_memory W P f x = record { leads = λ s h p. (s, record {}, W.stays x s h, W.endures x s h) }

-- what never meets the device is also a step that may
pub noted_as_one : {X : Type 0} (W : Whole X) (P : State → Type 0) (g : State → State) (x y : X) (r : Result (Unit {0}) CallError) → Answers W P (noted g) x r y → Answers W P (one g) x r y
noted_as_one W P g x y (Ok u) h = record { leads = λ s i p. h.leads s i p }
noted_as_one W P g x y (Err (No c)) h = record { leads = λ s i p. absurd ((h.leads s i p).1.1) }
noted_as_one W P g x y (Err OutOfMemory) h = record { leads = λ s i p. h.leads s i p }

module _ {X R : Type 0} (S : steps.Sense X) (told : R → Told) (P : State → Type 0) (x : X) (e : Own R) where
  -- A change of the state beside the filter, for which the engine's own part stands as it was changed.
  pub noted_own : (f : Own R) (g : State → State) → ((s : State) → (g s).filter ≡ s.filter) → ((s : State) → Means S told x e s → Means S told x f (g s)) → told_of told f ≡ told_of told e
      → Answers (whole S told) P (noted g) (x, e) (Ok unit) (x, f)
  noted_own f g same means faults = record {
    leads = λ s i p. (
      g s,
      (refl, refl),
      subst (λ (t : Filter). S.moved x x s.filter t) (sym (same s)) (S.stays x s.filter i.filter),
      (means s i, subst (λ (n : Told). Rose (told_of told e) n (fault_lines s.filter) (fault_lines (g s).filter)) (sym faults) (rose_none (told_of told e) (fault_lines s.filter) (fault_lines (g s).filter) (ap fault_lines (same s)))),
    );
  }

  -- what is known until the volume is opened again
  pub noted_volatile : (f : Own R) (g : Volatile → Volatile) → f ≡ with_volatile_of g e → Answers (whole S told) P (in_volatile g) (x, e) (Ok unit) (x, f)
  noted_volatile f g is = subst (λ (o : Own R). Answers (whole S told) P (in_volatile g) (x, e) (Ok unit) (x, o)) (sym is)
      (noted_own (with_volatile_of g e) (with_volatile g) (λ s. refl) (λ s i. record { filter = i.filter; on = i.on; sees = record { replays = i.sees.replays; link = i.sees.link; shows_skips = i.sees.shows_skips; skips = i.sees.skips }; took_done = i.took_done; first_clock = i.first_clock; volatile = ap g i.volatile }) refl)

  -- the same as a step
  pub one_volatile : (f : Own R) (g : Volatile → Volatile) → f ≡ with_volatile_of g e → Answers (whole S told) P (one (with_volatile g)) (x, e) (Ok unit) (x, f)
  one_volatile f g is = noted_as_one (whole S told) P (with_volatile g) (x, e) (x, f) (Ok unit) (noted_volatile f g is)

  -- the facts of the running event

  pub noted_done : (f : Own R) → f ≡ with_took_done true e → Answers (whole S told) P (noted with_done) (x, e) (Ok unit) (x, f)
  noted_done f is = subst (λ (o : Own R). Answers (whole S told) P (noted with_done) (x, e) (Ok unit) (x, o)) (sym is)
      (noted_own (with_took_done true e) with_done (λ s. refl) (λ s i. record { filter = i.filter; on = i.on; sees = record { replays = i.sees.replays; link = i.sees.link; shows_skips = i.sees.shows_skips; skips = i.sees.skips }; took_done = refl; first_clock = i.first_clock; volatile = i.volatile }) refl)

  pub noted_undone : (f : Own R) → f ≡ with_took_done false e → Answers (whole S told) P (noted without_done) (x, e) (Ok unit) (x, f)
  noted_undone f is = subst (λ (o : Own R). Answers (whole S told) P (noted without_done) (x, e) (Ok unit) (x, o)) (sym is)
      (noted_own (with_took_done false e) without_done (λ s. refl) (λ s i. record { filter = i.filter; on = i.on; sees = record { replays = i.sees.replays; link = i.sees.link; shows_skips = i.sees.shows_skips; skips = i.sees.skips }; took_done = refl; first_clock = i.first_clock; volatile = i.volatile }) refl)

  pub noted_clock : (f : Own R) (clock : ℕ) → f ≡ with_clock_of clock e → Answers (whole S told) P (noted (with_clock_seen clock)) (x, e) (Ok unit) (x, f)
  noted_clock f clock is = subst (λ (o : Own R). Answers (whole S told) P (noted (with_clock_seen clock)) (x, e) (Ok unit) (x, o)) (sym is)
      (noted_own (with_clock_of clock e) (with_clock_seen clock) (λ s. refl) (λ s i. record { filter = i.filter; on = i.on; sees = record { replays = i.sees.replays; link = i.sees.link; shows_skips = i.sees.shows_skips; skips = i.sees.skips }; took_done = i.took_done; first_clock = ap (λ (o : Option ℕ). Some (unwrap_or o clock)) i.first_clock; volatile = i.volatile }) refl)

  pub noted_showing : (f : Own R) → f ≡ with_skips_shown e → Answers (whole S told) P (noted showing) (x, e) (Ok unit) (x, f)
  noted_showing f is = subst (λ (o : Own R). Answers (whole S told) P (noted showing) (x, e) (Ok unit) (x, o)) (sym is)
      (noted_own (with_skips_shown e) showing (λ s. refl) (λ s i. record { filter = i.filter; on = i.on; sees = record { replays = i.sees.replays; link = i.sees.link; shows_skips = refl; skips = i.sees.skips }; took_done = i.took_done; first_clock = i.first_clock; volatile = i.volatile }) refl)
