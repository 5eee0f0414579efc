-- Events that are none of the device, while the volume is off.
use Rattle.std.proofs.Common.{◌≡◌, Bool, true, false, [], refl, sym, subst}
use Rattle.std.specs.Prelude.{IfOk, Result, Ok, Err}
use Rattle.cf_filter_events.specs.Actors.{Acts, LeavesTo, StepsBeside}
use Rattle.cf_filter_events.specs.Answered.{answer_with}
use Rattle.cf_filter_events.specs.Counted.{CountsTo, StepsOff, known_as, known_by, meets_device}
use Rattle.cf_filter_events.specs.Faulted.{Faults}
use Rattle.cf_filter_events.specs.Meaning.{IsOff}
use Rattle.cf_filter_events.specs.declared.places.Cut.{Cut}
use Rattle.cf_filter_events.proofs.Counted.{plain_counts, stays}
use Rattle.cf_filter_events.proofs.EventFaults.{beside_to, shown_faults}
use Rattle.cf_filter_events.proofs.Finished.{off_step}
use Rattle.cf_base.specs.declared.answers.Answer.{Answer}
use Rattle.cf_base.specs.declared.answers.Shown.TheVariants as shown
use Rattle.cf_base.specs.declared.codes.Code.TheVariants as code
use Rattle.cf_base.specs.declared.events.Event.{Event}
use Rattle.cf_base.specs.declared.memory.OutOfMemory.{OutOfMemory as NoMemory}
use Rattle.cf_disk.specs.Disk.{State as Disk}
use Rattle.cf_model.specs.Events.{is_of, needs_volume}
use Rattle.cf_model.specs.State.{State}

-- an answer that is not Device
well_counts : (r : Result Answer NoMemory) (d : Disk) → IfOk r (λ a. meets_device a.shown ≡ false) → CountsTo r d d
well_counts (Ok a) d well = plain_counts a d d (stays d) well
well_counts (Err m) d well = record {}

known_well : (b : Bool) (a : Answer) → meets_device a.shown ≡ b → IfOk (known_as false b a) (λ w. meets_device w.shown ≡ false)
known_well true a is = record {}
known_well false a is = is

well_known : (r : Result Answer NoMemory) → IfOk (known_by false r) (λ w. meets_device w.shown ≡ false)
well_known (Ok a) = known_well (meets_device a.shown) a refl
well_known (Err m) = record {}

module _ {A : Type 0} (acts : Acts A) where
  -- one that needs the volume
  pub refused_off : (e : Event) (x : A) → is_of acts.mode e ≡ true → needs_volume e ≡ true → StepsOff acts e x (Ok (answer_with (shown.Refused code.Off) [])) x
  refused_off e x of needs = record {
    leads = λ s mode power holds. (s, off_step acts.mode e s of needs power, record { mode = refl; power = refl; opens = refl; filter = refl }, holds);
    well = refl;
    faults = λ s holds. shown_faults (answer_with (shown.Refused code.Off) []) (shown.Refused code.Off) (acts.remote x) (acts.remote x) refl refl refl;
  }

  -- one that needs none

  known_leaves : (e : Event) (q : A) (s : State) (b : Bool) (a : Answer) → LeavesTo acts.mode acts.holds e s (Ok a) q → LeavesTo acts.mode acts.holds e s (known_as false b a) q
  known_leaves e q s true a h = record {}
  known_leaves e q s false a h = h

  leaves_known : (e : Event) (q : A) (s : State) (r : Result Answer NoMemory) → LeavesTo acts.mode acts.holds e s r q → LeavesTo acts.mode acts.holds e s (known_by false r) q
  leaves_known e q s (Ok a) h = known_leaves e q s (meets_device a.shown) a h
  leaves_known e q s (Err m) h = h

  pub done_off : (e : Event) (p q : A) (r a : Result Answer NoMemory) → StepsBeside acts e p r q → a ≡ known_by false r → StepsOff acts e p a q
  done_off e p q r a beside is = record {
    leads = λ s mode power holds. subst (λ (w : Result Answer NoMemory). LeavesTo acts.mode acts.holds e s w q) (sym is) (leaves_known e q s r (beside.held s mode holds));
    well = subst (λ (w : Result Answer NoMemory). IfOk w (λ x. meets_device x.shown ≡ false)) (sym is) (well_known r);
    faults = λ s holds. beside_to acts p q e r a s beside is holds;
  }

-- beside a volume that is off

pub off_counts : {A : Type 0} (acts : Acts A) (e : Event) (p q : A) (r : Result Answer NoMemory) (d : Disk) → StepsOff acts e p r q → CountsTo r d d
off_counts acts e p q r d h = well_counts r d h.well

pub off_faults : {D A : Type 0} (acts : Acts A) (state : D → Disk) (e : Event) (x : Cut D A) (q : A) (r : Result Answer NoMemory) → StepsOff acts e x.actor r q → Faults (IsOff acts state) x r (acts.remote x.actor) (acts.remote q)
off_faults acts state e x q r h = record { failed = λ past s off. h.faults s off.holds }
