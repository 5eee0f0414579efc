-- Events that are none of the device, while the volume is open.
use Rattle.std.proofs.Common.{◌≡◌, Bool, true, false, [], refl, sym, ap, subst, ◌∙◌}
use Rattle.std.specs.Prelude.{Result, Ok, Err}
use Rattle.cf_filter_events.specs.Actors.{Acts, Begins, LeavesFilter, LeavesTo, StepsBeside}
use Rattle.cf_filter_events.specs.Answered.{answer_with}
use Rattle.cf_filter_events.specs.Counted.{Counts, StepsOn, known_by}
use Rattle.cf_filter_events.specs.Faulted.{Faults, local_by}
use Rattle.cf_filter_events.specs.Meaning.{IsBegun, IsDiskOf, IsOn, OnBy}
use Rattle.cf_filter_events.specs.Pasts.{Past}
use Rattle.cf_filter_events.specs.Stepped.{SteppedTo, Steps}
use Rattle.cf_filter_events.specs.declared.places.RunningOn.{RunningOn as Run}
use Rattle.cf_filter_events.proofs.Counted.{begun_counts, known_same, known_steps, local_steps}
use Rattle.cf_filter_events.proofs.EventFaults.{begun_faults}
use Rattle.cf_filter_events.proofs.Finished.{broken_step}
use Rattle.cf_base.specs.declared.answers.Answer.{Answer}
use Rattle.cf_base.specs.declared.answers.Shown.TheVariants as shown
use Rattle.cf_base.specs.declared.codes.Code.TheVariants as code
use Rattle.cf_base.specs.declared.events.Event.{Event}
use Rattle.cf_base.specs.declared.memory.OutOfMemory.{OutOfMemory as NoMemory}
use Rattle.cf_disk.specs.Disk.{State as Disk}
use Rattle.cf_filter_machine.specs.Held.{Held}
use Rattle.cf_filter_machine.specs.Lasting.{Lasts}
use Rattle.cf_filter_machine.specs.Sensing.{Stands}
use Rattle.cf_filter_machine.specs.Showing.{Shows}
use Rattle.cf_model.specs.Events.{is_of, needs_volume}
use Rattle.cf_model.specs.State.{Filter, State, Volume}
use Rattle.cf_volume_points.specs.Standing.{clusters_on}

module _ {D A : Type 0} (acts : Acts A) (state : D → Disk) where
  -- an event that the actor begins

  begins_event : (past : Past) (x : Held D) (p q : A) (s : State) → Begins acts p q → x.desk.broken ≡ false → IsOn acts state past (record { filter = x; actor = p }) s → IsBegun acts state past (record { filter = x; actor = q }) s
  begins_event past x p q s begins whole on =
      let h : OnBy acts state false (record { filter = x; actor = p }) s = subst (λ (b : Bool). OnBy acts state b (record { filter = x; actor = p }) s) whole on.is in
      record { mode = on.mode; power = h.0; sees = begins s on.mode h.0 h.1; whole = whole; quiet = on.quiet; disk = on.disk; stands = h.2 }

  pub begun_steps : (e : Event) (x : Held D) (p q : A) (y : Run D A) (b : Bool) (r k a : Result Answer NoMemory) → Begins acts p q → x.desk.broken ≡ false → StepsOn acts state e (record { filter = x; actor = q }) r y → k ≡ known_by b r → a ≡ local_by k
      → Steps acts.mode (IsOn acts state) e (record { filter = x; actor = p }) a y
  begun_steps e x p q y b r k a begins whole h is local = record {
    leads = λ past s on. local_steps acts.mode (IsOn acts state past) e s y k a local (known_steps acts.mode (IsOn acts state past) e s y b r k is (h.steps past s (begins_event past x p q s begins whole on)));
  }

  pub begun_counting : (e : Event) (x : Held D) (p q : A) (y : Run D A) (b : Bool) (r k a : Result Answer NoMemory) → Begins acts p q → x.desk.broken ≡ false → StepsOn acts state e (record { filter = x; actor = q }) r y → b ≡ y.filter.desk.broken → k ≡ known_by b r → a ≡ local_by k
      → Counts (IsOn acts state) (record { filter = x; actor = p }) a (state x.disk) (state y.filter.disk)
  begun_counting e x p q y b r k a begins whole h broken is local = record { counts = λ past s on. begun_counts acts state past s e (record { filter = x; actor = q }) y b r k a broken is local h (begins_event past x p q s begins whole on) }

  pub begun_faulting : (e : Event) (x : Held D) (p q : A) (y : Run D A) (b : Bool) (r k a : Result Answer NoMemory) → Begins acts p q → acts.remote q ≡ acts.remote p → x.desk.broken ≡ false → StepsOn acts state e (record { filter = x; actor = q }) r y → k ≡ known_by b r → a ≡ local_by k
      → Faults (IsOn acts state) (record { filter = x; actor = p }) a (acts.remote p) (acts.remote y.actor)
  begun_faulting e x p q y b r k a begins same whole h is local = record { failed = λ past s on. begun_faults acts state past s e (acts.remote p) (record { filter = x; actor = q }) y b r k a same is local h (begins_event past x p q s begins whole on) }

  -- one after an event that met Device
  pub broken_refuses : (e : Event) (x : Run D A) → is_of acts.mode e ≡ true → needs_volume e ≡ true → x.filter.desk.broken ≡ true → Steps acts.mode (IsOn acts state) e x (Ok (answer_with (shown.Refused code.Broken) [])) x
  broken_refuses e x of needs cut = record {
    leads = λ past s on.
        let h : OnBy acts state true x s = subst (λ (b : Bool). OnBy acts state b x s) cut on.is in
        (s, broken_step acts.mode e s of needs h.0, on);
  }

  -- an event that needs no volume

  left_on : (past : Past) (x : Held D) (p q : A) (s t : State) → LeavesFilter s t → IsOn acts state past (record { filter = x; actor = p }) s → OnBy acts state x.desk.broken (record { filter = x; actor = q }) t → IsOn acts state past (record { filter = x; actor = q }) t
  left_on past x p q s t leaves on is =
      let volume : t.filter.volume ≡ s.filter.volume = ap (λ (f : Filter). f.volume) leaves.filter in
      record { mode = leaves.mode ∙ on.mode; quiet = on.quiet; disk = subst (λ (v : Volume). IsDiskOf state past (state x.disk) v) (sym volume) on.disk; is = is }

  whole_left : (past : Past) (e : Event) (x : Held D) (p q : A) (s : State) (r : Result Answer NoMemory) → IsOn acts state past (record { filter = x; actor = p }) s → x.desk.broken ≡ false → OnBy acts state false (record { filter = x; actor = p }) s
      → LeavesTo acts.mode acts.stands e s r q → SteppedTo acts.mode (IsOn acts state past) e s r (record { filter = x; actor = q })
  whole_left past e x p q s (Ok a) on whole h d =
      let t = d.0 in
      let leaves = d.2 in
      let is : OnBy acts state false (record { filter = x; actor = q }) t = (leaves.power ∙ h.0, d.3, subst (λ (f : Filter). Stands state x f) (sym leaves.filter) h.2) in
      (t, d.1, left_on past x p q s t leaves on (subst (λ (b : Bool). OnBy acts state b (record { filter = x; actor = q }) t) (sym whole) is))
  whole_left past e x p q s (Err k) on whole h d = record {}

  broken_left : (past : Past) (e : Event) (x : Held D) (p q : A) (s : State) (r : Result Answer NoMemory) → IsOn acts state past (record { filter = x; actor = p }) s → x.desk.broken ≡ true → OnBy acts state true (record { filter = x; actor = p }) s
      → LeavesTo acts.mode acts.holds e s r q → SteppedTo acts.mode (IsOn acts state past) e s r (record { filter = x; actor = q })
  broken_left past e x p q s (Ok a) on cut h d =
      let t = d.0 in
      let leaves = d.2 in
      let policy : x.desk.policy ≡ t.filter.policy = h.2 ∙ sym (ap (λ (f : Filter). f.policy) leaves.filter) in
      let lasts : Lasts (state x.disk) t.filter.volume = subst (λ (f : Filter). Lasts (state x.disk) f.volume) (sym leaves.filter) h.3 in
      let shows : Shows (clusters_on (state x.disk).seen) x.known t.filter.volume = subst (λ (f : Filter). Shows (clusters_on (state x.disk).seen) x.known f.volume) (sym leaves.filter) h.4 in
      let is : OnBy acts state true (record { filter = x; actor = q }) t = (leaves.power ∙ h.0, d.3, policy, lasts, shows) in
      (t, d.1, left_on past x p q s t leaves on (subst (λ (b : Bool). OnBy acts state b (record { filter = x; actor = q }) t) (sym cut) is))
  broken_left past e x p q s (Err k) on cut h d = record {}

  pub beside_steps : (e : Event) (x : Held D) (p q : A) (r a : Result Answer NoMemory) → StepsBeside acts e p r q → a ≡ known_by false r → Steps acts.mode (IsOn acts state) e (record { filter = x; actor = p }) a (record { filter = x; actor = q })
  beside_steps e x p q r a beside is = record { leads = λ past s on. known_steps acts.mode (IsOn acts state past) e s (record { filter = x; actor = q }) false r a is (by past s on x.desk.broken refl on.is) }
    where
      by : (past : Past) (s : State) → IsOn acts state past (record { filter = x; actor = p }) s → (b : Bool) → x.desk.broken ≡ b → OnBy acts state b (record { filter = x; actor = p }) s → SteppedTo acts.mode (IsOn acts state past) e s r (record { filter = x; actor = q })
      by past s on true cut h = broken_left past e x p q s r on cut h (beside.held s on.mode h.1)
      by past s on false whole h = whole_left past e x p q s r on whole h (beside.on s on.mode h.1)

  pub beside_counts : (x : Held D) (p : A) (r a : Result Answer NoMemory) → a ≡ known_by false r → Counts (IsOn acts state) (record { filter = x; actor = p }) a (state x.disk) (state x.disk)
  beside_counts x p r a is = record { counts = λ past s on. known_same r a (state x.disk) is }
