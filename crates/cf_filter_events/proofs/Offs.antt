-- Events while the volume is off.
use Rattle.std.proofs.Common.{◌≡◌, ℕ, ◌+◌, List, [], ◌∷◌, length, refl, sym, ap, subst, ◌∙◌}
use Rattle.std.specs.Prelude.{Err, Ok, Result}
use Rattle.cf_filter_events.specs.Actors.{Acts, IsActor, LeavesFilter, LeavesTo}
use Rattle.cf_filter_events.specs.Answered.{answer_with}
use Rattle.cf_filter_events.specs.Counted.{StepsOff}
use Rattle.cf_filter_events.specs.Meaning.{Is, IsDiskOf, IsOfEpoch, IsOff, LeavesWhatReads}
use Rattle.cf_filter_events.specs.Pasts.{Past}
use Rattle.cf_filter_events.specs.Stepped.{SteppedTo, Steps, StepsOver}
use Rattle.cf_filter_events.specs.declared.places.Acting.{Acting}
use Rattle.cf_filter_events.specs.declared.places.Acting.TheVariants as acting
use Rattle.cf_filter_events.specs.declared.places.Cut.{Cut}
use Rattle.cf_filter_events.proofs.Finished.{device_of}
use Rattle.cf_filter_events.proofs.Hushed.{same_quota}
use Rattle.cf_filter_events.proofs.Powers.{disk_again, disk_cut, left_by, one_gained}
use Rattle.cf_base.specs.declared.answers.Answer.{Answer}
use Rattle.cf_base.specs.declared.answers.Shown.TheVariants as shown
use Rattle.cf_base.specs.declared.codes.Code.TheVariants as code
use Rattle.cf_base.specs.declared.events.DeviceEvent.TheVariants as device
use Rattle.cf_base.specs.declared.events.Event.{Event}
use Rattle.cf_base.specs.declared.events.Event.TheVariants as event
use Rattle.cf_base.specs.declared.memory.OutOfMemory.{OutOfMemory as NoMemory}
use Rattle.cf_base.specs.declared.policies.Choice.{Choice}
use Rattle.cf_engine_host.specs.Callbacks.{Answering}
use Rattle.cf_disk.specs.Disk.{IsUnchanged, Only, Powers, State as Disk, aimed_at, size_of}
use Rattle.cf_journal.specs.Settled.{IsFitSize}
use Rattle.cf_model.proofs.TraceLaws.{ended_step}
use Rattle.cf_model.specs.Events.{begun}
use Rattle.cf_model.specs.Restarts.{crashed}
use Rattle.cf_model.specs.State.{Filter, Off, State}

module _ {D A : Type 0} (acts : Acts A) (state : D → Disk) where
  -- whatever a crash leaves of the one disk it left of the other
  pub still_off : (past : Past) (x y : Cut D A) (s t : State) → y.policy ≡ x.policy → y.whole ≡ x.whole → size_of (state y.disk) ≡ size_of (state x.disk) → (state y.disk).settings.quota ≡ (state x.disk).settings.quota → (state y.disk).powers ≡ (state x.disk).powers → ((c : List ℕ) → (state y.disk).may_leave c → (state x.disk).may_leave c)
      → t.mode ≡ s.mode → t.power ≡ Off → acts.holds y.actor t → t.failed_opens ≡ s.failed_opens → t.filter.volume ≡ s.filter.volume → t.filter.policy ≡ s.filter.policy → IsOff acts state past x s → IsOff acts state past y t
  still_off past x y s t policy whole size quota powers leaves mode power holds opens volume same off = record {
    mode = mode ∙ off.mode;
    power = power;
    holds = holds;
    policy = policy ∙ off.policy ∙ sym same;
    disk = subst (λ (v : _). IsDiskOf state past (state y.disk) v) (sym volume) (disk_again state past (state x.disk) (state y.disk) s.filter.volume size quota powers off.disk);
    point = off.point;
    opens = rw volume off.opens;
    newest = λ so. rw volume (off.newest (sym whole ∙ so));
    kept = rw volume off.kept;
    lasts = λ c may. let h = off.lasts c (leaves c may) in record { taken = h.taken; few = rw opens h.few; stands = rw volume h.stands };
    image = off.image;
    last = off.last;
    left = rw volume off.left;
  }

  -- an event that is none of the device
  off_left : (past : Past) (x y : Cut D A) (s t : State) → y.policy ≡ x.policy → y.whole ≡ x.whole → y.disk ≡ x.disk → LeavesFilter s t → acts.holds y.actor t → IsOff acts state past x s → IsOff acts state past y t
  off_left past x y s t policy whole disk leaves holds off =
      let size : size_of (state y.disk) ≡ size_of (state x.disk) = ap (λ (d : D). size_of (state d)) disk in
      let quota : (state y.disk).settings.quota ≡ (state x.disk).settings.quota = ap (λ (d : D). (state d).settings.quota) disk in
      let powers : (state y.disk).powers ≡ (state x.disk).powers = ap (λ (d : D). (state d).powers) disk in
      let volume : t.filter.volume ≡ s.filter.volume = ap (λ (f : Filter). f.volume) leaves.filter in
      let same : t.filter.policy ≡ s.filter.policy = ap (λ (f : Filter). f.policy) leaves.filter in
      still_off past x y s t policy whole size quota powers (λ c may. subst (λ (d : D). (state d).may_leave c) disk may) leaves.mode (leaves.power ∙ off.power) holds leaves.opens volume same off

  off_stepped : (past : Past) (e : Event) (x y : Cut D A) (s : State) (r : Result Answer NoMemory) → y.policy ≡ x.policy → y.whole ≡ x.whole → y.disk ≡ x.disk → IsOff acts state past x s → LeavesTo acts.mode acts.holds e s r y.actor → SteppedTo acts.mode (IsOff acts state past) e s r y
  off_stepped past e x y s (Ok a) policy whole disk off h = (h.0, h.1, off_left past x y s h.0 policy whole disk h.2 h.3 off)
  off_stepped past e x y s (Err k) policy whole disk off h = record {}

  pub off_acts : (e : Event) (x y : Cut D A) (r : Result Answer NoMemory) → y.policy ≡ x.policy → y.whole ≡ x.whole → y.disk ≡ x.disk → StepsOff acts e x.actor r y.actor → Steps acts.mode (IsOff acts state) e x r y
  off_acts e x y r policy whole disk h = record { leads = λ past s off. off_stepped past e x y s r policy whole disk off (h.leads s off.mode off.power off.holds) }

  -- a volume stands on no disk of such a size
  pub unfit_step : (e : Event) (x : Cut D A) (y : Acting D A) (r : Result Answer NoMemory) → LeavesWhatReads state → (IsFitSize (size_of (state x.disk)) → ⊥) → StepsOver acts.mode (Is acts state) e (acting.Off x) r y
  unfit_step e x y r leaves never = record { leads = λ past s off. absurd (never (off.disk.fit leaves)) }

module _ {D A : Type 0} (answers : Answering A) (acts : Acts A) (actor : IsActor answers acts) (state : D → Disk) where
  -- the actor that is left holds as before
  pub held_on : (x y : Cut D A) (s t : State) → y.actor ≡ x.actor → t.link ≡ s.link → t.peer_tokens ≡ s.peer_tokens → acts.holds x.actor s → acts.holds y.actor t
  held_on x y s t kept link tokens h = subst (λ (p : A). acts.holds p t) (sym kept) (actor.holds_on x.actor s t link tokens h)

  pub off_stop : (n : ℕ) (x y : Cut D A) → y.policy ≡ x.policy → y.whole ≡ x.whole → y.actor ≡ x.actor → IsUnchanged (state x.disk) (state y.disk) → Steps acts.mode (IsOff acts state) (event.Device (device.Stop n)) x (Ok (answer_with shown.Done [])) y
  off_stop n x y policy whole kept same = record {
    leads = λ past s off. (
      begun s,
      ended_step acts.mode s (event.Device (device.Stop n)) shown.Done (begun s) (device_of acts.mode (device.Stop n)) refl (refl, refl),
      still_off acts state past x y s (begun s) policy whole (ap length same.seen) (same_quota (state x.disk) (state y.disk) same.settings) same.powers same.crash refl off.power (held_on x y s (begun s) kept refl refl off.holds) refl refl refl off,
    );
  }

  -- a disk that is told where a commit is wanted
  pub aimed_off : (n : ℕ) (past : Past) (s : State) (x y : Cut D A) → y.policy ≡ x.policy → y.whole ≡ x.whole → y.actor ≡ x.actor → IsUnchanged (aimed_at n (state x.disk)) (state y.disk) → IsOff acts state past x s → IsOff acts state past y s
  aimed_off n past s x y policy whole kept same off =
      still_off acts state past x y s s policy whole (ap length same.seen) (λ i. (same.settings i).quota) same.powers same.crash refl off.power (held_on x y s s kept refl refl off.holds) refl refl refl off

  -- one more power cut leaves the point
  off_again : (past : Past) (choice : Choice) (x y : Cut D A) (s : State) → y.policy ≡ x.policy → y.whole ≡ x.whole → y.actor ≡ x.actor → (state x.disk).may_leave (state y.disk).seen → Only (state y.disk).seen (state y.disk) → Powers choice (state x.disk) (state y.disk)
      → IsOff acts state past x s → IsOff acts state (left_by (state y.disk)) y (crashed (begun s))
  off_again past choice x y s policy whole kept left only powers off =
      let at : IsOfEpoch s off.point (state y.disk).seen = off.lasts (state y.disk).seen left in
      record {
        mode = off.mode;
        power = refl;
        holds = held_on x y s (crashed (begun s)) kept refl refl off.holds;
        policy = policy ∙ off.policy;
        disk = disk_cut state past choice (state x.disk) (state y.disk) s.filter.volume powers off.disk;
        point = off.point;
        opens = off.opens;
        newest = λ so. off.newest (sym whole ∙ so);
        kept = off.kept;
        lasts = λ c may. let h = off.lasts c (subst (λ (i : List ℕ). (state x.disk).may_leave i) (sym (only c may)) left) in record { taken = h.taken; few = h.few; stands = h.stands };
        image = (state y.disk).seen;
        last = refl;
        left = (s.filter.volume.epoch + at.taken, at.stands);
      }

  pub off_crash : (choice : Choice) (x y : Cut D A) → y.policy ≡ x.policy → y.whole ≡ x.whole → y.actor ≡ x.actor → (state x.disk).may_leave (state y.disk).seen → Only (state y.disk).seen (state y.disk) → Powers choice (state x.disk) (state y.disk)
      → StepsOver acts.mode (IsOff acts state) (event.Device (device.Crash choice)) x (Ok (answer_with shown.Done [])) y
  off_crash choice x y policy whole kept left only powers = record {
    leads = λ past s off. (
      crashed (begun s),
      (choice, (state y.disk).seen) ∷ [],
      left_by (state y.disk),
      ended_step acts.mode s (event.Device (device.Crash choice)) shown.Done (crashed (begun s)) (device_of acts.mode (device.Crash choice)) refl (refl, refl),
      (refl, refl, refl),
      one_gained past choice (state x.disk) (state y.disk) off.disk.powers powers,
      off_again past choice x y s policy whole kept left only powers off,
    );
  }
