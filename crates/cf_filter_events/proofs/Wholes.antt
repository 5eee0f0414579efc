-- What the parts of the world do it does.
use Rattle.std.proofs.Common.{◌≡◌, ℕ, ◌+◌, List, [], Bool, true, false, refl, sym, ap, subst, ◌∙◌}
use Rattle.std.specs.Prelude.{Option, Result, Ok, Err, not}
use Rattle.cf_filter_events.specs.Actors.{Acts, IsActor, hushed, is_device_event}
use Rattle.cf_filter_events.specs.Meaning.{Is, IsOff, IsOn, OnBy}
use Rattle.cf_filter_events.specs.declared.places.RunningOn.{RunningOn as Run}
use Rattle.cf_filter_events.specs.Pasts.{Past, StandsFor}
use Rattle.cf_filter_events.specs.Stepped.{Bears, KeepsWhole, OpensNewest, Steps, StepsOver, actor_of, whole_of}
use Rattle.cf_filter_events.specs.declared.places.Acting.{Acting}
use Rattle.cf_filter_events.specs.declared.places.Acting.TheVariants as acting
use Rattle.cf_filter_events.specs.declared.places.Cut.{Cut}
use Rattle.cf_filter_events.proofs.Hushed.{same_clusters, same_quota}
use Rattle.cf_base.specs.declared.answers.Answer.{Answer}
use Rattle.cf_base.specs.declared.events.Event.{Event}
use Rattle.cf_base.specs.declared.events.DeviceEvent.TheVariants as device
use Rattle.cf_base.specs.declared.events.Event.TheVariants as event
use Rattle.cf_base.specs.declared.memory.OutOfMemory.{OutOfMemory as NoMemory}
use Rattle.cf_base.specs.declared.policies.Choice.{Choice}
use Rattle.cf_engine_host.specs.Callbacks.{Answering}
use Rattle.cf_disk.specs.Disk.{State as Disk, size_of}
use Rattle.cf_journal.specs.Settled.{IsFitSize}
use Rattle.cf_filter_desk.specs.Desks.{Desk}
use Rattle.cf_filter_machine.specs.Held.{Held}
use Rattle.cf_filter_machine.specs.Lasting.{Lasts}
use Rattle.cf_filter_machine.specs.Sensing.{Stands, sense}
use Rattle.cf_model.specs.Powers.{IsPower, StandsNow}
use Rattle.cf_model.specs.State.{Broken, Off, On, State, first_policy, new_filter, new_volume, start}
use Rattle.cf_model.specs.Store.{Held as Store}
use Rattle.cf_volume_points.specs.Standing.{clusters_for}
use Rattle.cf_volume.specs.Calls.{Runs}

-- an event that does no power cut, whatever it is answered
abbrev pub DoesNone : Event → Type 0
DoesNone e = (last : Option (List ℕ)) (a : Answer) (t : State) → IsPower StandsFor last e a t [] last []

-- such is each event that is none of the device
pub none_done : (e : Event) → is_device_event e ≡ false → DoesNone e
none_done (event.Call c) other last a t = (refl, refl)
none_done (event.Device d) other last a t = let z : true ≡ false = other in absurd cc
none_done (event.Peer p) other last a t = (refl, refl)
none_done (event.Engine p) other last a t = (refl, refl)
none_done (event.Provider p) other last a t = (refl, refl)

-- nor does it arm the disk
pub bears_none : (e : Event) (d f : Disk) → is_device_event e ≡ false → Bears e d f
bears_none (event.Call c) d f other = record {}
bears_none (event.Device k) d f other = let z : true ≡ false = other in absurd cc
bears_none (event.Peer p) d f other = record {}
bears_none (event.Engine p) d f other = record {}
bears_none (event.Provider p) d f other = record {}

-- an event that is none of the device is no restart
pub no_restart : (e : Event) → is_device_event e ≡ false → e ≡ event.Device device.Restart → ⊥
no_restart e other is = let z : true ≡ false = sym (ap is_device_event is) ∙ other in absurd cc

abbrev is_restarting : Event → Bool
is_restarting (event.Device device.Restart) = true
is_restarting _ = false

pub stop_is_none : (n : ℕ) → event.Device (device.Stop n) ≡ event.Device device.Restart → ⊥
stop_is_none n is = let z : false ≡ true = ap is_restarting is in absurd cc

pub crash_is_none : (choice : Choice) → event.Device (device.Crash choice) ≡ event.Device device.Restart → ⊥
crash_is_none choice is = let z : false ≡ true = ap is_restarting is in absurd cc

module _ {D A : Type 0} (acts : Acts A) (state : D → Disk) where
  -- an event after which the volume is open
  pub on_whole : (x y : Acting D A) → whole_of y ≡ true → KeepsWhole (Is acts state) x y
  on_whole x y so = record { whole = λ past s is power whole. so }

  -- the power is cut while it is open and not broken
  pub cut_whole : (x : Run D A) (y : Cut D A) → y.whole ≡ not x.filter.desk.broken → KeepsWhole (Is acts state) (acting.On x) (acting.Off y)
  cut_whole x y so = record { whole = λ past s on power whole. so ∙ by x.filter.desk.broken s on.is power }
    where
      by : (b : Bool) (s : State) → OnBy acts state b x s → (s.power ≡ Broken → ⊥) → not b ≡ true
      by true s h power = absurd (power h.0)
      by false s h power = refl

  -- a volume that is open is not off
  pub on_not_off : (past : Past) (x : Run D A) (s : State) → IsOn acts state past x s → s.power ≡ Off → ⊥
  on_not_off past x s on off = by x.filter.desk.broken on.is
    where
      by : (b : Bool) → OnBy acts state b x s → ⊥
      by true h = let z : Broken ≡ Off = sym h.0 ∙ off in absurd cc
      by false h = let z : On ≡ Off = sym h.0 ∙ off in absurd cc

  pub off_not_on : (past : Past) (x : Cut D A) (s : State) → IsOff acts state past x s → s.power ≡ On → ⊥
  off_not_on past x s off on = let z : On ≡ Off = sym on ∙ off.power in absurd cc

  -- an event that is no restart
  pub opens_none : (e : Event) (x : Acting D A) (r : Result Answer NoMemory) → (e ≡ event.Device device.Restart → ⊥) → OpensNewest (Is acts state) e x r
  opens_none e x r other = record { newest = λ past s is restart whole. absurd (other restart) }

  pub on_steps : (e : Event) (x y : Run D A) (r : Result Answer NoMemory) → DoesNone e → Steps acts.mode (IsOn acts state) e x r y → StepsOver acts.mode (Is acts state) e (acting.On x) r (acting.On y)
  on_steps e x y (Ok a) none h = record { leads = λ past s is. let r = h.leads past s is in (r.0, [], past, r.1, none past.last a r.0, refl, r.2) }
  on_steps e x y (Err m) none h = record { leads = λ past s is. record {} }

  pub off_steps : (e : Event) (x y : Cut D A) (r : Result Answer NoMemory) → DoesNone e → Steps acts.mode (IsOff acts state) e x r y → StepsOver acts.mode (Is acts state) e (acting.Off x) r (acting.Off y)
  off_steps e x y (Ok a) none h = record { leads = λ past s is. let r = h.leads past s is in (r.0, [], past, r.1, none past.last a r.0, refl, r.2) }
  off_steps e x y (Err m) none h = record { leads = λ past s is. record {} }

  -- events of the device
  pub on_over : (e : Event) (x y : Run D A) (r : Result Answer NoMemory) → StepsOver acts.mode (IsOn acts state) e x r y → StepsOver acts.mode (Is acts state) e (acting.On x) r (acting.On y)
  on_over e x y (Ok a) h = record { leads = λ past s is. h.leads past s is }
  on_over e x y (Err m) h = record { leads = λ past s is. record {} }

  pub off_over : (e : Event) (x y : Cut D A) (r : Result Answer NoMemory) → StepsOver acts.mode (IsOff acts state) e x r y → StepsOver acts.mode (Is acts state) e (acting.Off x) r (acting.Off y)
  off_over e x y (Ok a) h = record { leads = λ past s is. h.leads past s is }
  off_over e x y (Err m) h = record { leads = λ past s is. record {} }

  lasting : (d : Disk) (s : State) → Lasts d s.filter.volume → (c : List ℕ) → d.may_leave c → StandsNow StandsFor s c
  lasting d s h c may = let at = h c may in (at.point, at.opens, (s.filter.volume.epoch, at.stands))

  -- a volume that was just made
  pub begins : (d : D) (x : Held D) (p : A) (remote : Store) (past : Past) → past.told ≡ (state d).powers → IsFitSize (size_of (state d)) → Runs (state d) (state x.disk) → Stands state x (new_filter (new_volume (clusters_for (state d))) first_policy)
      → acts.stands p (start acts.mode remote (clusters_for (state d))) → IsOn acts state past (record { filter = x; actor = p }) (start acts.mode remote (clusters_for (state d)))
  begins d x p remote past told fit runs stands begun =
      let s : State = start acts.mode remote (clusters_for (state d)) in
      let on : OnBy acts state false (record { filter = x; actor = p }) s = (refl, begun, stands) in
      record {
        mode = refl;
        quiet = ap (λ (k : Desk). k.notes) stands.desk;
        disk = record { fit = λ leaves. subst IsFitSize (sym runs.size) fit; clusters = sym (same_clusters (state d) (state x.disk) runs.size (same_quota (state d) (state x.disk) runs.settings)); powers = runs.powers ∙ sym told };
        is = subst (λ (b : Bool). OnBy acts state b (record { filter = x; actor = p }) s) (sym (ap (λ (k : Desk). k.broken) stands.desk)) on;
      }

  -- the disk that is handed back
  pub on_hands : (past : Past) (x : Run D A) (s : State) → IsOn acts state past x s → (c : List ℕ) → (state x.filter.disk).may_leave c → StandsNow StandsFor s c
  on_hands past x s on c may = by x.filter.desk.broken on.is
    where
      by : (b : Bool) → OnBy acts state b x s → StandsNow StandsFor s c
      by true h = lasting (state x.filter.disk) s h.3 c may
      by false h = lasting (state x.filter.disk) s ((sense state).endures x.filter (hushed s.filter) h.2) c may

  pub off_hands : (past : Past) (x : Cut D A) (s : State) → IsOff acts state past x s → (c : List ℕ) → (state x.disk).may_leave c → StandsNow StandsFor s c
  off_hands past x s off c may = let at = off.lasts c may in (off.point, off.opens, (s.filter.volume.epoch + at.taken, at.stands))

module _ {D A : Type 0} (answers : Answering A) (acts : Acts A) (actor : IsActor answers acts) (state : D → Disk) where
  -- the actor that is handed back
  pub on_holds : (past : Past) (x : Run D A) (s : State) → IsOn acts state past x s → acts.holds x.actor s
  on_holds past x s on = by x.filter.desk.broken on.is
    where
      by : (b : Bool) → OnBy acts state b x s → acts.holds x.actor s
      by true h = h.1
      by false h = actor.stands_held x.actor s h.1

  pub hands_hold : (past : Past) (x : Acting D A) (s : State) → Is acts state past x s → acts.holds (actor_of x) s
  hands_hold past (acting.On x) s on = on_holds past x s on
  hands_hold past (acting.Off x) s off = off.holds
