-- Events while the volume is off.
use Rattle.std.proofs.Common.{◌≡◌, ◌+◌, ◌≤◌, ◌∷◌, ℕ, Bool, cond, true, false, List, [], length, min, take, Option, refl, sym, ap, subst, ◌∙◌, inl, arith}
use Rattle.std.specs.Prelude.{Err, Ok, Result}
use Rattle.std.proofs.lemmas.List.{length-take}
use Rattle.cf_base.specs.declared.answers.Answer.{Answer}
use Rattle.cf_base.specs.declared.answers.Shown.TheVariants as shown
use Rattle.cf_base.specs.declared.codes.Code.TheVariants as code
use Rattle.cf_base.specs.declared.events.DeviceEvent.TheVariants as device
use Rattle.cf_base.specs.declared.events.Event.{Event}
use Rattle.cf_base.specs.declared.events.Event.TheVariants as event
use Rattle.cf_base.specs.declared.memory.OutOfMemory.{OutOfMemory as NoMemory}
use Rattle.cf_base.specs.declared.policies.Choice.{Choice}
use Rattle.cf_base.specs.declared.policies.Mode.TheVariants as mode
use Rattle.cf_base.specs.declared.policies.Policy.{Policy}
use Rattle.cf_check_report.specs.Counts.{count_of}
use Rattle.cf_check_report.specs.Playing.{aim_after, resumes}
use Rattle.cf_check_traces.specs.Tests.{is_device, is_resumed}
use Rattle.cf_check_world.proofs.OnSteps.{aim_kept, apart, same_device}
use Rattle.cf_check_world.specs.Devices.{Does, Reopened, StandsOff, StandsOn, acts, filter_on, no_past}
use Rattle.cf_check_world.specs.Remotes.{Failing, told_by}
use Rattle.cf_check_world.specs.declared.places.Place.{Place}
use Rattle.cf_check_world.specs.declared.places.Place.TheVariants as place
use Rattle.cf_check_world.specs.declared.places.Resting.{Resting}
use Rattle.cf_engine.specs.Actors.{Syncing}
use Rattle.cf_engine.specs.Playing.{is_actor}
use Rattle.cf_filter.proofs.Started.{starts_opened}
use Rattle.cf_filter_events.proofs.Finished.{device_of}
use Rattle.cf_filter_events.proofs.Reopening.{opened_is, restart_exhausted, restarts, same_newest}
use Rattle.cf_filter_events.specs.Actors.{is_device_event}
use Rattle.cf_filter_events.specs.Answered.{answer_with}
use Rattle.cf_filter_events.specs.Counted.{StepsOff}
use Rattle.cf_filter_events.specs.Meaning.{IsDiskOf}
use Rattle.cf_filter_machine.specs.Keeping.{HasKeptPoints}
use Rattle.cf_filter_machine.specs.Sensing as sensing
use Rattle.cf_model.proofs.TraceLaws.{ended_step}
use Rattle.cf_model.specs.Books.{opened_of}
use Rattle.cf_model.specs.Events.{begun}
use Rattle.cf_model.specs.Lawful.{IsStep}
use Rattle.cf_model.specs.Numbers.{most}
use Rattle.cf_model.specs.Points.{Opens}
use Rattle.cf_model.specs.Restarts.{crashed, opened_at, resumed, with_opened}
use Rattle.cf_model.specs.State.{Filter, Point, State, Volume, new_filter}
use Rattle.cf_volume.specs.Calls.{OnDisk}
use Rattle.cf_volume_plain.specs.Plains.{Blocks, plain_state}
use Rattle.cf_volume_points.specs.At.{At}
use Rattle.cf_volume_points.specs.Standing.{clusters_for, opened}
use Rattle.cf_volume_room.specs.Aims.{IsAimedBy}

-- memory ran out
pub lost_off : (e : Event) (next : Option ℕ) (x : Resting) (m : NoMemory) → Does e next (place.Off x) (Err m) place.Lost
lost_off e next x m = record { leads = λ aim s h. refl; lost = λ is. refl }

-- an event without notes, and a crash

begun_off : (x : Resting) (aim : Option ℕ) (s : State) → StandsOff x aim s → StandsOff x aim (begun s)
begun_off x aim s h = record {
  mode = h.mode;
  power = h.power;
  holds = (is_actor told_by).holds_on x.actor s (begun s) refl refl h.holds;
  policy = h.policy;
  disk = record { fit = h.disk.fit; clusters = h.disk.clusters; powers = h.disk.powers };
  volume = h.volume;
  usable = h.usable;
  points = h.points;
  aimed = h.aimed;
}

pub stop_off : (calls : ℕ) (next : Option ℕ) (x : Resting) → Does (event.Device (device.Stop calls)) next (place.Off x) (Ok (answer_with shown.Done [])) (place.Off x)
stop_off calls next x = record {
  leads = λ aim s h. (
    begun s,
    ended_step mode.Replay s (event.Device (device.Stop calls)) shown.Done (begun s) (device_of mode.Replay (device.Stop calls)) refl (refl, refl),
    refl,
    begun_off x aim s h,
    λ is. let z : false ≡ true = is in absurd cc,
  );
  lost = λ is. let z : place.Off x ≡ place.Lost = is in absurd cc;
}

pub crash_off : (choice : Choice) (next : Option ℕ) (x : Resting) → Does (event.Device (device.Crash choice)) next (place.Off x) (Ok (answer_with shown.Done [])) (place.Off x)
crash_off choice next x = record {
  leads = λ aim s h.
      let off : StandsOff x aim (crashed (begun s)) = record {
        mode = h.mode;
        power = refl;
        holds = (is_actor told_by).holds_on x.actor s (crashed (begun s)) refl refl h.holds;
        policy = h.policy;
        disk = record { fit = h.disk.fit; clusters = h.disk.clusters; powers = h.disk.powers };
        volume = h.volume;
        usable = h.usable;
        points = h.points;
        aimed = h.aimed;
      } in (
        crashed (begun s),
        ended_step mode.Replay s (event.Device (device.Crash choice)) shown.Done (crashed (begun s)) (device_of mode.Replay (device.Crash choice)) refl (refl, refl),
        refl,
        off,
        λ is. let z : false ≡ true = is in absurd cc,
      );
  lost = λ is. let z : place.Off x ≡ place.Lost = is in absurd cc;
}

-- an event that is none of the device

abbrev pub with_actor : Resting → Syncing Failing → Resting
with_actor x q = record { volume = x.volume; policy = x.policy; actor = q }

pub beside : (e : Event) (next : Option ℕ) (x : Resting) (q : Syncing Failing) (a : Answer) → is_device_event e ≡ false → StepsOff acts e x.actor (Ok a) q → Does e next (place.Off x) (Ok a) (place.Off (with_actor x q))
beside e next x q a other steps = record {
  leads = λ aim s h.
      let led = steps.leads s h.mode h.power h.holds in
      let leaves = led.2 in
      let none : resumes e a ≡ false = apart e a other in
      let volume : led.0.filter.volume ≡ s.filter.volume = ap (λ (f : Filter). f.volume) leaves.filter in
      let off : StandsOff (with_actor x q) aim led.0 = record {
        mode = leaves.mode ∙ h.mode;
        power = leaves.power ∙ h.power;
        holds = led.3;
        policy = h.policy ∙ sym (ap (λ (f : Filter). f.policy) leaves.filter);
        disk = subst (λ (v : Volume). IsDiskOf plain_state no_past (plain_state x.volume.disk) v) (sym volume) h.disk;
        volume = subst (λ (v : Volume). At (plain_state x.volume.disk) x.volume.known v) (sym volume) h.volume;
        usable = h.usable;
        points = subst HasKeptPoints (sym volume) h.points;
        aimed = subst (IsAimedBy aim) (sym volume) h.aimed;
      } in (
        led.0,
        led.1,
        same_device a.shown ∙ steps.well,
        subst (λ (o : Option ℕ). StandsOff (with_actor x q) o led.0) (sym (aim_kept e a aim next none)) off,
        λ is. let z : true ≡ false = sym is ∙ none in absurd cc,
      );
  lost = λ is. let z : place.Off x ≡ place.Lost = is in absurd cc;
}

-- a restart

-- the newest point
newest : (x : Resting) (aim : Option ℕ) (s : State) (h : StandsOff x aim s) → Opens s.filter.volume.points h.volume.last.point
newest x aim s h = subst (λ (l : List Point). Opens l h.volume.last.point) (sym h.volume.last.points_are) (inl refl)

-- after the last epoch
pub exhausted : (next : Option ℕ) (x : Resting) → x.volume.known.epoch ≡ most → Does (event.Device device.Restart) next (place.Off x) (Ok (answer_with (shown.Refused code.Exhausted) [])) (place.Off x)
exhausted next x last = record {
  leads = λ aim s h. (
    begun s,
    ended_step mode.Replay s (event.Device device.Restart) (shown.Refused code.Exhausted) (begun s) (device_of mode.Replay device.Restart) refl
        (restart_exhausted h.volume.last.point 0 s h.power (newest x aim s h) (omega arith) (omega (arith, last, h.volume.now.epoch))),
    refl,
    begun_off x aim s h,
    λ is. let z : false ≡ true = is in absurd cc,
  );
  lost = λ is. let z : place.Off x ≡ place.Lost = is in absurd cc;
}

module _ (next : Option ℕ) (x : Resting) (w : OnDisk Blocks) (low : x.volume.known.epoch + 1 ≤ most) (ground : w.disk ≡ record x.volume.disk { aim = next }) (usable : w.known.broken ≡ false)
    (ok : (v : Volume) (p : Point) (earlier : List Point) → At (plain_state x.volume.disk) x.volume.known v → v.points ≡ p ∷ earlier → At (plain_state w.disk) w.known (opened (v.epoch + 1) (take p.count v.log) p.book v.clusters)) where
  module _ (aim : Option ℕ) (s : State) (h : StandsOff x aim s) where
    abbrev v : Volume
    v = s.filter.volume

    abbrev p : Point
    p = h.volume.last.point

    abbrev t : State
    t = with_opened p (v.epoch + 1 + 0) (begun s)

    early : p.count ≤ length v.log
    early = (h.points p (newest x aim s h)).early

    count : length (take p.count v.log) ≡ p.count
    count = length-take p.count v.log ∙ (let m : min p.count (length v.log) ≡ p.count = omega (arith, early) in m)

    stands : sensing.Stands plain_state (filter_on w x.policy) t.filter
    stands =
        let here = starts_opened plain_state (filter_on w x.policy) w.disk w.known x.policy (record { same_size = λ c left. absurd left }) usable refl (v.epoch + 1) (take p.count v.log) p.book v.clusters
        (ok v p h.volume.last.earlier h.volume h.volume.last.points_are) (h.points p (newest x aim s h)).volume in
        let epoch : v.epoch + 1 ≡ v.epoch + 0 + 1 = omega arith in
        let same : new_filter (opened (v.epoch + 1) (take p.count v.log) p.book v.clusters) x.policy ≡ t.filter =
        ap (λ (n : ℕ). new_filter (opened n (take p.count v.log) p.book v.clusters) x.policy) epoch ∙ ap (λ (u : Volume). new_filter u x.policy) (opened_is p 0 v.clusters v early refl)
        ∙ ap (λ (q : Policy). new_filter (opened_at p (v.epoch + 1 + 0) v) q) h.policy in
        subst (λ (f : Filter). sensing.Stands plain_state (filter_on w x.policy) f) same here

    on : (q : Syncing Failing) → acts.stands q t → StandsOn (record { filter = filter_on w x.policy; actor = q }) next t
    on q actor = record {
      is = record {
        mode = h.mode;
        quiet = refl;
        disk = record { fit = λ leaves. absurd (leaves w.disk); clusters = h.disk.clusters ∙ sym (ap (λ (b : Blocks). clusters_for (plain_state b)) ground); powers = refl };
        is = (refl, actor, stands);
      };
      power = refl;
      aims = ap (λ (b : Blocks). b.aim) ground;
    }

    step : IsStep mode.Replay s (event.Device device.Restart) (answer_with (resumed p) []) t
    step = ended_step mode.Replay s (event.Device device.Restart) (resumed p) t (device_of mode.Replay device.Restart) refl (restarts p 0 s h.power (newest x aim s h) (omega arith) (omega (arith, low, h.volume.now.epoch)))

  pub restarted : (r : Result Answer NoMemory) (new : Place) → Reopened w x.policy x.actor r new → Does (event.Device device.Restart) next (place.Off x) r new
  restarted (Err m) new back = record { leads = λ aim s h. back; lost = λ is. back }
  restarted (Ok a) new back = record {
    leads = λ aim s h.
        let answer : answer_with (resumed (p aim s h)) [] ≡ a = sym (back.3 (t aim s h).filter (stands aim s h) ∙ ap (λ (n : ℕ). answer_with (shown.Resumed n (opened_of (p aim s h).book)) []) (count aim s h)) in
        let all : is_resumed a.shown ≡ true = ap (λ (b : Answer). is_resumed b.shown) (sym answer) in
        let aims : aim_after (event.Device device.Restart) a aim next ≡ next = ap (λ (b : Bool). cond b next aim) all in
        let actor = back.2 (begun s) (p aim s h) ((v aim s h).epoch + 1 + 0) h.mode ((is_actor told_by).holds_on x.actor s (begun s) refl refl h.holds) in
        let there : StandsOn (record { filter = filter_on w x.policy; actor = back.0 }) (aim_after (event.Device device.Restart) a aim next) (t aim s h) =
        subst (λ (o : Option ℕ). StandsOn (record { filter = filter_on w x.policy; actor = back.0 }) o (t aim s h)) (sym aims) (on aim s h back.0 actor) in (
          t aim s h,
          subst (λ (b : Answer). IsStep mode.Replay s (event.Device device.Restart) b (t aim s h)) answer (step aim s h),
          ap (λ (b : Answer). is_device b.shown) (sym answer),
          rw back.1 there,
          λ is q earlier e. ap (λ (b : Answer). count_of b.shown) (sym answer) ∙ same_newest (p aim s h) q h.volume.last.earlier earlier (sym h.volume.last.points_are ∙ e),
        );
    lost = λ is. let z : place.Off x ≡ place.Lost = is in absurd cc;
  }
