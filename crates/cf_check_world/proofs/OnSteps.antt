-- Events while the volume is on.
use Rattle.std.proofs.Common.{◌≡◌, ℕ, Bool, cond, true, false, [], Option, refl, sym, ap, subst, ◌∙◌, arith}
use Rattle.std.specs.Prelude.{Err, Ok}
use Rattle.cf_base.specs.declared.answers.Answer.{Answer}
use Rattle.cf_base.specs.declared.answers.Shown.{Shown}
use Rattle.cf_base.specs.declared.answers.Shown.TheVariants as shown
use Rattle.cf_base.specs.declared.codes.Code.{Code}
use Rattle.cf_base.specs.declared.codes.Code.TheVariants as code
use Rattle.cf_base.specs.declared.events.DeviceEvent.TheVariants as device
use Rattle.cf_base.specs.declared.events.Event.{Event}
use Rattle.cf_base.specs.declared.events.Event.TheVariants as event
use Rattle.cf_base.specs.declared.memory.OutOfMemory.{OutOfMemory as NoMemory}
use Rattle.cf_base.specs.declared.policies.Choice.{Choice}
use Rattle.cf_base.specs.declared.policies.Mode.TheVariants as mode
use Rattle.cf_check_report.specs.Playing.{aim_after, resumes}
use Rattle.cf_check_traces.specs.Tests.{is_device, is_device_code}
use Rattle.cf_check_world.proofs.Powers.{still_whole}
use Rattle.cf_check_world.specs.Aimed.{aimed_at, on_stands}
use Rattle.cf_check_world.specs.Devices.{Does, StandsOff, StandsOn, acts, no_past}
use Rattle.cf_check_world.specs.Remotes.{Failing, told_by}
use Rattle.cf_check_world.specs.declared.places.Place.TheVariants as place
use Rattle.cf_check_world.specs.declared.places.Resting.{Resting}
use Rattle.cf_disk.specs.Disk.{Settings}
use Rattle.cf_engine.specs.Actors.{Answers, Syncing}
use Rattle.cf_engine.specs.Playing.{is_actor}
use Rattle.cf_filter_events.proofs.Finished.{device_of}
use Rattle.cf_filter_events.proofs.Powers.{begins_on}
use Rattle.cf_filter_events.specs.Actors.{is_device_event}
use Rattle.cf_filter_events.specs.Answered.{answer_with}
use Rattle.cf_filter_events.specs.Counted.{Counts, CountsTo, meets_device}
use Rattle.cf_filter_events.specs.Meaning.{IsOn, OnBy}
use Rattle.cf_filter_events.specs.Stepped.{Steps}
use Rattle.cf_filter_events.specs.declared.places.RunningOn.{RunningOn as Run}
use Rattle.cf_filter_desk.specs.Desks.{Desk}
use Rattle.cf_model.proofs.TraceLaws.{ended_step}
use Rattle.cf_model.specs.Arrows as arrows
use Rattle.cf_model.specs.Events.{begun, tree_of}
use Rattle.cf_model.specs.Restarts.{crashed}
use Rattle.cf_model.specs.State.{Broken, On, State}
use Rattle.cf_model.specs.Trees.{Ends}
use Rattle.cf_volume_plain.specs.Plains.{Blocks, plain_state}

-- an answer that is not Device

same_code : (c : Code) → is_device_code c ≡ arrows.is_device c
same_code code.Device = refl
same_code _ = refl

pub same_device : (r : Shown) → is_device r ≡ meets_device r
same_device (shown.Refused c) = same_code c
same_device _ = refl

-- no call of a ground that is no disk fails
well_on : (a : Answer) (b c : Blocks) → CountsTo (Ok a) (plain_state b) (plain_state c) → is_device a.shown ≡ false
well_on a b c counts = same_device a.shown ∙ by (meets_device a.shown) refl
  where
    by : (met : Bool) → meets_device a.shown ≡ met → meets_device a.shown ≡ false
    by false is = is
    by true is = let rose = counts.1 is in absurd (omega (arith, rose.1))

-- an event that is none of the device resumes nothing

pub apart : (e : Event) (a : Answer) → is_device_event e ≡ false → resumes e a ≡ false
apart (event.Device d) a other = let z : true ≡ false = other in absurd cc
apart (event.Call c) a other = refl
apart (event.Peer p) a other = refl
apart (event.Engine g) a other = refl
apart (event.Provider p) a other = refl

pub aim_kept : (e : Event) (a : Answer) (aim next : Option ℕ) → resumes e a ≡ false → aim_after e a aim next ≡ aim
aim_kept e a aim next is = ap (λ (b : Bool). cond b next aim) is

on_power : (x : Run Blocks (Syncing Failing)) (s : State) → IsOn acts plain_state no_past x s → (s.power ≡ Broken → ⊥) → s.power ≡ On
on_power x s on whole = by x.filter.desk.broken on.is
  where
    by : (b : Bool) → OnBy acts plain_state b x s → s.power ≡ On
    by true h = absurd (whole h.0)
    by false h = h.0

pub acted : (e : Event) (next : Option ℕ) (x y : Run Blocks (Syncing Failing)) (a : Answer) → is_device_event e ≡ false → Steps mode.Replay (IsOn acts plain_state) e x (Ok a) y → Counts (IsOn acts plain_state) x (Ok a) (plain_state x.filter.disk) (plain_state y.filter.disk)
    → Does e next (place.On x) (Ok a) (place.On y)
acted e next x y a other steps counts = record {
  leads = λ aim s h.
      let led = steps.leads no_past s h.is in
      let count = counts.counts no_past s h.is in
      let well : is_device a.shown ≡ false = well_on a x.filter.disk y.filter.disk count in
      let none : resumes e a ≡ false = apart e a other in
      let power : led.0.power ≡ On = on_power y led.0 led.2 (still_whole mode.Replay s e a led.0 led.1 well (λ is. let z : On ≡ Broken = sym h.power ∙ is in absurd cc)) in
      let stands : StandsOn y aim led.0 = record { is = led.2; power = power; aims = ap (λ (z : Settings). z.aim) count.0.2 ∙ h.aims } in (
        led.0,
        led.1,
        well,
        subst (λ (o : Option ℕ). StandsOn y o led.0) (sym (aim_kept e a aim next none)) stands,
        λ is. let z : true ≡ false = sym is ∙ none in absurd cc,
      );
  lost = λ is. let z : place.On x ≡ place.Lost = is in absurd cc;
}

-- memory ran out
pub lost_on : (e : Event) (next : Option ℕ) (x : Run Blocks (Syncing Failing)) (m : NoMemory) → Does e next (place.On x) (Err m) place.Lost
lost_on e next x m = record { leads = λ aim s h. refl; lost = λ is. refl }

pub stop_on : (calls : ℕ) (next : Option ℕ) (x : Run Blocks (Syncing Failing)) → Does (event.Device (device.Stop calls)) next (place.On x) (Ok (answer_with shown.Done [])) (place.On x)
stop_on calls next x = record {
  leads = λ aim s h. (
    begun s,
    ended_step mode.Replay s (event.Device (device.Stop calls)) shown.Done (begun s) (device_of mode.Replay (device.Stop calls)) refl (refl, refl),
    refl,
    record { is = begins_on (Answers told_by) acts (is_actor told_by) plain_state no_past x s h.is; power = h.power; aims = h.aims },
    λ is. let z : false ≡ true = is in absurd cc,
  );
  lost = λ is. let z : place.On x ≡ place.Lost = is in absurd cc;
}

-- the restart of a volume that is on
refuses : (s : State) → s.power ≡ On → Ends (tree_of (event.Device device.Restart) s) (shown.Refused code.Running) (begun s)
refuses s is = rw is (refl, refl)

pub restart_on : (next : Option ℕ) (x : Run Blocks (Syncing Failing)) → Does (event.Device device.Restart) next (place.On x) (Ok (answer_with (shown.Refused code.Running) [])) (place.On x)
restart_on next x = record {
  leads = λ aim s h. (
    begun s,
    ended_step mode.Replay s (event.Device device.Restart) (shown.Refused code.Running) (begun s) (device_of mode.Replay device.Restart) refl (refuses s h.power),
    refl,
    record { is = begins_on (Answers told_by) acts (is_actor told_by) plain_state no_past x s h.is; power = h.power; aims = h.aims },
    λ is. let z : false ≡ true = is in absurd cc,
  );
  lost = λ is. let z : place.On x ≡ place.Lost = is in absurd cc;
}

-- what a crash finds
abbrev pub resting : Run Blocks (Syncing Failing) → Resting
resting x = record { volume = record { disk = x.filter.disk; known = x.filter.known }; policy = x.filter.desk.policy; actor = x.actor }

pub crash_on : (choice : Choice) (next : Option ℕ) (x : Run Blocks (Syncing Failing)) → Does (event.Device (device.Crash choice)) next (place.On x) (Ok (answer_with shown.Done [])) (place.Off (resting x))
crash_on choice next x = record {
  leads = λ aim s h.
      let on = on_stands x s h.is h.power in
      let actor = is_actor told_by in
      let off : StandsOff (resting x) aim (crashed (begun s)) = record {
        mode = h.is.mode;
        power = refl;
        holds = actor.holds_on x.actor s (crashed (begun s)) refl refl (actor.stands_held x.actor s on.0);
        policy = ap (λ (d : Desk). d.policy) on.1.desk;
        disk = record { fit = h.is.disk.fit; clusters = h.is.disk.clusters; powers = h.is.disk.powers };
        volume = on.1.volume;
        usable = on.1.whole;
        points = on.1.points;
        aimed = aimed_at (place.On x) aim s h;
      } in (
        crashed (begun s),
        ended_step mode.Replay s (event.Device (device.Crash choice)) shown.Done (crashed (begun s)) (device_of mode.Replay (device.Crash choice)) refl (refl, refl),
        refl,
        off,
        λ is. let z : false ≡ true = is in absurd cc,
      );
  lost = λ is. let z : place.On x ≡ place.Lost = is in absurd cc;
}
