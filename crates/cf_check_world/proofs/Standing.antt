-- What a device stands for, before and after an event.
use Rattle.std.proofs.Common.{◌≡◌, ℕ, Bool, true, false, Option, refl, sym, ap, subst}
use Rattle.std.specs.Prelude.{Err, Ok, Result}
use Rattle.cf_base.specs.declared.answers.Answer.{Answer}
use Rattle.cf_base.specs.declared.events.Event.{Event}
use Rattle.cf_base.specs.declared.memory.OutOfMemory.{OutOfMemory as NoMemory}
use Rattle.cf_base.specs.declared.policies.Mode.TheVariants as mode
use Rattle.cf_check_report.specs.Playing.{PlayedTo, Plays, aim_after}
use Rattle.cf_check_world.specs.Devices.{Does, DoesTo, Lives, Stands, StandsOn, acts, no_past}
use Rattle.cf_check_world.specs.Remotes.{Failing, told_by}
use Rattle.cf_check_world.specs.declared.places.Place.{Place}
use Rattle.cf_check_world.specs.declared.places.Place.TheVariants as place
use Rattle.cf_engine.specs.Actors.{Answers, Syncing}
use Rattle.cf_engine.specs.Playing.{is_actor}
use Rattle.cf_filter_events.proofs.Wholes.{on_holds}
use Rattle.cf_filter_events.specs.Meaning.{OnBy}
use Rattle.cf_filter_desk.specs.Desks.{Desk}
use Rattle.cf_filter_machine.specs.Held.{Held}
use Rattle.cf_filter_machine.specs.Sensing as sensing
use Rattle.cf_model.specs.State.{On, State, first_policy, new_filter, new_volume, start}
use Rattle.cf_model.specs.Store.{empty_remote}
use Rattle.cf_volume_plain.specs.Plains.{Blocks, plain_state}
use Rattle.cf_volume_points.specs.Standing.{clusters_for}

-- its remote kept its rules
honest : (d : Place) (aim : Option ℕ) (s : State) → Stands d aim s → s.link.honest ≡ true
honest (place.On x) aim s h = (on_holds (Answers told_by) acts (is_actor told_by) plain_state no_past x s h.is).link.honest refl
honest (place.Off x) aim s h = h.holds.link.honest refl
honest place.Lost aim s h = absurd h

-- what an event leaves

lives_of : (d : Place) (aim : Option ℕ) (s : State) → Stands d aim s → Lives d
lives_of (place.On x) aim s h = (aim, s, h)
lives_of (place.Off x) aim s h = (aim, s, h)
lives_of place.Lost aim s h = absurd h

lives_to : (e : Event) (next aim : Option ℕ) (s : State) (r : Result Answer NoMemory) (new : Place) → DoesTo e next aim s r new → Lives new
lives_to e next aim s (Ok a) new h = lives_of new (aim_after e a aim next) h.0 h.3
lives_to e next aim s (Err m) new h = subst Lives (sym h) (record {})

pub lives_after : (e : Event) (next : Option ℕ) (old : Place) (r : Result Answer NoMemory) (new : Place) → Does e next old r new → Lives old → Lives new
lives_after e next (place.On x) r new did h = lives_to e next h.0 h.1 r new (did.leads h.0 h.1 h.2)
lives_after e next (place.Off x) r new did h = lives_to e next h.0 h.1 r new (did.leads h.0 h.1 h.2)
lives_after e next place.Lost r new did h = subst Lives (sym (did.lost refl)) (record {})

played : (e : Event) (next aim : Option ℕ) (s : State) (r : Result Answer NoMemory) (new : Place) → DoesTo e next aim s r new → PlayedTo Stands e next aim s r new
played e next aim s (Ok a) new h = (h.0, h.1, honest new (aim_after e a aim next) h.0 h.3, λ well. (h.3, h.4))
played e next aim s (Err m) new h = record {}

pub plays : (e : Event) (next : Option ℕ) (old : Place) (r : Result Answer NoMemory) (new : Place) → Does e next old r new → Plays Stands e next old r new
plays e next old r new did = record { leads = λ aim s h. played e next aim s r new (did.leads aim s h) }

-- one that is lost
pub stays_lost : (e : Event) (next : Option ℕ) (m : NoMemory) → Does e next place.Lost (Err m) place.Lost
stays_lost e next m = record { leads = λ aim s h. refl; lost = λ is. refl }

-- a device that was just made
pub started : (x : Held Blocks) (p : Syncing Failing) (aim : Option ℕ) (clusters : ℕ) → sensing.Stands plain_state x (new_filter (new_volume clusters) first_policy) → acts.stands p (start mode.Replay empty_remote clusters) → x.disk.aim ≡ aim
    → clusters_for (plain_state x.disk) ≡ clusters → StandsOn (record { filter = x; actor = p }) aim (start mode.Replay empty_remote clusters)
started x p aim clusters stands begun aims many =
    let s : State = start mode.Replay empty_remote clusters in
    let on : OnBy acts plain_state false (record { filter = x; actor = p }) s = (refl, begun, stands) in
    record {
      is = record {
        mode = refl;
        quiet = ap (λ (k : Desk). k.notes) stands.desk;
        disk = record { fit = λ leaves. absurd (leaves x.disk); clusters = sym many; powers = refl };
        is = subst (λ (b : Bool). OnBy acts plain_state b (record { filter = x; actor = p }) s) (sym (ap (λ (k : Desk). k.broken) stands.desk)) on;
      };
      power = refl;
      aims = aims;
    }
