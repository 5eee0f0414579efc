-- An event of a device over its lane.
use Rattle.std.proofs.Common.{◌≡◌, ℕ, ◌+◌, ◌==◌, ◌&&◌, Bool, true, false, refl, sym, ap, subst, ◌∙◌, arith, eqb-true}
use Rattle.std.specs.Prelude.{Result, Ok, Err}
use Rattle.cf_base.specs.declared.answers.Answer.{Answer}
use Rattle.cf_base.specs.declared.events.Event.{Event}
use Rattle.cf_base.specs.declared.events.Event.TheVariants as event
use Rattle.cf_base.specs.declared.events.PeerEvent.{PeerEvent}
use Rattle.cf_base.specs.declared.memory.OutOfMemory.{OutOfMemory as NoMemory}
use Rattle.cf_base.specs.declared.policies.Mode.TheVariants as mode
use Rattle.cf_disk.specs.Disk.{State as Disk}
use Rattle.cf_engine.specs.Actors.{Answers, Syncing, with_remote}
use Rattle.cf_engine.specs.Playing.{is_actor}
use Rattle.cf_filter_events.proofs.Wholes.{hands_hold}
use Rattle.cf_filter_events.specs.Actors.{StepsBeside}
use Rattle.cf_filter_events.specs.Counted.{CountsBy, CountsOver, arms}
use Rattle.cf_filter_events.specs.Faulted.{Faults, FaultsTo, faults_shown}
use Rattle.cf_filter_events.specs.Meaning.{Is}
use Rattle.cf_filter_events.specs.Pasts.{Past}
use Rattle.cf_filter_events.specs.Stepped.{Bears, StepsOver, actor_of, disk_of, with_actor}
use Rattle.cf_filter_events.specs.declared.places.Acting.{Acting}
use Rattle.cf_link.proofs.FaultCounts.{failed_rose, failed_tells}
use Rattle.cf_link.specs.Faults.{RoseBy}
use Rattle.cf_model.specs.State.{State}
use Rattle.cf_model.specs.Store.{Held}
use Rattle.cf_pair_lane.specs.Lanes.{Laned, told_by}
use Rattle.cf_pair_lane.specs.declared.absences.Away.{Away}
use Rattle.cf_pair_model.specs.Seen.{held_seen}
use Rattle.cf_pair_model.specs.declared.devices.Device.{Device}
use Rattle.cf_pair_model.specs.declared.devices.Device.TheVariants as device
use Rattle.cf_pair_traces.specs.Pairs.{facing}
use Rattle.cf_pair_run.proofs.Laning.{away, held_left, holds_comes, holds_goes, new_lane, seen_some, stands_comes, stands_goes, trusts_left}
use Rattle.cf_pair_run.proofs.Moving.{actor_is, disk_stays, last_actor, moved}
use Rattle.cf_pair_run.specs.Owned.{is_same}
use Rattle.cf_pair_run.specs.Sharing.{IsThird, Trusts, laned, resting}
use Rattle.cf_pair_run.specs.Turns.{Left, Turned, TurnedBy, Turns, Visited, VisitedBy, Visits, is_clear, passed_as, passed_by}
use Rattle.cf_remote.specs.Peers.{IsHeld}
use Rattle.cf_remote.specs.Told.{Told}

-- a lane that is clear

both_first : (a b : Bool) → (a && b) ≡ true → a ≡ true
both_first true b h = refl
both_first false b h = let z : false ≡ true = h in absurd cc

both_second : (a b : Bool) → (a && b) ≡ true → b ≡ true
both_second true b h = h
both_second false b h = let z : false ≡ true = h in absurd cc

same_devices : (d e : Device) → is_same d e ≡ true → e ≡ d
same_devices device.First device.First h = refl
same_devices device.First device.Second h = let z : false ≡ true = h in absurd cc
same_devices device.Second device.First h = let z : false ≡ true = h in absurd cc
same_devices device.Second device.Second h = refl

pub record Clear {R : Type 0} (l : Laned R) (d : Device) : Type 0 where
  pub none : l.faults ≡ 0
  pub device_is : l.device ≡ d

clear_of : {R : Type 0} (l : Laned R) (d : Device) → is_clear l d ≡ true → Clear l d
clear_of l d h = record { none = eqb-true l.faults 0 (both_first (l.faults == 0) (is_same d l.device) h); device_is = same_devices d l.device (both_second (l.faults == 0) (is_same d l.device) h) }

-- the counts of a remote behind a lane that refused nothing
rose_within : (n a b k : ℕ) → k ≡ 0 → RoseBy n (a + 0) (b + k) → RoseBy n a b
rose_within n a b k none h =
    let from : a + 0 ≡ a = omega arith in
    let to : b + k ≡ b = omega (none, arith) in
    subst (λ (m : ℕ). RoseBy n m b) from (subst (λ (m : ℕ). RoseBy n (a + 0) m) to h)

module _ {R : Type 0} (told : R → Told) where
  -- what an event leaves of the remote
  left_of : (d : Device) (before : R) (l : Laned R) (a : Answer) (held : Held) (t : State) → Clear l d → FaultsTo (Ok a) (told_by told (new_lane d before)) (told_by told l) → IsHeld (told l.inner).held held → Trusts (told l.inner) t → Left a held t (told before) (told l.inner)
  left_of d before l a held t clear faults is trusts = record {
    held_is = is;
    trusts = trusts;
    tells =
        sym (seen_some l.device (told l.inner).held) ∙ failed_tells (faults_shown a) (told_by told (new_lane d before)) (told_by told l) faults
        ∙ seen_some d (told before).held;
    rose = rose_within (faults_shown a) (told before).faults (told l.inner).faults l.faults clear.none (failed_rose (faults_shown a) (told_by told (new_lane d before)) (told_by told l) faults);
  }

  -- of one device

  module _ {D : Type 0} (state : D → Disk) (d : Device) (e : Event) (old : Acting D (Syncing Away)) (before : R) where
    -- the device with the remote
    abbrev pub faced : Acting D (Syncing (Laned R))
    faced = with_actor (with_remote (new_lane d before) (actor_of old)) old

    -- and at rest again
    abbrev pub rested : Acting D (Syncing (Laned R)) → Acting D (Syncing Away)
    rested y = with_actor (with_remote away (actor_of y)) y

    abbrev pub lane_of : Acting D (Syncing (Laned R)) → Laned R
    lane_of y = (actor_of y).engine.agent.link.remote

    turned : (y : Acting D (Syncing (Laned R))) (a : Answer) → StepsOver mode.Replay (Is (laned told) state) e faced (Ok a) y → CountsOver (Is (laned told) state) e faced (Ok a) (state (disk_of faced)) (state (disk_of y)) → Bears e (state (disk_of faced)) (state (disk_of y))
        → Faults (Is (laned told) state) faced (Ok a) ((laned told).remote (actor_of faced)) ((laned told).remote (actor_of y)) → Clear (lane_of y) d
        → (past : Past) (s : State) (held : Held) → Is resting state past old s → IsHeld (told before).held held → Trusts (told before) s → Turned state told d e a past (facing (held_seen d held) s) old before (rested y) (lane_of y).inner
    turned y a steps counts bears faults clear past s held is holds trusts =
        let t : State = facing (held_seen d held) s in
        let there : Is (laned told) state past faced t =
        moved resting (laned told) state past refl s t.link (with_remote (new_lane d before) (actor_of old)) old (stands_comes told d before held (actor_of old) s holds trusts) (holds_comes told d before held (actor_of old) s holds trusts) is in
        let p = steps.leads past t there in
        let own = hands_hold (Answers (told_by told)) (laned told) (is_actor (told_by told)) state p.2 y p.0 p.6 in
        let failed : FaultsTo (Ok a) (told_by told (new_lane d before)) (told_by told (lane_of y)) =
        subst (λ (x : Syncing (Laned R)). FaultsTo (Ok a) (told_by told x.engine.agent.link.remote) (told_by told (lane_of y))) (actor_is (with_remote (new_lane d before) (actor_of old)) old) (faults.failed past t there) in
        record {
          left = p.0;
          powers = p.1;
          then = p.2;
          step = p.3;
          power = p.4;
          gains = p.5;
          is = moved (laned told) resting state p.2 refl p.0 p.0.link (with_remote away (actor_of y)) y (stands_goes told (actor_of y) p.0) (holds_goes told (actor_of y) p.0) p.6;
          counts =
              subst (λ (x : D). CountsBy (arms e) (Ok a) (state (disk_of old)) (state x)) (sym (disk_stays (with_remote away (actor_of y)) y))
              (subst (λ (x : D). CountsBy (arms e) (Ok a) (state x) (state (disk_of y))) (disk_stays (with_remote (new_lane d before) (actor_of old)) old) (counts.counts past t there));
          bears =
              subst (λ (x : D). Bears e (state (disk_of old)) (state x)) (sym (disk_stays (with_remote away (actor_of y)) y))
              (subst (λ (x : D). Bears e (state x) (state (disk_of y))) (disk_stays (with_remote (new_lane d before) (actor_of old)) old) bears);
          remote = left_of d before (lane_of y) a (held_seen d p.0.link.remote) p.0 clear failed (held_left told (actor_of y) p.0 d clear.device_is own) (trusts_left told (actor_of y) p.0 own);
        }

    turned_by : (y : Acting D (Syncing (Laned R))) (r : Result Answer NoMemory) (b : Bool) → is_clear (lane_of y) d ≡ b → StepsOver mode.Replay (Is (laned told) state) e faced r y → CountsOver (Is (laned told) state) e faced r (state (disk_of faced)) (state (disk_of y)) → Bears e (state (disk_of faced)) (state (disk_of y))
        → Faults (Is (laned told) state) faced r ((laned told).remote (actor_of faced)) ((laned told).remote (actor_of y))
        → (past : Past) (s : State) (held : Held) → Is resting state past old s → IsHeld (told before).held held → Trusts (told before) s → TurnedBy state told d e (passed_as b r) past (facing (held_seen d held) s) old before (rested y) (lane_of y).inner
    turned_by y (Ok a) true clear steps counts bears faults = turned y a steps counts bears faults (clear_of (lane_of y) d clear)
    turned_by y (Err m) true clear steps counts bears faults = λ past s held is holds trusts. record {}
    turned_by y r false clear steps counts bears faults = λ past s held is holds trusts. record {}

    pub turns : (y : Acting D (Syncing (Laned R))) (r : Result Answer NoMemory) → StepsOver mode.Replay (Is (laned told) state) e faced r y → CountsOver (Is (laned told) state) e faced r (state (disk_of faced)) (state (disk_of y)) → Bears e (state (disk_of faced)) (state (disk_of y))
        → Faults (Is (laned told) state) faced r ((laned told).remote (actor_of faced)) ((laned told).remote (actor_of y)) → Turns state told d e old before (passed_by (lane_of y) d r) (rested y) (lane_of y).inner
    turns y r steps counts bears faults = record { leads = turned_by y r (is_clear (lane_of y) d) refl steps counts bears faults }

  -- of the third device

  module _ (e : PeerEvent) (old : Syncing Away) (before : R) where
    abbrev pub faced_third : Syncing (Laned R)
    faced_third = with_remote (new_lane device.First before) old

    visited : (y : Syncing (Laned R)) (a : Answer) → StepsBeside (laned told) (event.Peer e) faced_third (Ok a) y → Clear y.engine.agent.link.remote device.First
        → (s : State) (held : Held) → IsThird old s → IsHeld (told before).held held → Trusts (told before) s → Visited told e a (facing held s) before (with_remote away y) y.engine.agent.link.remote.inner
    visited y a steps clear s held is holds trusts =
        let p = steps.on (facing held s) is.mode (stands_comes told device.First before held old s holds trusts is.stands) in
        let faults = steps.faults (facing held s) (holds_comes told device.First before held old s holds trusts is.stands.held) in
        record {
          left = p.0;
          step = p.1;
          is = record { mode = p.2.mode ∙ is.mode; stands = stands_goes told y p.0 p.3 };
          remote = left_of device.First before y.engine.agent.link.remote a p.0.link.remote p.0 clear faults (held_left told y p.0 device.First clear.device_is p.3.held) (trusts_left told y p.0 p.3.held);
        }

    visited_by : (y : Syncing (Laned R)) (r : Result Answer NoMemory) (b : Bool) → is_clear y.engine.agent.link.remote device.First ≡ b → StepsBeside (laned told) (event.Peer e) faced_third r y
        → (s : State) (held : Held) → IsThird old s → IsHeld (told before).held held → Trusts (told before) s → VisitedBy told e (passed_as b r) (facing held s) before (with_remote away y) y.engine.agent.link.remote.inner
    visited_by y (Ok a) true clear steps = visited y a steps (clear_of y.engine.agent.link.remote device.First clear)
    visited_by y (Err m) true clear steps = λ s held is holds trusts. record {}
    visited_by y r false clear steps = λ s held is holds trusts. record {}

    pub visits : (y : Syncing (Laned R)) (r : Result Answer NoMemory) → StepsBeside (laned told) (event.Peer e) faced_third r y → Visits told e old before (passed_by y.engine.agent.link.remote device.First r) (with_remote away y) y.engine.agent.link.remote.inner
    visits y r steps = record { leads = visited_by y r (is_clear y.engine.agent.link.remote device.First) refl steps }

-- by the steps of the code

module _ {R : Type 0} (told : R → Told) where
  pub visits_by : (e : PeerEvent) (old : Syncing Away) (before : R) (lane : Laned R) (x y : Syncing (Laned R)) (r passed : Result Answer NoMemory) (new : Syncing Away) (l : Laned R) (after : R)
      → lane ≡ new_lane device.First before → x ≡ with_remote lane old → StepsBeside (laned told) (event.Peer e) x r y → new ≡ with_remote away y → l ≡ y.engine.agent.link.remote → passed ≡ passed_by l device.First r → after ≡ l.inner → Visits told e old before passed new after
  visits_by e old before lane x y r passed new l after le xe steps ne se pe ae =
      let first : StepsBeside (laned told) (event.Peer e) (with_remote (new_lane device.First before) old) r y =
      subst (λ (z : Syncing (Laned R)). StepsBeside (laned told) (event.Peer e) z r y) (xe ∙ ap (λ (q : Laned R). with_remote q old) le) steps in
      rw (ae, pe, ne, se) (visits told e old before y r first)

  pub turns_by : {D U : Type 0} (state : D → Disk) (d : Device) (e : Event) (old : Acting D (Syncing Away)) (before : R) (unit : U) (volume : Acting D U) (actor : Syncing Away) (lane : Laned R) (first : Syncing (Laned R)) (x y : Acting D (Syncing (Laned R))) (r passed : Result Answer NoMemory)
      (rest : Acting D U) (last : Syncing (Laned R)) (l : Laned R) (tired : Syncing Away) (new : Acting D (Syncing Away)) (after : R)
      → volume ≡ with_actor unit old → actor ≡ actor_of old → lane ≡ new_lane d before → first ≡ with_remote lane actor → x ≡ with_actor first volume
      → StepsOver mode.Replay (Is (laned told) state) e x r y → CountsOver (Is (laned told) state) e x r (state (disk_of x)) (state (disk_of y)) → Bears e (state (disk_of x)) (state (disk_of y)) → Faults (Is (laned told) state) x r ((laned told).remote (actor_of x)) ((laned told).remote (actor_of y))
      → rest ≡ with_actor unit y → last ≡ actor_of y → tired ≡ with_remote away last → l ≡ last.engine.agent.link.remote → passed ≡ passed_by l d r → new ≡ with_actor tired rest → after ≡ l.inner
      → Turns state told d e old before passed new after
  turns_by {D} state d e old before unit volume actor lane first x y r passed rest last l tired new after ve ace le fe xe steps counts bears faults re lae te se pe ne ae =
      let world : x ≡ with_actor (with_remote (new_lane d before) (actor_of old)) old =
      xe ∙ (λ j. with_actor ((fe ∙ (λ k. with_remote (le k) (ace k))) j) (ve j)) ∙ last_actor (with_remote (new_lane d before) (actor_of old)) unit old in
      let end : new ≡ with_actor (with_remote away (actor_of y)) y = ne ∙ (λ j. with_actor ((te ∙ ap (with_remote away) lae) j) (re j)) ∙ last_actor (with_remote away (actor_of y)) unit y in
      let seat : l ≡ (actor_of y).engine.agent.link.remote = se ∙ ap (λ (z : Syncing (Laned R)). z.engine.agent.link.remote) lae in
      rw (ae, pe, end, seat) (turns told state d e old before y r
      (subst (λ (z : Acting D (Syncing (Laned R))). StepsOver mode.Replay (Is (laned told) state) e z r y) world steps)
      (subst (λ (z : Acting D (Syncing (Laned R))). CountsOver (Is (laned told) state) e z r (state (disk_of z)) (state (disk_of y))) world counts)
      (subst (λ (z : Acting D (Syncing (Laned R))). Bears e (state (disk_of z)) (state (disk_of y))) world bears)
      (subst (λ (z : Acting D (Syncing (Laned R))). Faults (Is (laned told) state) z r ((laned told).remote (actor_of z)) ((laned told).remote (actor_of y))) world faults))
