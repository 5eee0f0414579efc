-- Events of two devices are steps of a pair.
use Rattle.std.proofs.Common.{◌≡◌, true, [], refl, sym, ◌∙◌, arith}
use Rattle.std.specs.Prelude.{None, Result, Ok, Err, is_some}
use Rattle.cf_base.specs.declared.answers.Answer.{Answer}
use Rattle.cf_base.specs.declared.events.Event.{Event}
use Rattle.cf_base.specs.declared.events.Event.TheVariants as event
use Rattle.cf_base.specs.declared.events.PeerEvent.{PeerEvent}
use Rattle.cf_base.specs.declared.memory.OutOfMemory.{OutOfMemory as NoMemory}
use Rattle.cf_base.specs.declared.policies.Mode.TheVariants as mode
use Rattle.cf_disk.specs.Disk.{State as Disk}
use Rattle.cf_engine.specs.Actors.{Syncing}
use Rattle.cf_filter_events.specs.Meaning.{Is}
use Rattle.cf_filter_events.specs.Pasts.{Past}
use Rattle.cf_filter_events.specs.Stepped.{disk_of}
use Rattle.cf_filter_events.specs.declared.places.Acting.{Acting}
use Rattle.cf_link.proofs.FaultCounts.{rose_none}
use Rattle.cf_model.specs.State.{State}
use Rattle.cf_pair_events.specs.OfDevices.{is_of_device}
use Rattle.cf_pair_events.specs.declared.answers.PairAnswer.TheVariants as answer
use Rattle.cf_pair_events.specs.declared.comparisons.Comparison.{Comparison}
use Rattle.cf_pair_events.specs.declared.events.PairEvent.TheVariants as pair
use Rattle.cf_pair_lane.specs.declared.absences.Away.{Away}
use Rattle.cf_pair_model.specs.Seen.{held_seen}
use Rattle.cf_pair_model.specs.declared.devices.Device.TheVariants as device
use Rattle.cf_pair_traces.specs.Pairs.{Compares, Pair}
use Rattle.cf_pair_run.proofs.Comparing.{says_equal}
use Rattle.cf_pair_run.specs.Owned.{Owned}
use Rattle.cf_pair_run.specs.Sharing.{Shares, Trusts, resting}
use Rattle.cf_pair_run.specs.Steps.{SteppedBy, Steps, answered_by}
use Rattle.cf_pair_run.specs.Turns.{Turns, Visits}
use Rattle.cf_pair_run.specs.declared.worlds.PairWorld.{PairWorld}
use Rattle.cf_remote.specs.Told.{Told}

-- who has not the remote trusts it as before
trusts_on : (before after : Told) (s : State) → is_some after.held ≡ is_some before.held → Trusts before s → Trusts after s
trusts_on before after s tells h = λ some. h (sym tells ∙ some)

-- nothing is done to a device
none_owned : {D : Type 0} (state : D → Disk) (s : State) (past : Past) (d : D) → Owned state None s past past d d
none_owned state s past d = record { powers = []; power = (refl, refl); gains = refl; disk = refl }

module _ {D R : Type 0} (state : D → Disk) (told : R → Told) (old : PairWorld D R) where
  first_stepped : (e : Event) (r : Result Answer NoMemory) (new : Acting D (Syncing Away)) (after : R) → is_of_device e ≡ true → Turns state told device.First e old.first old.remote r new after
      → (first second : Past) (p : Pair) → Shares state told first second old p → SteppedBy state told (pair.Of device.First e) (answered_by r) first second p old (record { first = new; second = old.second; third = old.third; remote = after })
  first_stepped e (Err m) new after of turns first second p h = record {}
  first_stepped e (Ok a) new after of turns first second p h =
      let t = turns.leads first p.first p.held h.first_is h.held h.first_trusts in
      record {
        left = record p { first = t.left; held = t.left.link.remote };
        first_then = t.then;
        second_then = second;
        step = (of, t.left, t.step, refl);
        settled = λ named. record {};
        shares = record {
          first_is = t.is;
          second_is = h.second_is;
          third_is = h.third_is;
          held = t.remote.held_is;
          first_trusts = t.remote.trusts;
          second_trusts = trusts_on (told old.remote) (told after) p.second t.remote.tells h.second_trusts;
          third_trusts = trusts_on (told old.remote) (told after) p.third t.remote.tells h.third_trusts;
        };
        first_owns = record { powers = t.powers; power = t.power; gains = t.gains; disk = (t.counts, t.bears) };
        second_owns = none_owned state p.second second (disk_of old.second);
        rose = t.remote.rose;
      }

  pub first_steps : (e : Event) (r : Result Answer NoMemory) (new : Acting D (Syncing Away)) (after : R) → is_of_device e ≡ true → Turns state told device.First e old.first old.remote r new after
      → Steps state told (pair.Of device.First e) old (answered_by r) (record { first = new; second = old.second; third = old.third; remote = after })
  first_steps e r new after of turns = record { leads = first_stepped e r new after of turns }

  second_stepped : (e : Event) (r : Result Answer NoMemory) (new : Acting D (Syncing Away)) (after : R) → is_of_device e ≡ true → Turns state told device.Second e old.second old.remote r new after
      → (first second : Past) (p : Pair) → Shares state told first second old p → SteppedBy state told (pair.Of device.Second e) (answered_by r) first second p old (record { first = old.first; second = new; third = old.third; remote = after })
  second_stepped e (Err m) new after of turns first second p h = record {}
  second_stepped e (Ok a) new after of turns first second p h =
      let t = turns.leads second p.second p.held h.second_is h.held h.second_trusts in
      record {
        left = record p { second = t.left; held = held_seen device.Second t.left.link.remote };
        first_then = first;
        second_then = t.then;
        step = (of, t.left, t.step, refl);
        settled = λ named. record {};
        shares = record {
          first_is = h.first_is;
          second_is = t.is;
          third_is = h.third_is;
          held = t.remote.held_is;
          first_trusts = trusts_on (told old.remote) (told after) p.first t.remote.tells h.first_trusts;
          second_trusts = t.remote.trusts;
          third_trusts = trusts_on (told old.remote) (told after) p.third t.remote.tells h.third_trusts;
        };
        first_owns = none_owned state p.first first (disk_of old.first);
        second_owns = record { powers = t.powers; power = t.power; gains = t.gains; disk = (t.counts, t.bears) };
        rose = t.remote.rose;
      }

  pub second_steps : (e : Event) (r : Result Answer NoMemory) (new : Acting D (Syncing Away)) (after : R) → is_of_device e ≡ true → Turns state told device.Second e old.second old.remote r new after
      → Steps state told (pair.Of device.Second e) old (answered_by r) (record { first = old.first; second = new; third = old.third; remote = after })
  second_steps e r new after of turns = record { leads = second_stepped e r new after of turns }

  visit_stepped : (e : PeerEvent) (r : Result Answer NoMemory) (new : Syncing Away) (after : R) → Visits told e old.third old.remote r new after
      → (first second : Past) (p : Pair) → Shares state told first second old p → SteppedBy state told (pair.Peer e) (answered_by r) first second p old (record { first = old.first; second = old.second; third = new; remote = after })
  visit_stepped e (Err m) new after visits first second p h = record {}
  visit_stepped e (Ok a) new after visits first second p h =
      let t = visits.leads p.third p.held h.third_is h.held h.third_trusts in
      record {
        left = record p { third = t.left; held = t.left.link.remote };
        first_then = first;
        second_then = second;
        step = (t.left, t.step, refl);
        settled = λ named. record {};
        shares = record {
          first_is = h.first_is;
          second_is = h.second_is;
          third_is = t.is;
          held = t.remote.held_is;
          first_trusts = trusts_on (told old.remote) (told after) p.first t.remote.tells h.first_trusts;
          second_trusts = trusts_on (told old.remote) (told after) p.second t.remote.tells h.second_trusts;
          third_trusts = t.remote.trusts;
        };
        first_owns = none_owned state p.first first (disk_of old.first);
        second_owns = none_owned state p.second second (disk_of old.second);
        rose = t.remote.rose;
      }

  pub visit_steps : (e : PeerEvent) (r : Result Answer NoMemory) (new : Syncing Away) (after : R) → Visits told e old.third old.remote r new after
      → Steps state told (pair.Peer e) old (answered_by r) (record { first = old.first; second = old.second; third = new; remote = after })
  visit_steps e r new after visits = record { leads = visit_stepped e r new after visits }

  -- a comparison changes nothing

  pub compare_steps : (c : Comparison) → ((a b : Past) (s t : State) → Is resting state a old.first s → Is resting state b old.second t → Compares s t c) → Steps state told pair.Compare old (Ok (answer.Comparison c)) old
  compare_steps c compares = record {
    leads = λ first second p h. record {
      left = p;
      first_then = first;
      second_then = second;
      step = (compares first second p.first p.second h.first_is h.second_is, refl);
      settled = says_equal state first second old.first old.second p c h.first_is h.second_is (compares first second p.first p.second h.first_is h.second_is);
      shares = h;
      first_owns = none_owned state p.first first (disk_of old.first);
      second_owns = none_owned state p.second second (disk_of old.second);
      rose = rose_none (told old.remote).faults (told old.remote).faults (omega arith);
    };
  }
