-- What the trace of a world of two devices says.
use Rattle.std.proofs.Common.{◌≡◌, ◌≤◌, ◌+◌, ℕ, false, List, [], ◌∷◌, ◌++◌, append-nil, refl, sym, ap, subst, ◌∙◌, arith}
use Rattle.std.specs.Prelude.{Option, Some, None, Ok, cond}
use Rattle.cf_base.specs.declared.answers.Answer.{Answer}
use Rattle.cf_base.specs.declared.events.Event.{Event}
use Rattle.cf_base.specs.declared.policies.Choice.{Choice}
use Rattle.cf_disk.specs.Disk.{State as Disk, capped, may_fail}
use Rattle.cf_filter_events.specs.Counted.{GoesOn}
use Rattle.cf_filter_events.specs.Pasts.{Gains, Past, StandsFor, last_image}
use Rattle.cf_filter_events.specs.Stepped.{disk_of}
use Rattle.cf_link.proofs.FaultCounts.{rose_both, rose_none}
use Rattle.cf_link.specs.Faults.{RoseBy}
use Rattle.cf_model.specs.Powers.{StandsNow}
use Rattle.cf_model.specs.State.{State}
use Rattle.cf_model.specs.Store.{Held}
use Rattle.cf_pair_events.specs.declared.answers.PairAnswer.{PairAnswer}
use Rattle.cf_pair_events.specs.declared.events.PairEvent.{PairEvent}
use Rattle.cf_pair_identities.proofs.PairsNamed.{start_pair_named}
use Rattle.cf_pair_model.specs.declared.devices.Device.{Device}
use Rattle.cf_pair_model.specs.declared.devices.Device.TheVariants as device
use Rattle.cf_pair_run.proofs.Agreed.{promised}
use Rattle.cf_pair_run.proofs.OverCuts.{by_last, over_push, over_runs}
use Rattle.cf_pair_run.specs.Led.{HasRun, Leads, LeadsWorld, LeavesDisk, LedDisk, events_by, faults_by, with_some}
use Rattle.cf_pair_run.specs.Runs.{IsLawful}
use Rattle.cf_pair_traces.specs.Pairs.{Pair, start_pair}
use Rattle.cf_pair_run.specs.Owned.{Owned, faults_of, own}
use Rattle.cf_pair_run.specs.Sharing.{Shares}
use Rattle.cf_pair_run.specs.Steps.{Begun, Steps}
use Rattle.cf_pair_run.specs.declared.worlds.PairWorld.{PairWorld}
use Rattle.cf_remote.specs.Peers.{IsHeld}
use Rattle.cf_remote.specs.Told.{Told}
use Rattle.cf_volume_points.specs.Standing.{clusters_for}
use Rattle.cf_world_plays.proofs.Counted.{armed_more, armed_none, at_most, met_more, met_none}
use Rattle.cf_world_plays.proofs.OverPowers.{gains_then, last_then}
use Rattle.cf_world_plays.specs.Led.{FailsArmed, armed_after, met_by}

-- one more event

some_push : {A : Type 0} (o : Option A) (xs ys : List A) → with_some o (xs ++ ys) ≡ with_some o xs ++ ys
some_push None xs ys = refl
some_push (Some x) xs ys = refl

events_push : (d : Device) (trace : List (PairEvent × PairAnswer)) (e : PairEvent) (a : PairAnswer) → events_by d (trace ++ (e, a) ∷ []) ≡ events_by d trace ++ with_some (own d e a) []
events_push d [] e a = refl
events_push d (x ∷ xs) e a = ap (with_some (own d x.0 x.1)) (events_push d xs e a) ∙ some_push (own d x.0 x.1) (events_by d xs) (with_some (own d e a) [])

faults_push : (trace : List (PairEvent × PairAnswer)) (e : PairEvent) (a : PairAnswer) → faults_by (trace ++ (e, a) ∷ []) ≡ faults_by trace + faults_of a
faults_push [] e a = omega arith
faults_push (x ∷ xs) e a = let h = faults_push xs e a in omega (arith, h)

-- of a disk

module _ {D : Type 0} (state : D → Disk) where
  led_more : (o : Option (Event × Answer)) (t : State) (past then : Past) (disk now next : D) (powers : List (Choice × List ℕ)) (mine : List (Event × Answer)) (w : Owned state o t past then now next) → LedDisk (state disk) (state now) past.told powers mine
      → LedDisk (state disk) (state next) then.told (powers ++ w.powers) (mine ++ with_some o [])
  led_more None t past then disk now next powers mine w h = record {
    gains = gains_then powers w.powers (state disk).powers past.told then.told h.gains w.gains;
    met = subst (λ (xs : List (Event × Answer)). capped ((state disk).faults + met_by xs) ≤ (state next).faults) (sym (append-nil mine)) (subst (λ (d : D). capped ((state disk).faults + met_by mine) ≤ (state d).faults) (sym w.disk) h.met);
    armed = λ none. subst (λ (xs : List (Event × Answer)). FailsArmed false xs × (may_fail (state next).armed ≤ cond (armed_after false xs) 1 0)) (sym (append-nil mine))
        (subst (λ (d : D). FailsArmed false mine × (may_fail (state d).armed ≤ cond (armed_after false mine) 1 0)) (sym w.disk) (h.armed none));
  }
  led_more (Some x) t past then disk now next powers mine w h = record {
    gains = gains_then powers w.powers (state disk).powers past.told then.told h.gains w.gains;
    met = met_more mine x.0 x.1 (state disk).faults (state now) (state next) h.met w.disk.0;
    armed = λ none. armed_more mine x.0 x.1 (state now) (state next) w.disk.1 w.disk.0 (h.armed none);
  }

  -- the image that the last power cut left
  last_more : (o : Option (Event × Answer)) (t : State) (past then : Past) (d e : D) (powers : List (Choice × List ℕ)) (w : Owned state o t past then d e) → past.last ≡ last_image None powers → then.last ≡ last_image None (powers ++ w.powers)
  last_more o t past then d e powers w is =
      sym (by_last past.last o t w.powers then.last [] w.power) ∙ ap (λ (i : Option (List ℕ)). last_image i w.powers) is ∙ last_then None powers w.powers

  -- what is handed back of a disk
  leaves : (disk now back : D) (tells : Option (List (Choice × List ℕ))) (powers : List (Choice × List ℕ)) (mine : List (Event × Answer)) (left : State) → back ≡ now → (state back).powers ≡ tells → ((c : List ℕ) → (state back).may_leave c → StandsNow StandsFor left c)
      → LedDisk (state disk) (state now) tells powers mine → LeavesDisk (state disk) (state back) powers mine left
  leaves disk now back tells powers mine left same told lasts h = record {
    gains = subst (λ (o : Option (List (Choice × List ℕ))). Gains powers (state disk).powers o) (sym told) h.gains;
    met = subst (λ (d : D). capped ((state disk).faults + met_by mine) ≤ (state d).faults) (sym same) h.met;
    armed = λ none. (h.armed none).0;
    reports = λ none. subst (λ (d : D). may_fail (state d).armed ≤ 1) (sym same) (at_most mine (state now) (h.armed none));
    lasts = lasts;
  }

-- a disk that was just made
led_none : (disk now : Disk) → GoesOn disk now → LedDisk disk now disk.powers [] []
led_none disk now goes = record { gains = refl; met = met_none disk.faults now.faults goes.0; armed = λ none. armed_none disk now none goes.1 }

module _ {D R : Type 0} (state : D → Disk) (told : R → Told) (first second : D) (remote : R) where
  abbrev began : Held → Pair
  began held = start_pair held (clusters_for (state first)) (clusters_for (state second))

  -- what a world has done is lawful
  pub run_lawful : (trace : List (PairEvent × PairAnswer)) (w : PairWorld D R) → HasRun state told first second remote trace w → IsLawful state told first second remote trace
  run_lawful trace w h = λ held is. let r = h held is in (r.left, over_runs false None None (began held) r.left trace r.first_powers r.second_powers r.runs)

  -- of the world

  world_more : (held : Held) (trace : List (PairEvent × PairAnswer)) (old new : PairWorld D R) (e : PairEvent) (a : PairAnswer) → Steps state told e old (Ok a) new → LeadsWorld state told held first second remote trace old → LeadsWorld state told held first second remote (trace ++ (e, a) ∷ []) new
  world_more held trace old new e a steps r =
      let one : Past = record { told = r.first_told; last = last_image None r.first_powers } in
      let two : Past = record { told = r.second_told; last = last_image None r.second_powers } in
      let s = steps.leads one two r.left r.shares in
      record {
        left = s.left;
        first_powers = r.first_powers ++ s.first_owns.powers;
        second_powers = r.second_powers ++ s.second_owns.powers;
        first_told = s.first_then.told;
        second_told = s.second_then.told;
        runs =
            over_push false None None (began held) r.left s.left trace r.first_powers r.second_powers s.first_owns.powers s.second_owns.powers e a s.first_then.last s.second_then.last
            (λ _. start_pair_named false held (clusters_for (state first)) (clusters_for (state second))) r.runs s.step s.settled
            s.first_owns.power s.second_owns.power;
        first_led =
            subst (λ (xs : List (Event × Answer)). LedDisk (state first) (state (disk_of new.first)) s.first_then.told (r.first_powers ++ s.first_owns.powers) xs) (sym (events_push device.First trace e a))
            (led_more state (own device.First e a) s.left.first one s.first_then first (disk_of old.first) (disk_of new.first) r.first_powers (events_by device.First trace) s.first_owns r.first_led);
        second_led =
            subst (λ (xs : List (Event × Answer)). LedDisk (state second) (state (disk_of new.second)) s.second_then.told (r.second_powers ++ s.second_owns.powers) xs) (sym (events_push device.Second trace e a))
            (led_more state (own device.Second e a) s.left.second two s.second_then second (disk_of old.second) (disk_of new.second) r.second_powers (events_by device.Second trace) s.second_owns r.second_led);
        faulted =
            subst (λ (n : ℕ). RoseBy n (told remote).faults (told new.remote).faults) (sym (faults_push trace e a))
            (rose_both (faults_by trace) (faults_of a) (told remote).faults (told old.remote).faults (told new.remote).faults r.faulted s.rose);
        shares =
            subst (λ (i : Option (List ℕ)). Shares state told (record { told = s.first_then.told; last = i }) (record { told = s.second_then.told; last = last_image None (r.second_powers ++ s.second_owns.powers) }) new s.left)
            (last_more state (own device.First e a) s.left.first one s.first_then (disk_of old.first) (disk_of new.first) r.first_powers s.first_owns refl)
            (subst (λ (i : Option (List ℕ)). Shares state told (record { told = s.first_then.told; last = s.first_then.last }) (record { told = s.second_then.told; last = i }) new s.left)
            (last_more state (own device.Second e a) s.left.second two s.second_then (disk_of old.second) (disk_of new.second) r.second_powers s.second_owns refl)
            s.shares);
      }

  pub run_more : (trace : List (PairEvent × PairAnswer)) (old new : PairWorld D R) (e : PairEvent) (a : PairAnswer) → Steps state told e old (Ok a) new → HasRun state told first second remote trace old → HasRun state told first second remote (trace ++ (e, a) ∷ []) new
  run_more trace old new e a steps h = λ held is. world_more held trace old new e a steps (h held is)

  -- a world in which nothing has happened
  pub begins : (w : PairWorld D R) → Begun state told first second remote w → HasRun state told first second remote [] w
  begins w b = λ held is. record {
    left = began held;
    first_powers = [];
    second_powers = [];
    first_told = (state first).powers;
    second_told = (state second).powers;
    runs = (refl, refl, refl);
    first_led = led_none (state first) (state (disk_of w.first)) b.first_goes;
    second_led = led_none (state second) (state (disk_of w.second)) b.second_goes;
    faulted = rose_none (told remote).faults (told w.remote).faults (let e = ap (λ (r : R). (told r).faults) b.same in omega (e, arith));
    shares = b.shares held (record { told = (state first).powers; last = None }) (record { told = (state second).powers; last = None }) is refl refl;
  }

  -- what is handed back

  pub gives : (w : PairWorld D R) (a b : D) (after : R) (trace : List (PairEvent × PairAnswer)) → ((x y : Past) (p : Pair) → Shares state told x y w p → (c : List ℕ) → (state a).may_leave c → StandsNow StandsFor p.first c) → ((x y : Past) (p : Pair) → Shares state told x y w p → (c : List ℕ) → (state b).may_leave c → StandsNow StandsFor p.second c)
      → ((x y : Past) (p : Pair) → Shares state told x y w p → (state a).powers ≡ x.told) → ((x y : Past) (p : Pair) → Shares state told x y w p → (state b).powers ≡ y.told) → a ≡ disk_of w.first → b ≡ disk_of w.second → after ≡ w.remote
      → HasRun state told first second remote trace w → Leads state told first second remote trace a b after
  gives w a b after trace lasts rests tells says one two same h = λ held is.
      let r = h held is in
      let x : Past = record { told = r.first_told; last = last_image None r.first_powers } in
      let y : Past = record { told = r.second_told; last = last_image None r.second_powers } in
      record {
        left = r.left;
        first_powers = r.first_powers;
        second_powers = r.second_powers;
        runs = r.runs;
        first_leaves = leaves state first (disk_of w.first) a r.first_told r.first_powers (events_by device.First trace) r.left.first one (tells x y r.left r.shares) (lasts x y r.left r.shares) r.first_led;
        second_leaves = leaves state second (disk_of w.second) b r.second_told r.second_powers (events_by device.Second trace) r.left.second two (says x y r.left r.shares) (rests x y r.left r.shares) r.second_led;
        faulted = subst (λ (z : R). RoseBy (faults_by trace) (told remote).faults (told z).faults) (sym same) r.faulted;
        holds = subst (λ (z : R). IsHeld (told z).held r.left.held) (sym same) r.shares.held;
        promised = promised (began held) trace r.left (over_runs false None None (began held) r.left trace r.first_powers r.second_powers r.runs);
      }
