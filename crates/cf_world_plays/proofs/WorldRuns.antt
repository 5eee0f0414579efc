-- What the trace of a world says.
use Rattle.std.proofs.Common.{◌≡◌, ◌≤◌, ◌+◌, ℕ, true, false, List, [], ◌∷◌, ◌++◌, refl, sym, ap, subst, ◌∙◌, Result, Ok, Err}
use Rattle.std.specs.Prelude.{Option, Some, None, IfOk, is_some}
use Rattle.cf_filter_events.proofs.Wholes.{hands_hold}
use Rattle.cf_filter_events.specs.Actors.{Acts, IsActor}
use Rattle.cf_filter_events.specs.Counted.{GoesOn}
use Rattle.cf_filter_events.specs.Faulted.{faults_shown}
use Rattle.cf_filter_events.specs.Meaning.{Is, LeavesWhatReads}
use Rattle.cf_filter_events.specs.Pasts.{Gains, Past, StandsFor, last_image}
use Rattle.cf_filter_events.specs.Stepped.{actor_of, disk_of}
use Rattle.cf_filter_events.specs.declared.places.Acting.{Acting}
use Rattle.cf_base.specs.declared.answers.Answer.{Answer}
use Rattle.cf_base.specs.declared.events.Event.{Event}
use Rattle.cf_base.specs.declared.memory.OutOfMemory.{OutOfMemory as NoMemory}
use Rattle.cf_base.specs.declared.policies.Choice.{Choice}
use Rattle.cf_disk.specs.Disk.{State as Disk, capped, may_fail}
use Rattle.cf_engine_host.specs.Callbacks.{Answering}
use Rattle.cf_link.proofs.ListedAsks.{listed_asks, lists_on}
use Rattle.cf_link.specs.Faults.{RoseBy}
use Rattle.cf_link.specs.Listed.{Lists}
use Rattle.cf_model.specs.Powers.{StandsNow}
use Rattle.cf_model.specs.State.{State, start}
use Rattle.cf_model.specs.Store.{Held}
use Rattle.cf_world_plays.proofs.Standing.{few_blocks, most_blocks}
use Rattle.cf_volume_points.specs.Standing.{clusters_for}
use Rattle.cf_world_plays.proofs.Counted.{armed_more, armed_none, at_most, met_more, met_none}
use Rattle.cf_world_plays.proofs.OverPowers.{after_all, gains_then, last_then, listed_push, over_push, over_runs}
use Rattle.cf_world_plays.proofs.RemoteCounts.{faulted_more, faulted_none}
use Rattle.cf_world_plays.specs.Acted.{Acted}
use Rattle.cf_world_plays.specs.Led.{HasRunOn, LeadsActor, LeadsWorld, LeavesActor, LeavesText, UsesFew, met_by}
use Rattle.cf_world_plays.specs.RemoteFaults.{faults_by}
use Rattle.cf_world_plays.specs.Steps.{IsLawfulFrom}

module _ {D A : Type 0} (state : D → Disk) (W : Acts A) where
  -- what a world has done is lawful
  pub run_lawful : (disk : D) (first : A) (trace : List (Event × Answer)) (w : Option (Acting D A)) → HasRunOn state W disk first trace w → IsLawfulFrom W (clusters_for (state disk)) first trace
  run_lawful disk first trace None h = absurd h
  run_lawful disk first trace (Some a) h = λ held stood. let r = h held stood in (r.left, over_runs StandsFor W.mode None (start W.mode held (clusters_for (state disk))) r.left trace r.powers r.runs)

  -- one more event

  world_more : {answers : Answering A} (actor : IsActor answers W) (held : Held) (disk : D) (first : A) (trace : List (Event × Answer)) (old new : Acting D A) (e : Event) (a : Answer)
      → Acted state W e (Ok a) old new → LeadsWorld state W held disk first trace old → LeadsWorld state W held disk first (trace ++ (e, a) ∷ []) new
  world_more {answers} actor held disk first trace old new e a acted r =
      let last : Option (List ℕ) = last_image None r.powers in
      let t = acted.steps.leads (record { told = r.told; last = last }) r.left r.is in
      let failed = acted.faults.failed (record { told = r.told; last = last }) r.left r.is in
      let asked = actor.asked (actor_of old) r.left (hands_hold answers W actor state (record { told = r.told; last = last }) old r.left r.is) in
      let asks = actor.asked (actor_of new) t.0 (hands_hold answers W actor state t.2 new t.0 t.6) in
      let counted = acted.counts.counts (record { told = r.told; last = last }) r.left r.is in
      let all : t.2.last ≡ last_image None (r.powers ++ t.1) = after_all StandsFor last e a t.0 t.1 t.2.last t.4 ∙ last_then None r.powers t.1 in
      record {
        left = t.0;
        powers = r.powers ++ t.1;
        told = t.2.told;
        runs = over_push StandsFor W.mode None (start W.mode held (clusters_for (state disk))) r.left t.0 trace r.powers t.1 e a t.2.last r.runs t.3 t.4;
        gains = gains_then r.powers t.1 (state disk).powers r.told t.2.told r.gains t.5;
        met = met_more trace e a (state disk).faults (state (disk_of old)) (state (disk_of new)) r.met counted;
        armed = λ none. armed_more trace e a (state (disk_of old)) (state (disk_of new)) acted.bears counted (r.armed none);
        faulted = faulted_more trace e a (W.remote first).faults (W.remote (actor_of old)) (W.remote (actor_of new)) r.faulted failed;
        exactly = λ fails begun.
            let so = r.exactly fails begun in (
              lists_on fails (faults_shown a) (W.remote (actor_of old)) (W.remote (actor_of new)) so.0 failed,
              listed_push fails W.mode None (start W.mode held (clusters_for (state disk))) r.left t.0 trace r.powers t.1 e a t.2.last r.runs t.3 t.4 so.1
                  (listed_asks fails (faults_shown a) (W.remote (actor_of old)) (W.remote (actor_of new)) r.left.link.remote_asks t.0.link.remote_asks so.0 asked asks failed),
            );
        is = subst (λ (o : Option (List ℕ)). Is W state (record { told = t.2.told; last = o }) new t.0) all t.6;
      }

  goes : {answers : Answering A} (actor : IsActor answers W) (disk : D) (first : A) (trace : List (Event × Answer)) (old new : Option (Acting D A)) (e : Event) (a : Answer)
      → ((x y : Acting D A) → old ≡ Some x → new ≡ Some y → Acted state W e (Ok a) x y) → is_some new ≡ true → HasRunOn state W disk first trace old → HasRunOn state W disk first (trace ++ (e, a) ∷ []) new
  goes actor disk first trace None new e a acted there h = absurd h
  goes actor disk first trace (Some x) None e a acted there h = let z : false ≡ true = there in absurd cc
  goes actor disk first trace (Some x) (Some y) e a acted there h = λ held stood. world_more actor held disk first trace x y e a (acted x y refl refl) (h held stood)

  -- the event with its answer, if there is one
  pub acts : {answers : Answering A} (actor : IsActor answers W) (r : Result Answer NoMemory) (old new : Option (Acting D A)) (e : Event)
      → ((x y : Acting D A) → old ≡ Some x → new ≡ Some y → Acted state W e r x y) → is_some new ≡ true
      → IfOk r (λ a. (disk : D) (first : A) (trace : List (Event × Answer)) → HasRunOn state W disk first trace old → HasRunOn state W disk first (trace ++ (e, a) ∷ []) new)
  acts actor (Ok a) old new e acted there = λ disk first trace h. goes actor disk first trace old new e a acted there h
  acts actor (Err x) old new e acted there = tt

  -- a world in which nothing has happened
  pub begins : (disk : D) (first : A) (a : Acting D A) → ((held : Held) → W.stands first (start W.mode held (clusters_for (state disk))) → (past : Past) → past.told ≡ (state disk).powers → Is W state past a (start W.mode held (clusters_for (state disk)))) → GoesOn (state disk) (state (disk_of a)) → actor_of a ≡ first
      → HasRunOn state W disk first [] (Some a)
  begins disk first a starts goes same = λ held stood. record {
    left = start W.mode held (clusters_for (state disk));
    powers = [];
    told = (state disk).powers;
    runs = (refl, refl);
    gains = refl;
    met = met_none (state disk).faults (state (disk_of a)).faults goes.0;
    armed = λ none. armed_none (state disk) (state (disk_of a)) none goes.1;
    faulted = faulted_none (W.remote first).faults (W.remote (actor_of a)).faults (ap (λ (p : A). (W.remote p).faults) same);
    exactly = λ fails begun. (subst (λ (p : A). Lists fails (W.remote p)) (sym same) begun, record {});
    is = starts held stood (record { told = (state disk).powers; last = None }) refl;
  }

  -- where each disk may leave in a crash what it reads as
  pub few_in : LeavesWhatReads state → (a : Acting D A) (past : Past) (s : State) → Is W state past a s → UsesFew (state (disk_of a)) s
  few_in reads a past s is = (few_blocks W state past a s is, most_blocks W state past reads a s is)

  -- what is handed back

  hands_back : (held : Held) (disk back : D) (first actor : A) (trace : List (Event × Answer)) (a : Acting D A) → ((past : Past) (s : State) → Is W state past a s → (c : List ℕ) → (state back).may_leave c → StandsNow StandsFor s c)
      → ((past : Past) (s : State) → Is W state past a s → (state back).powers ≡ past.told) → ((past : Past) (s : State) → Is W state past a s → W.holds actor s) → ((past : Past) (s : State) → Is W state past a s → UsesFew (state (disk_of a)) s) → back ≡ disk_of a → actor ≡ actor_of a → LeadsWorld state W held disk first trace a → LeadsActor state W held disk first trace back actor
  hands_back held disk back first actor trace a lasts tells holds few same kept r =
      let past : Past = record { told = r.told; last = last_image None r.powers } in
      record {
        left = r.left;
        powers = r.powers;
        runs = r.runs;
        gains = subst (λ (o : Option (List (Choice × List ℕ))). Gains r.powers (state disk).powers o) (sym (tells past r.left r.is)) r.gains;
        met = subst (λ (d : D). capped ((state disk).faults + met_by trace) ≤ (state d).faults) (sym same) r.met;
        armed = λ none. (r.armed none).0;
        reports = λ none. subst (λ (d : D). may_fail (state d).armed ≤ 1) (sym same) (at_most trace (state (disk_of a)) (r.armed none));
        faulted = subst (λ (p : A). RoseBy (faults_by trace) (W.remote first).faults (W.remote p).faults) (sym kept) r.faulted;
        exactly = λ fails begun. (r.exactly fails begun).1;
        lasts = lasts past r.left r.is;
        few = subst (λ (d : D). UsesFew (state d) r.left) (sym same) (few past r.left r.is);
        holds = holds past r.left r.is;
      }

  pub gives : (o : Option (Acting D A)) (a : Acting D A) (back : D) (actor : A) → o ≡ Some a → ((past : Past) (s : State) → Is W state past a s → (c : List ℕ) → (state back).may_leave c → StandsNow StandsFor s c)
      → ((past : Past) (s : State) → Is W state past a s → (state back).powers ≡ past.told) → ((past : Past) (s : State) → Is W state past a s → W.holds actor s) → ((past : Past) (s : State) → Is W state past a s → UsesFew (state (disk_of a)) s) → back ≡ disk_of a → actor ≡ actor_of a
      → (disk : D) (first : A) (trace : List (Event × Answer)) → HasRunOn state W disk first trace o → LeavesActor state W disk first trace back actor
  gives o a back actor some lasts tells holds few same kept disk first trace h held stood =
      hands_back held disk back first actor trace a lasts tells holds few same kept ((subst (λ (x : Option (Acting D A)). HasRunOn state W disk first trace x) some h) held stood)

  -- and what is said of the state
  pub gives_text : (Said : State → Type 0) (o : Option (Acting D A)) (a : Acting D A) (back : D) (actor : A) → o ≡ Some a → ((past : Past) (s : State) → Is W state past a s → Said s) → ((past : Past) (s : State) → Is W state past a s → (c : List ℕ) → (state back).may_leave c → StandsNow StandsFor s c)
      → ((past : Past) (s : State) → Is W state past a s → (state back).powers ≡ past.told) → ((past : Past) (s : State) → Is W state past a s → W.holds actor s) → ((past : Past) (s : State) → Is W state past a s → UsesFew (state (disk_of a)) s) → back ≡ disk_of a → actor ≡ actor_of a
      → (disk : D) (first : A) (trace : List (Event × Answer)) → HasRunOn state W disk first trace o → LeavesText state W disk first trace back actor Said
  unfolding hands_back
  gives_text Said o a back actor some says lasts tells holds few same kept disk first trace h held stood =
      let r = (subst (λ (x : Option (Acting D A)). HasRunOn state W disk first trace x) some h) held stood in
      (hands_back held disk back first actor trace a lasts tells holds few same kept r, says (record { told = r.told; last = last_image None r.powers }) r.left r.is)
