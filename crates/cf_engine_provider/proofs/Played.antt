-- Parts of a callback, one after the other.
use Rattle.std.proofs.Common.{◌≡◌, ℕ, ◌+◌, Bool, true, false, List, [], ◌∷◌, ◌++◌, refl, sym, ◌∙◌, ap, subst, append-nil, arith}
use Rattle.cf_engine_provider.specs.Agencies.{Agency, Any, Plays, Sees, faults_among}
use Rattle.cf_engine_provider.specs.Parts.{Skips, skip_acts}
use Rattle.cf_base.specs.declared.answers.Shown.{Shown}
use Rattle.cf_base.specs.declared.codes.Code.{Code}
use Rattle.cf_base.specs.declared.items.SeenPath.{SeenPath}
use Rattle.cf_base.specs.declared.operations.Operation.{Operation}
use Rattle.cf_link.specs.Faults.{AsksFailed}
use Rattle.cf_link.proofs.FaultCounts.{failed_none}
use Rattle.cf_model.proofs.TreeLaws.{ends_mapped, ends_then, stops_first, stops_mapped, stops_then}
use Rattle.cf_model.specs.Arrows.{Arrow, ret, seq, then_do, unit}
use Rattle.cf_model.specs.Operations.{execute_with}
use Rattle.cf_model.specs.Ports.{Act, Acts, Did, Failed, HasFailed, seeing}
use Rattle.cf_model.specs.Skips.{skip, skip_line, skipped}
use Rattle.cf_model.specs.State.{Filter, State, in_filter, with_filter}
use Rattle.cf_model.specs.Trees.{Ends, Stops, Tree}
use Rattle.cf_remote.specs.Told.{Told}

module _ {R : Type 0} (told : R → Told) where
  -- nothing

  pub nothing : (Holds : Filter → Type 0) (p : Agency R) → Plays told Holds (ret unit) p [] p
  nothing Holds p = record {
    ends = λ z g sees holds acts fine. record { state = z; is = (refl, refl); filter = sym acts; sees = sees };
    stops = λ z g sees holds acts failed. absurd failed;
    faults = failed_none (told p.link.remote);
  }

  -- the same part, where filters of this kind are
  pub within : (Holds : Filter → Type 0) (f g : Arrow State (Unit {0})) (p q : Agency R) (acts : List Act) → ((z : State) → Holds z.filter → f z ≡ g z) → Plays told Holds f p acts q → Plays told Holds g p acts q
  within Holds f g p q acts same h = record {
    ends = λ z w sees holds does fine.
        let e = h.ends z w sees holds does fine in
        record { state = e.state; is = subst (λ (t : Tree State (Unit {0})). Ends t unit e.state) (same z holds) e.is; filter = e.filter; sees = e.sees };
    stops = λ z w sees holds does failed.
        let e = h.stops z w sees holds does failed in
        record { state = e.state; is = subst (λ (t : Tree State (Unit {0})). Stops t e.state) (same z holds) e.is; filter = e.filter; sees = e.sees };
    faults = h.faults;
  }

  pub as_well : (Holds : Filter → Type 0) (f g : Arrow State (Unit {0})) (p q : Agency R) (acts : List Act) → ((z : State) → Holds z.filter → f z ≡ g z) → Plays told Any f p acts q → Plays told Holds g p acts q
  as_well Holds f g p q acts same h = within Holds f g p q acts same (record {
    ends = λ z w sees holds does fine. h.ends z w sees (record {}) does fine;
    stops = λ z w sees holds does failed. h.stops z w sees (record {}) does failed;
    faults = h.faults;
  })

  -- a step that is left out

  after_skip : (b : Bool) (c : Code) (s : State) (more : List Act) (g : Filter) → Acts s.filter (skip_acts b c ++ more) g → Acts (skip_line b c s).filter more g
  after_skip true c s more g h = h
  after_skip false c s more g h = h

  not_failed : (b : Bool) (c : Code) (more : List Act) → HasFailed (skip_acts b c ++ more) → HasFailed more
  not_failed true c more h = h
  not_failed false c more h = h

  has_failed : (b : Bool) (c : Code) (more : List Act) → HasFailed more → HasFailed (skip_acts b c ++ more)
  has_failed true c more h = h
  has_failed false c more h = h

  sees_line : (b : Bool) (c : Code) (q : Agency R) (s : State) → Sees told q s → Sees told q (skip_line b c s)
  sees_line true c q s h = record { replays = h.replays; link = h.link; shows_skips = h.shows_skips; skips = h.skips }
  sees_line false c q s h = h

  sees_skipped : (c : Code) (p q : Agency R) (z : State) → q ≡ record p { skips = p.skips + 1 } → Sees told p z → Sees told q (skipped c z)
  sees_skipped c p q z is h =
      let more : State = record z { running = record z.running { skips = z.running.skips + 1 } } in
      sees_line z.running.shows_skips c q more (subst (λ (x : Agency R). Sees told x more) (sym is) (record {
        replays = h.replays;
        link = h.link;
        shows_skips = h.shows_skips;
        skips = ap (λ (n : ℕ). n + 1) h.skips;
      }))

  acts_skipped : (c : Code) (p : Agency R) (z : State) (acts more : List Act) (g : Filter) → Sees told p z → acts ≡ skip_acts p.shows_skips c → Acts z.filter (acts ++ more) g → Acts (skipped c z).filter more g
  acts_skipped c p z acts more g sees is h =
      after_skip z.running.shows_skips c (record z { running = record z.running { skips = z.running.skips + 1 } }) more g
      (subst (λ (l : List Act). Acts z.filter (l ++ more) g) (is ∙ ap (λ (b : Bool). skip_acts b c) sees.shows_skips) h)

  -- such a step reports no fault
  quiet : (b : Bool) (c : Code) (more : List Act) → faults_among more ≡ faults_among (skip_acts b c ++ more)
  quiet true c more = omega arith
  quiet false c more = refl

  skip_faults : (c : Code) (p m q : Agency R) (acts more : List Act) → Skips c p acts m → AsksFailed (faults_among more) (told m.link.remote) (told q.link.remote)
      → AsksFailed (faults_among (acts ++ more)) (told p.link.remote) (told q.link.remote)
  skip_faults c p m q acts more s h =
      subst (λ (l : List Act). AsksFailed (faults_among (l ++ more)) (told p.link.remote) (told q.link.remote)) (sym s.line)
      (subst (λ (n : ℕ). AsksFailed n (told p.link.remote) (told q.link.remote)) (quiet p.shows_skips c more)
      (subst (λ (x : Agency R). AsksFailed (faults_among more) (told x.link.remote) (told q.link.remote)) s.counted h))

  pub skip_then : (f : Arrow State (Unit {0})) (c : Code) (p m q : Agency R) (acts more : List Act) → Skips c p acts m → Plays told Any f m more q → Plays told Any (then_do (skip c) f) p (acts ++ more) q
  skip_then f c p m q acts more s h = record {
    ends = λ z g sees holds does fine.
        h.ends (skipped c z) g (sees_skipped c p m z s.counted sees) (record {}) (acts_skipped c p z acts more g sees s.line does)
        (λ failed. fine (subst (λ (l : List Act). HasFailed (l ++ more)) (sym s.line) (has_failed p.shows_skips c more failed)));
    stops = λ z g sees holds does failed.
        h.stops (skipped c z) g (sees_skipped c p m z s.counted sees) (record {}) (acts_skipped c p z acts more g sees s.line does)
        (not_failed p.shows_skips c more (subst (λ (l : List Act). HasFailed (l ++ more)) s.line failed));
    faults = skip_faults c p m q acts more s h.faults;
  }

  -- where nothing follows
  skipped_only : (b : Bool) (c : Code) → HasFailed (skip_acts b c) → ⊥
  skipped_only true c h = h
  skipped_only false c h = h

  pub skips : (c : Code) (p q : Agency R) (acts : List Act) → Skips c p acts q → Plays told Any (skip c) p acts q
  skips c p q acts s = record {
    ends = λ z g sees holds does fine. record {
      state = skipped c z;
      is = (refl, refl);
      filter = sym (acts_skipped c p z acts [] g sees s.line (subst (λ (l : List Act). Acts z.filter l g) (sym (append-nil acts)) does));
      sees = sees_skipped c p q z s.counted sees;
    };
    stops = λ z g sees holds does failed. absurd (skipped_only p.shows_skips c (subst HasFailed s.line failed));
    faults = subst (λ (l : List Act). AsksFailed (faults_among l) (told p.link.remote) (told q.link.remote)) (append-nil acts)
        (skip_faults c p q q acts [] s (failed_none (told q.link.remote)));
  }

  -- an operation

  sees_filter : (p : Agency R) (z : State) (f : Filter) → Sees told p z → Sees told p (with_filter f z)
  sees_filter p z f h = record { replays = h.replays; link = h.link; shows_skips = h.shows_skips; skips = h.skips }

  module _ (seen : List SeenPath) (op : Operation) (k : Shown → Arrow State (Unit {0})) where
    abbrev first : Arrow State Shown
    first = in_filter (execute_with (seeing seen) op)

    pub op_failed : (p : Agency R) → Plays told Any (seq first k) p (Failed seen op ∷ []) p
    op_failed p = record {
      ends = λ z g sees holds does fine. absurd (fine (record {}));
      stops = λ z g sees holds does failed. record {
        state = with_filter g z;
        is = stops_first (first z) k (with_filter g z) (stops_mapped (λ (f : Filter). with_filter f z) (execute_with (seeing seen) op z.filter) g (subst (λ (f : Filter). Stops (execute_with (seeing seen) op z.filter) f) (sym does.2) does.1));
        filter = refl;
        sees = sees_filter p z g sees;
      };
      faults = failed_none (told p.link.remote);
    }

    pub op_then : (answer : Shown) (p q : Agency R) (more : List Act) → Plays told Any (k answer) p more q → Plays told Any (seq first k) p (Did seen op answer ∷ more) q
    op_then answer p q more h = record {
      ends = λ z g sees holds does fine.
          let m : State = with_filter does.0 z in
          let e = h.ends m g (sees_filter p z does.0 sees) (record {}) does.2 fine in
          record {
            state = e.state;
            is = ends_then (first z) k answer m unit e.state (ends_mapped (λ (f : Filter). with_filter f z) (execute_with (seeing seen) op z.filter) answer does.0 does.1) e.is;
            filter = e.filter;
            sees = e.sees;
          };
      stops = λ z g sees holds does failed.
          let m : State = with_filter does.0 z in
          let e = h.stops m g (sees_filter p z does.0 sees) (record {}) does.2 failed in
          record {
            state = e.state;
            is = stops_then (first z) k answer m e.state (ends_mapped (λ (f : Filter). with_filter f z) (execute_with (seeing seen) op z.filter) answer does.0 does.1) e.is;
            filter = e.filter;
            sees = e.sees;
          };
      faults = h.faults;
    }
