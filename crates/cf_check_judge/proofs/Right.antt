-- The verdict of the judge is right.
use Rattle.std.proofs.Common.{◌≡◌, ◌<◌, ◌+◌, ◌&&◌, not, ℕ, suc, Bool, true, false, List, [], ◌∷◌, ◌++◌, drop, length, refl, sym, ◌∙◌, ap, subst, arith, inl, inr}
use Rattle.std.specs.Prelude.{Option, Some, None}
use Rattle.std.proofs.lemmas.Bool.{leb-true}
use Rattle.cf_base.specs.declared.answers.Answer.{Answer}
use Rattle.cf_base.specs.declared.events.Event.{Event}
use Rattle.cf_base.specs.declared.events.Event.TheVariants as event
use Rattle.cf_base.specs.declared.events.PeerEvent.{PeerEvent}
use Rattle.cf_base.specs.declared.policies.Mode.TheVariants as mode
use Rattle.cf_model.specs.Events.{is_of, on_event}
use Rattle.cf_model.specs.Numbers.{most}
use Rattle.cf_model.specs.State.{State, start}
use Rattle.cf_model.specs.Store.{empty_remote}
use Rattle.cf_model.specs.Words.{is_empty}
use Rattle.cf_report.specs.Texts.{text}
use Rattle.cf_check_model.specs.Judging.{IsVerdict}
use Rattle.cf_check_model.specs.Reports.{device_line}
use Rattle.cf_check_model.specs.declared.verdicts.Verdict.{Verdict}
use Rattle.cf_check_model.specs.declared.verdicts.Verdict.TheVariants.{Unlawful, Undecided}
use Rattle.cf_check_text.specs.Clean.{is_clean}
use Rattle.cf_model_room.specs.Rooms.{load_since, sure_count}
use Rattle.cf_model_room.proofs.Heavy.{light_nowhere}
use Rattle.cf_check_ways.specs.Ways.{is_fault, is_good}
use Rattle.cf_check_traces.specs.Decided.{MeetsResult}
use Rattle.cf_check_traces.specs.Tests.{begins, both_resume, is_device, meets_alone, meets_lines}
use Rattle.cf_check_traces.specs.Followed.{IsLight, IsNext}
use Rattle.cf_check_traces.proofs.Testing.{alone_so, alone_unasked, meets_so, not_stopped}
use Rattle.cf_check_judge.specs.Judge.{asks_nothing, is_peer_fault, telling_of, matched, GoesOn, Judged, Lost, Open, Wrong, at_end, event_told, first_result, is_line, is_light, judge, judge_from, may_judge, may_part, step_by}
use Rattle.cf_check_judge.specs.Settled.{HasCount, IsAt}
use Rattle.cf_check_judge.proofs.Following.{at_start, at_the_end, both, counts_of, foreign_is, goes_next, line_not, open_is, wrong_is}

-- no answer parts by RemoteFault from the judge's

asked : (told fault : Bool) → (told && not fault) ≡ true → (told ≡ true) × (fault ≡ false)
asked true false h = (refl, refl)
asked true true h = let z : false ≡ true = h in absurd cc
asked false fault h = let z : false ≡ true = h in absurd cc

peer_alone : (p : PeerEvent) (s : State) (rest : List ℕ) (unasked : Bool) → asks_nothing (event_told (event.Peer p) rest s).1 rest ≡ unasked → meets_alone (event.Peer p) (event_told (event.Peer p) rest s).1 rest unasked ≡ true
    → MeetsResult s (event.Peer p) (event_told (event.Peer p) rest s).1 rest
peer_alone p s rest true is h =
    let a : Answer = (event_told (event.Peer p) rest s).1 in
    let x = asked (is_peer_fault rest) (is_fault a.shown) is in
    alone_unasked s p a (event_told (event.Peer p) rest s).0 rest
    (ap (λ (b : Bool). on_event (record { stop = None; forks = []; tellings = telling_of b ∷ [] }) s (event.Peer p)) (sym x.0)) x.1
peer_alone p s rest false is h = alone_so s (event.Peer p) (event_told (event.Peer p) rest s).1 rest h

alone_of : (e : Event) (s : State) (rest : List ℕ) → meets_alone e (event_told e rest s).1 rest (asks_nothing (event_told e rest s).1 rest) ≡ true → MeetsResult s e (event_told e rest s).1 rest
alone_of (event.Peer p) s rest h = peer_alone p s rest (asks_nothing (event_told (event.Peer p) rest s).1 rest) refl h
alone_of (event.Call c) s rest h = λ peer. let z : false ≡ true = peer in absurd cc
alone_of (event.Device d) s rest h = λ peer. let z : false ≡ true = peer in absurd cc
alone_of (event.Engine g) s rest h = λ peer. let z : false ≡ true = peer in absurd cc
alone_of (event.Provider p) s rest h = λ peer. let z : false ≡ true = peer in absurd cc

module _ (events : List Event) (report : List ℕ) (clusters : ℕ) (short : length report < most) where
  next_of : (done : ℕ) (e : Event) (es : List Event) (trace : List (Event × Answer)) (s : State) (rest : List ℕ) → IsAt events report clusters done (e ∷ es) trace s rest → is_of mode.Replay e ≡ true → (first_result rest ≡ Some device_line → ⊥)
      → may_judge (event_told e rest s).0 e (event_told e rest s).1 rest ≡ true → HasCount s e (event_told e rest s).1 rest → IsNext events report clusters done s e (event_told e rest s).1 (event_told e rest s).0 rest
  next_of done e es trace s rest at of other may has =
      let t : State = (event_told e rest s).0 in
      let a : Answer = (event_told e rest s).1 in
      let w = both (is_good t && not (is_device a.shown) && is_clean a && meets_lines a.notes rest) (meets_alone e a rest (asks_nothing a rest)) may in
      let x = both (is_good t && not (is_device a.shown) && is_clean a) (meets_lines a.notes rest) w.0 in
      let y = both (is_good t && not (is_device a.shown)) (is_clean a) x.0 in
      let z = both (is_good t) (not (is_device a.shown)) y.0 in
      record {
        step = (of, _, refl);
        good = z.0;
        runs = not_stopped a (unless (is_device a.shown) z.1);
        clean = y.1;
        meets = meets_so a rest x.1;
        alone = alone_of e s rest w.1;
        result = other;
        counts = counts_of events report clusters short done e es trace s rest at a t (of, _, refl) has;
      }
    where
      unless : (b : Bool) → not b ≡ true → b ≡ false
      unless true h = let z : false ≡ true = h in absurd cc
      unless false h = refl

  -- a log that loads no more than the clusters is heavy nowhere
  light_so : (s : State) → is_light s ≡ true → IsLight s
  light_so s h =
      light_nowhere s.filter.volume.clusters (sure_count s.filter.volume.points) s.filter.volume.log (leb-true (load_since (sure_count s.filter.volume.points) s.filter.volume.log) s.filter.volume.clusters h)

  -- where no run may part the answer has the count of each accepted one
  whole_so : (e : Event) (a : Answer) (rest : List ℕ) (s : State) → may_part e a rest s ≡ false → HasCount s e a rest
  whole_so e a rest s h = by (both_resume e a rest) (is_light s) refl refl h
    where
      by : (b light : Bool) → both_resume e a rest ≡ b → is_light s ≡ light → (b && not light) ≡ false → HasCount s e a rest
      by false light none is h = inr (inr none)
      by true true both' is h = inr (inl (light_so s is))
      by true false both' is h = let z : true ≡ false = h in absurd cc

  -- the whole, by how each step goes

  abbrev verdict_of : ℕ → List Event → Judged → Option Verdict
  verdict_of done es j = elim j as (λ _. Option Verdict) [ GoesOn a g more ↦ judge_from (done + 1) es more g | Wrong ↦ Some (Unlawful (done + 1)) | Open ↦ Some (Undecided (done + 1)) | Lost ↦ None ]

  abbrev Rest : List Event → Type 0
  Rest es = (done : ℕ) (trace : List (Event × Answer)) (f : State) (rest : List ℕ) (v : Verdict) → IsAt events report clusters done es trace f rest → judge_from done es rest f ≡ Some v → IsVerdict events report clusters v

  one_more : (n : ℕ) → n + 1 ≡ suc n
  one_more n = omega arith

  told_so : (done : ℕ) (v : Verdict) (what : ℕ → Verdict) → Some (what (done + 1)) ≡ Some v → IsVerdict events report clusters (what (suc done)) → IsVerdict events report clusters v
  told_so done v what h is = subst (λ (w : Verdict). IsVerdict events report clusters w) (ap what (sym (one_more done)) ∙ some_is (what (done + 1)) v h) is
    where
      some_is : (x y : Verdict) → Some x ≡ Some y → x ≡ y
      some_is x y e = cc

  by_same : (done : ℕ) (e : Event) (es : List Event) (trace : List (Event × Answer)) (f : State) (rest : List ℕ) (v : Verdict) → Rest es → IsAt events report clusters done (e ∷ es) trace f rest → is_of mode.Replay e ≡ true → is_line device_line (first_result rest) ≡ false
      → (g : State) → g ≡ (event_told e rest f).0 → may_judge (event_told e rest f).0 e (event_told e rest f).1 rest ≡ true → (same parts : Bool) → begins (text (event_told e rest f).1) rest ≡ same → may_part e (event_told e rest f).1 rest f ≡ parts
      → verdict_of done es (matched true same parts rest (event_told e rest f).1 g) ≡ Some v → IsVerdict events report clusters v
  by_same done e es trace f rest v more at of line g is may true parts same parting h =
      let a : Answer = (event_told e rest f).1 in
      let other : first_result rest ≡ Some device_line → ⊥ = line_not device_line (first_result rest) line in
      let next = next_of done e es trace f rest at of other may (inl same) in
      let at' : IsAt events report clusters (suc done) es (trace ++ (e, a) ∷ []) (event_told e rest f).0 (drop (length (text a)) rest) = goes_next events report clusters short done e es trace f rest at other a (event_told e rest f).0 next same in
      let at'' : IsAt events report clusters (done + 1) es (trace ++ (e, a) ∷ []) g (drop (length (text a)) rest)
      = subst (λ (k : ℕ). IsAt events report clusters k es (trace ++ (e, a) ∷ []) g (drop (length (text a)) rest)) (sym (one_more done)) (subst (λ (s : State). IsAt events report clusters (suc done) es (trace ++ (e, a) ∷ []) s (drop (length (text a)) rest)) (sym is) at') in
      more (done + 1) (trace ++ (e, a) ∷ []) g (drop (length (text a)) rest) v at'' h
  by_same done e es trace f rest v more at of line g is may false true same parting h = let z : None ≡ Some v = h in absurd cc
  by_same done e es trace f rest v more at of line g is may false false same parting h =
      let next = next_of done e es trace f rest at of (line_not device_line (first_result rest) line) may (whole_so e (event_told e rest f).1 rest f parting) in
      told_so done v (λ (k : ℕ). Unlawful k) h (wrong_is events report clusters short done e es trace f rest at line (event_told e rest f).1 (event_told e rest f).0 next same)

  by_test : (done : ℕ) (e : Event) (es : List Event) (trace : List (Event × Answer)) (f : State) (rest : List ℕ) (v : Verdict) → Rest es → IsAt events report clusters done (e ∷ es) trace f rest → is_of mode.Replay e ≡ true → is_line device_line (first_result rest) ≡ false
      → (g : State) → g ≡ (event_told e rest f).0 → (may : Bool) → may_judge (event_told e rest f).0 e (event_told e rest f).1 rest ≡ may
      → verdict_of done es (matched may (begins (text (event_told e rest f).1) rest) (may_part e (event_told e rest f).1 rest f) rest (event_told e rest f).1 g) ≡ Some v → IsVerdict events report clusters v
  by_test done e es trace f rest v more at of other g is false may h = let z : None ≡ Some v = h in absurd cc
  by_test done e es trace f rest v more at of line g is true may h =
      by_same done e es trace f rest v more at of line g is may (begins (text (event_told e rest f).1) rest) (may_part e (event_told e rest f).1 rest f) refl refl h

  by_kind : (done : ℕ) (e : Event) (es : List Event) (trace : List (Event × Answer)) (f : State) (rest : List ℕ) (v : Verdict) → Rest es → IsAt events report clusters done (e ∷ es) trace f rest
      → (line of : Bool) → is_line device_line (first_result rest) ≡ line → is_of mode.Replay e ≡ of → verdict_of done es (step_by line of e rest f) ≡ Some v → IsVerdict events report clusters v
  by_kind done e es trace f rest v more at true of line is h = told_so done v (λ (k : ℕ). Undecided k) h (open_is events report clusters short done e es trace f rest at line)
  by_kind done e es trace f rest v more at false false line is h = told_so done v (λ (k : ℕ). Unlawful k) h (foreign_is events report clusters short done e es trace f rest at line is)
  by_kind done e es trace f rest v more at false true line is h =
      by_test done e es trace f rest v more at is line _ refl (may_judge (event_told e rest f).0 e (event_told e rest f).1 rest) refl h

  right_from : (es : List Event) → Rest es
  right_from [] done trace f rest v at h =
      subst (λ (w : Verdict). IsVerdict events report clusters w) (some_is (at_end (is_empty rest) done) v h) (at_the_end events report clusters short done trace f rest at (is_empty rest) refl)
    where
      some_is : (x y : Verdict) → Some x ≡ Some y → x ≡ y
      some_is x y e = cc
  right_from (e ∷ es) done trace f rest v at h =
      by_kind done e es trace f rest v (right_from es) at (is_line device_line (first_result rest)) (is_of mode.Replay e) refl refl h

  -- whatever verdict the judge gives is right
  pub judge_is_right : (v : Verdict) → judge events report clusters ≡ Some v → IsVerdict events report clusters v
  judge_is_right v h = right_from events 0 [] (start mode.Replay empty_remote clusters) report v (at_start events report clusters short) h
