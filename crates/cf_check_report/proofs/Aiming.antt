-- Where the followed run makes its commits for room where the report resumes next, its newest point has the count of each accepted restart.
use Rattle.std.proofs.Common.{◌≡◌, ◌≤◌, ◌<◌, ◌+◌, ◌^◌, ◌&&◌, cond, ℕ, zero, suc, Bool, true, false, List, [], ◌∷◌, ◌++◌, drop, length, map, take, refl, sym, ◌∙◌, ap, subst, arith, inl, inr, append-nil, length-append}
use Rattle.std.specs.Prelude.{Option, Some, None, codes}
use Rattle.std.specs.List.{flat_map}
use Rattle.cf_base.specs.declared.answers.Answer.{Answer}
use Rattle.cf_base.specs.declared.answers.OpenedBook.{OpenedBook}
use Rattle.cf_base.specs.declared.answers.Shown.{Shown}
use Rattle.cf_base.specs.declared.answers.Shown.TheVariants as shown
use Rattle.cf_base.specs.declared.changes.Change.{Change}
use Rattle.cf_base.specs.declared.events.DeviceEvent.TheVariants as device
use Rattle.cf_base.specs.declared.events.Event.{Event}
use Rattle.cf_base.specs.declared.events.Event.TheVariants as event
use Rattle.cf_base.specs.declared.ids.Usn.{Usn}
use Rattle.cf_base.specs.declared.notices.Notice.{Notice}
use Rattle.cf_base.specs.declared.notices.Notice.TheVariants as notice
use Rattle.cf_base.specs.declared.policies.Mode.TheVariants as mode
use Rattle.cf_base.specs.declared.waits.End.{End}
use Rattle.cf_base.specs.declared.waits.End.TheVariants as end
use Rattle.cf_check_judge.specs.Settled.{IsAt}
use Rattle.cf_check_model.specs.Judging.{Accepted, answer_of}
use Rattle.cf_check_model.specs.Reports.{Begins, result_lines}
use Rattle.cf_check_report.proofs.Counting.{in_so, told_is}
use Rattle.cf_check_report.specs.Counts.{count_of, count_told}
use Rattle.cf_check_report.specs.Playing.{ResumesNewest, aim_after}
use Rattle.cf_check_report.specs.Restarts.{in_u64, is_told, next_aim, next_count}
use Rattle.cf_model_room.proofs.Heavy.{heavy_below}
use Rattle.cf_model_room.specs.Rooms.{sure_count}
use Rattle.cf_check_text.proofs.Lines.{notices_fit, results_of}
use Rattle.cf_check_text.specs.Clean.{is_clean}
use Rattle.cf_check_traces.proofs.Counts.{resumed_there}
use Rattle.cf_check_traces.proofs.NextSteps.{goes_on}
use Rattle.cf_check_traces.proofs.SameRuns.{Front, front_of}
use Rattle.cf_check_ways.proofs.PointSteps.{restart_told}
use Rattle.cf_check_traces.proofs.RunPoints.{laden_run}
use Rattle.cf_check_traces.proofs.Testing.{begins_so}
use Rattle.cf_check_traces.specs.Followed.{ResumesAsAccepted}
use Rattle.cf_check_traces.specs.Tests.{begins, is_restart, is_resumed}
use Rattle.cf_check_ways.specs.Ways.{IsOpenedAt}
use Rattle.cf_model.proofs.PointLaws.{started_with_points}
use Rattle.cf_model.specs.Lawful.{Runs}
use Rattle.cf_model.specs.Numbers.{most}
use Rattle.cf_model.specs.Points.{ArePoints}
use Rattle.cf_model.specs.State.{Point, State, start}
use Rattle.cf_model.specs.Store.{empty_remote}
use Rattle.cf_model_headline.proofs.StandingLaws.{run_stands, start_ready}
use Rattle.cf_model_headline.specs.Reports.{after_answer, change_in, changes_in, resumed_with, standing_from}
use Rattle.cf_report.specs.Texts.{notice_line, result_line, text, texts}
use Rattle.cf_volume_room.proofs.Aimed.{newest_aimed}
use Rattle.cf_volume_room.specs.Aims.{IsAimed, IsAimedBy}

-- lines of results

-- of an answer it is that of a restart that resumed where the answer is one
told_end : (e : End) → begins (codes "= resumed ") (result_line (shown.Ended e)) ≡ false
told_end (end.Data content) = refl
told_end _ = refl

told_shown : (r : Shown) → begins (codes "= resumed ") (result_line r) ≡ is_resumed r
told_shown (shown.Ended e) = told_end e
told_shown _ = refl

first_line : (a : Answer) (rest : List ℕ) → is_clean a ≡ true → result_lines (text a ++ rest) ≡ result_line a.shown ∷ result_lines rest
first_line a rest clean = ap (λ (t : List ℕ). result_lines (t ++ rest)) (sym (append-nil (text a))) ∙ results_of (a ∷ []) rest (rw clean refl)

-- a report has no fewer bytes than changes

few_in : (ns : List Notice) → length (changes_in ns) ≤ length ns
few_in [] = omega arith
few_in (n ∷ ns) =
    let e : length (change_in n ++ changes_in ns) ≡ length (change_in n) + length (changes_in ns) = length-append (change_in n) (changes_in ns) in
    let one : length (change_in n) ≤ 1 = one_at_most n in
    let rest : length (changes_in ns) ≤ length ns = few_in ns in
    omega (arith, e, one, rest)
  where
    one_at_most : (m : Notice) → length (change_in m) ≤ 1
    one_at_most (notice.Change number c) = omega arith
    one_at_most _ = omega arith

more_after : (log : List (Usn × Change)) (a : Answer) → length (log ++ changes_in a.notes) ≤ length log + length (text a)
more_after log a =
    let e : length (log ++ changes_in a.notes) ≡ length log + length (changes_in a.notes) = length-append log (changes_in a.notes) in
    let few : length (changes_in a.notes) ≤ length a.notes = few_in a.notes in
    let fit : length a.notes ≤ length (text a) = notices_fit a in
    omega (arith, e, few, fit)

fewer : {X : Type 0} (n : ℕ) (xs : List X) → length (take n xs) ≤ length xs
fewer zero xs = omega arith
fewer (suc n) [] = omega arith
fewer (suc n) (x ∷ xs) = let h = fewer n xs in omega (arith, h)

few_after : (log : List (Usn × Change)) (e : Event) (a : Answer) → length (after_answer log e a) ≤ length log + length (text a)
few_after log (event.Device device.Restart) a = kept a.shown
  where
    kept : (r : Shown) → length (resumed_with r log) ≤ length log + length (text a)
    kept (shown.Resumed n opened) = let h = fewer n log in omega (arith, h)
    kept _ = omega arith
few_after log _ a = more_after log a

few_standing : (log : List (Usn × Change)) (trace : List (Event × Answer)) → length (standing_from log trace) ≤ length log + length (texts (map answer_of trace))
few_standing log [] = omega arith
few_standing log (p ∷ ps) =
    let rest : length (standing_from (after_answer log p.0 p.1) ps) ≤ length (after_answer log p.0 p.1) + length (texts (map answer_of ps)) = few_standing (after_answer log p.0 p.1) ps in
    let one : length (after_answer log p.0 p.1) ≤ length log + length (text p.1) = few_after log p.0 p.1 in
    let e : length (text p.1 ++ texts (map answer_of ps)) ≡ length (text p.1) + length (texts (map answer_of ps)) = length-append (text p.1) (texts (map answer_of ps)) in
    omega (arith, rest, one, e)

few_changes : (clusters : ℕ) (trace : List (Event × Answer)) (s : State) → Runs mode.Replay (start mode.Replay empty_remote clusters) trace s → length s.filter.volume.log ≤ length (texts (map answer_of trace))
few_changes clusters trace s runs =
    let e : length s.filter.volume.log ≡ length (standing_from [] trace)
    = ap (λ (l : List (Usn × Change)). length l) (run_stands mode.Replay (start mode.Replay empty_remote clusters) trace s (start_ready mode.Replay empty_remote clusters ((refl, record {}), refl)) runs) in
    let few : length (standing_from [] trace) ≤ 0 + length (texts (map answer_of trace)) = few_standing [] trace in
    omega (arith, e, few)

-- the aim

told_next : (es : List Event) (rest : List ℕ) (l : ℕ) (y : OpenedBook) → Begins rest (result_line (shown.Resumed l y)) → next_count (event.Device device.Restart ∷ es) (result_lines rest) ≡ in_u64 l
told_next es rest l y begun =
    let b : Answer = record { notes = []; shown = shown.Resumed l y; stray = None } in
    ap (λ (t : List ℕ). next_count (event.Device device.Restart ∷ es) (result_lines t)) begun.1
    ∙ ap (next_count (event.Device device.Restart ∷ es)) (first_line b begun.0 refl)
    ∙ ap in_u64 (told_is l y (result_line (shown.Resumed l y)) ([], sym (append-nil (result_line (shown.Resumed l y)))))

-- the aim behind an answer with which the report goes on is that of the events that are left
pub aim_goes_on : (e : Event) (es : List Event) (a : Answer) (rest : List ℕ) → is_clean a ≡ true → begins (text a) rest ≡ true
    → aim_after e a (next_count (e ∷ es) (result_lines rest)) (next_aim e es (result_lines rest)) ≡ next_count es (result_lines (drop (length (text a)) rest))
aim_goes_on e es a rest clean so =
    let more = begins_so (text a) rest so in
    let lines : result_lines rest ≡ result_line a.shown ∷ result_lines more.0 = ap result_lines more.1 ∙ first_line a more.0 clean in
    let left : drop (length (text a)) rest ≡ more.0 = ap (drop (length (text a))) more.1 ∙ dropped (text a) more.0 in
    ap (λ (ls : List (List ℕ)). aim_after e a (next_count (e ∷ es) ls) (next_aim e es ls)) lines
    ∙ by (is_restart e && is_resumed a.shown) (is_told e (result_line a.shown)) (ap (λ (b : Bool). is_restart e && b) (told_shown a.shown)) (in_u64 (count_told (result_line a.shown))) (next_count es (result_lines more.0))
    ∙ ap (λ (t : List ℕ). next_count es (result_lines t)) (sym left)
  where
    dropped : (front back : List ℕ) → drop (length front) (front ++ back) ≡ back
    dropped [] back = refl
    dropped (b ∷ bs) back = dropped bs back

    by : (t u : Bool) → u ≡ t → (here later : Option ℕ) → cond t (cond u later None) (cond u here later) ≡ later
    by true true e here later = refl
    by false false e here later = refl
    by true false e here later = let z : false ≡ true = e in absurd cc
    by false true e here later = let z : true ≡ false = e in absurd cc

-- the restart

module _ (events : List Event) (report : List ℕ) (clusters : ℕ) (short : length report < most) where
  -- how the report goes on with an accepted restart
  goes_with : (n : ℕ) (e : Event) (es : List Event) (trace : List (Event × Answer)) (s : State) (rest : List ℕ) → IsAt events report clusters n (e ∷ es) trace s rest → (front : List (Event × Answer)) (b : Answer) (u : State) → length front ≡ n
      → Accepted events report clusters (suc n) (front ++ (event.Device device.Restart, b) ∷ []) u → Begins rest (result_line b.shown)
  goes_with n e es trace s rest at front b u long acc =
      let g : Front events report clusters n front (event.Device device.Restart, b) u = front_of events report clusters n front (event.Device device.Restart, b) u long acc in
      let same = at.run.only front g.mid g.accepted in
      subst (λ (ns : List Notice). Begins rest (flat_map notice_line ns ++ result_line b.shown)) (restart_told mode.Replay g.mid b u g.step)
      (goes_on report rest trace front (event.Device device.Restart, b) at.run.text_is (sym same.0) acc.front)

  -- what an accepted restart resumed is no more than the log
  few_opened : (n : ℕ) (e : Event) (es : List Event) (trace : List (Event × Answer)) (s : State) (rest : List ℕ) → IsAt events report clusters n (e ∷ es) trace s rest → (l : ℕ) → IsOpenedAt s l → l < 2 ^ 64
  few_opened n e es trace s rest at l may =
      let below : l ≤ length s.filter.volume.log = by may in
      let few : length s.filter.volume.log ≤ length (texts (map answer_of trace)) = few_changes clusters trace s at.run.lawful in
      let whole : length report ≡ length (texts (map answer_of trace)) + length rest = ap (λ (xs : List ℕ). length xs) at.run.text_is ∙ length-append (texts (map answer_of trace)) rest in
      omega (arith, below, few, whole, short)
    where
      by : IsOpenedAt s l → l ≤ length s.filter.volume.log
      by (inl sure) = let le : sure_count s.filter.volume.points ≤ length s.filter.volume.log = (laden_run mode.Replay empty_remote clusters trace s at.run.lawful at.run.none).there in omega (arith, le, sure)
      by (inr heavy) = let lt = heavy_below s.filter.volume.clusters (sure_count s.filter.volume.points) s.filter.volume.log l heavy in omega (arith, lt)

  -- Of a run that is aimed at what the report says that its next restart resumes, a restart that resumed the newest point has the count of each
  -- accepted one.
  pub aimed_counts : (n : ℕ) (e : Event) (es : List Event) (trace : List (Event × Answer)) (s : State) (rest : List ℕ) → IsAt events report clusters n (e ∷ es) trace s rest → IsAimedBy (next_count (e ∷ es) (result_lines rest)) s.filter.volume
      → (a : Answer) → ResumesNewest e a s.filter.volume.points → e ≡ event.Device device.Restart → ResumesAsAccepted events report clusters n a
  aimed_counts n e es trace s rest at aimed a newest is front b u k l x y long acc told told_too =
      let begun : Begins rest (result_line (shown.Resumed l y)) = subst (λ (z : Shown). Begins rest (result_line z)) told_too (goes_with n e es trace s rest at front b u long acc) in
      let there : IsOpenedAt s l = resumed_there events report clusters short n trace s rest at.run front b u l y long acc told_too in
      let aim : next_count (e ∷ es) (result_lines rest) ≡ Some l
      = ap (λ (z : Event). next_count (z ∷ es) (result_lines rest)) is ∙ told_next es rest l y begun ∙ in_so l (few_opened n e es trace s rest at l there) in
      sym (ap count_of told) ∙ at_newest l s.filter.volume.points refl there (subst (λ (o : Option ℕ). IsAimedBy o s.filter.volume) aim aimed)
    where
      has : ArePoints (length s.filter.volume.log) s.filter.volume.points
      has = started_with_points mode.Replay empty_remote clusters trace s at.run.lawful

      at_newest : (m : ℕ) (points : List Point) → s.filter.volume.points ≡ points → IsOpenedAt s m → IsAimed m s.filter.volume → count_of a.shown ≡ m
      at_newest m [] are there aimed' = absurd (subst (ArePoints (length s.filter.volume.log)) are has)
      at_newest m (p ∷ earlier) are there aimed' = newest (ap (λ (z : Event). is_restart z && is_resumed a.shown) is ∙ ap is_resumed told) p earlier are ∙ newest_aimed m s.filter.volume p earlier are has aimed' there
