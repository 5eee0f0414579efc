-- One step of a run that is followed: with the next event nothing else is accepted.
use Rattle.std.proofs.Common.{◌≡◌, ◌⊎◌, ◌≤◌, ◌<◌, ◌+◌, ◌&&◌, ℕ, suc, Bool, true, false, filter, nat_lt, List, [], ◌∷◌, ◌++◌, length, map, take, refl, sym, ◌∙◌, ap, subst, arith, inl, inr, length-append, length-take-le}
use Rattle.std.specs.Prelude.{Some, slice_get}
use Rattle.std.specs.List.{list_all}
use Rattle.std.proofs.lemmas.List.{length-map, map-append}
use Rattle.std.proofs.lemmas.List.Folds.{list_all-append}
use Rattle.cf_base.specs.declared.answers.Answer.{Answer}
use Rattle.cf_base.specs.declared.answers.Shown.{Shown}
use Rattle.cf_base.specs.declared.events.Event.{Event}
use Rattle.cf_base.specs.declared.notices.Notice.{Notice}
use Rattle.cf_base.specs.declared.events.DeviceEvent.TheVariants as device
use Rattle.cf_base.specs.declared.events.Event.TheVariants as event
use Rattle.cf_base.specs.declared.policies.Mode.TheVariants as mode
use Rattle.cf_model.specs.Lawful.{IsStep, Runs}
use Rattle.cf_model.specs.Numbers.{most}
use Rattle.cf_model.specs.State.{State, start}
use Rattle.cf_model.specs.Store.{empty_remote}
use Rattle.cf_model.specs.Books.{opened_of}
use Rattle.cf_model.specs.Events.{begun}
use Rattle.cf_report.specs.Texts.{result_line, text, texts}
use Rattle.cf_check_model.specs.Judging.{Accepted, answer_of, event_of}
use Rattle.cf_check_model.specs.Reports.{Begins, result_lines}
use Rattle.cf_check_model.proofs.Fronts.{texts_join}
use Rattle.cf_check_text.specs.Clean.{clean_notice, clean_shown, is_clean}
use Rattle.cf_check_text.proofs.CleanWords.{left_of}
use Rattle.cf_check_text.proofs.Lines.{notices_fit, result_of}
use Rattle.cf_check_ways.specs.Ways.{IsLaden, SamePoints, core_of, Alike, AnswersAlike, IsFront, OneFailed, Parted, is_good, of_state, BothResumed, FirstFits}
use Rattle.cf_check_ways.proofs.PointSteps.{restart_told, restarts_same, steps_keep}
use Rattle.cf_check_ways.proofs.StepsSure.{any_step_count, cut_off_shows, steps_alike}
use Rattle.cf_check_traces.specs.Decided.{IsSteady, IsStopped, NoneStopped}
use Rattle.cf_check_traces.specs.Followed.{IsFollowed, IsNext}
use Rattle.cf_check_traces.specs.Tests.{is_device, is_restart}
use Rattle.cf_check_traces.proofs.Accepting.{LastOf, few_messages, last_of, numbered}
use Rattle.cf_check_traces.proofs.NextSteps.{goes_on, no_part}
use Rattle.cf_check_traces.proofs.SameRuns.{Front, front_of, last_event, steady, restart_is, restart_not}
use Rattle.cf_check_traces.proofs.Testing.{not_stopped, stopped_so}
use Rattle.cf_check_traces.proofs.RunPoints.{first_fits, laden_run}

-- with these messages there are numbers left
pub good_last : (limit : ℕ) (report : List ℕ) (clusters : ℕ) (front : List (Event × Answer)) (e : Event) (b : Answer) (mid u : State) → Runs mode.Replay (start mode.Replay empty_remote clusters) front mid → NoneStopped front → IsStep mode.Replay mid e b u
    → (e ≡ event.Device device.Restart → ⊥) → u.link.honest ≡ true → Begins report (texts (map answer_of (front ++ (e, b) ∷ []))) → length report < limit → (u.link.honest && nat_lt (length u.link.messages) limit) ≡ true
good_last limit report clusters front e b mid u runs none step other kept begun short =
    let few : length mid.link.messages ≤ 0 + length (texts (map answer_of front)) = few_messages (start mode.Replay empty_remote clusters) front mid runs none in
    let one : length u.link.messages ≤ length mid.link.messages + length b.notes = any_step_count mode.Replay mid e b u step other in
    let bytes : length b.notes ≤ length (text b) = notices_fit b in
    let whole : length report ≡ length (texts (map answer_of (front ++ (e, b) ∷ []))) + length begun.0 = ap (λ (xs : List ℕ). length xs) begun.1 ∙ length-append (texts (map answer_of (front ++ (e, b) ∷ []))) begun.0 in
    let parts : length (texts (map answer_of (front ++ (e, b) ∷ []))) ≡ length (texts (map answer_of front)) + length (text b ++ []) = ap (λ (xs : List ℕ). length xs) (texts_join front ((e, b) ∷ [])) ∙ length-append (texts (map answer_of front)) (text b ++ []) in
    let last : length (text b ++ []) ≡ length (text b) + 0 = length-append (text b) [] in
    let lt : length u.link.messages < limit = omega (arith, few, one, bytes, whole, parts, last, short) in
    numbered u.link.honest (length u.link.messages) limit kept lt

front_clean : (xs ys : List Notice) → IsFront xs ys → list_all clean_notice ys ≡ true → list_all clean_notice xs ≡ true
front_clean xs ys f h = left_of (list_all clean_notice xs) (list_all clean_notice f.0) (sym (list_all-append clean_notice xs f.0) ∙ ap (λ (ns : List Notice). list_all clean_notice ns) (sym f.1) ∙ h)

turned_one : (a b : Shown) → OneFailed a b → OneFailed b a
turned_one a b one = (one.1, one.0, elim one.2 as (λ _. _) [ inl x ↦ inr x | inr x ↦ inl x ])

turned_part : (xs ys : List Notice) → Parted xs ys → Parted ys xs
turned_part xs ys (inl f) = inr f
turned_part xs ys (inr f) = inl f

module _ (events : List Event) (report : List ℕ) (clusters : ℕ) (short : length report < most) where
  -- an answer of another run, which no device cut off
  ended_same : (n : ℕ) (s o : State) (e : Event) (a b : Answer) (t u : State) (rest : List ℕ) → Alike of_state s o → IsSteady s → IsSteady o → IsNext events report clusters n s e a t rest → (e ≡ event.Device device.Restart → ⊥) → IsStep mode.Replay o e b u → is_good u ≡ true → (IsStopped b → ⊥) → Begins rest (text b)
      → (b ≡ a) × Alike of_state t u
  ended_same n s o e a b t u rest alike steady steady_too next other step well runs begun = by (steps_alike mode.Replay s o e a b t u alike steady.opens steady.points steady_too.points next.step step next.good well next.runs runs)
    where
      by : AnswersAlike s o e a t b u → (b ≡ a) × Alike of_state t u
      by (inl same) = (sym same.0, same.1)
      by (inr (inl apart)) = absurd (no_part a b rest next.meets begun apart)
      by (inr (inr (inl x))) = absurd (next.alone x.0 o b u alike step x.1 begun x.2)
      by (inr (inr (inr x))) = absurd (other x.0)

  -- one that a device cut off is told by its line
  cut_is_told : (n : ℕ) (s o : State) (e : Event) (a b : Answer) (t u : State) (rest : List ℕ) → Alike of_state o s → IsSteady s → IsSteady o → IsNext events report clusters n s e a t rest → (e ≡ event.Device device.Restart → ⊥) → IsStep mode.Replay o e b u → is_good u ≡ true → IsStopped b → Begins rest (text b) → ⊥
  cut_is_told n s o e a b t u rest alike steady steady_too next other step well stop begun = by (cut_off_shows mode.Replay o s e b a u t alike steady_too.opens steady_too.points steady.points step next.step well next.good other next.runs)
    where
      told : IsFront b.notes a.notes → ⊥
      told front =
          let notes : list_all clean_notice b.notes ≡ true = front_clean b.notes a.notes front (left_of (list_all clean_notice a.notes) (clean_shown a.shown) next.clean) in
          let clean : is_clean b ≡ true = rw notes (ap clean_shown stop) in
          next.result (ap (λ (xs : List ℕ). slice_get (result_lines xs) 0) begun.1 ∙ result_of b begun.0 clean ∙ ap (λ (x : Shown). Some (result_line x)) stop)

      by : AnswersAlike o s e b u a t ⊎ (IsStopped b × (IsFront b.notes a.notes ⊎ Parted b.notes a.notes)) → ⊥
      by (inl (inl same)) = next.runs (subst IsStopped same.0 stop)
      by (inl (inr (inl apart))) = no_part a b rest next.meets begun (turned_part b.notes a.notes apart)
      by (inl (inr (inr (inl x)))) = next.alone x.0 o b u (sym alike) step (sym x.1) begun (turned_one b.shown a.shown x.2)
      by (inl (inr (inr (inr x)))) = other x.0
      by (inr (h, inl front)) = told front
      by (inr (h, inr apart)) = no_part a b rest next.meets begun (turned_part b.notes a.notes apart)

  last_same : (n : ℕ) (s o : State) (e : Event) (a b : Answer) (t u : State) (rest : List ℕ) → Alike of_state s o → IsSteady s → IsSteady o → IsNext events report clusters n s e a t rest → (e ≡ event.Device device.Restart → ⊥) → IsStep mode.Replay o e b u → is_good u ≡ true → Begins rest (text b)
      → (cut : Bool) → is_device b.shown ≡ cut → (b ≡ a) × Alike of_state t u
  last_same n s o e a b t u rest alike steady steady_too next other step well begun true is = absurd (cut_is_told n s o e a b t u rest (sym alike) steady steady_too next other step well (stopped_so b is) begun)
  last_same n s o e a b t u rest alike steady steady_too next other step well begun false is = ended_same n s o e a b t u rest alike steady steady_too next other step well (not_stopped b is) begun

  -- one step of a run that is followed

  -- of an event that is no restart
  next_other : (n : ℕ) (s o : State) (e : Event) (a b : Answer) (t u : State) (rest : List ℕ) → Alike of_state s o → IsSteady s → IsSteady o → IsLaden (core_of s.filter.volume) → IsLaden (core_of o.filter.volume) → SamePoints (core_of s.filter.volume) (core_of o.filter.volume)
      → IsNext events report clusters n s e a t rest → (e ≡ event.Device device.Restart → ⊥) → IsStep mode.Replay o e b u → is_good u ≡ true → Begins rest (text b) → (b ≡ a) × Alike of_state t u × SamePoints (core_of t.filter.volume) (core_of u.filter.volume)
  next_other n s o e a b t u rest alike now now_too laden laden_too same next other step well begun =
      let x = last_same n s o e a b t u rest alike now now_too next other step well begun (is_device b.shown) refl in
      (x.0, x.1, by (steps_keep mode.Replay s o e a b t u other alike laden laden_too same next.step step next.good well next.runs (λ h. next.runs (subst IsStopped x.0 h))))
    where
      by : SamePoints (core_of t.filter.volume) (core_of u.filter.volume) ⊎ Parted a.notes b.notes → SamePoints (core_of t.filter.volume) (core_of u.filter.volume)
      by (inl points) = points
      by (inr apart) = absurd (no_part a b rest next.meets begun apart)

  -- of a restart
  next_restart : (n : ℕ) (front : List (Event × Answer)) (s o : State) (a b : Answer) (t u : State) (rest : List ℕ) → length front ≡ n → Accepted events report clusters (suc n) (front ++ (event.Device device.Restart, b) ∷ []) u → FirstFits (core_of s.filter.volume) → Alike of_state s o → IsSteady s → IsSteady o → IsLaden (core_of s.filter.volume) → IsLaden (core_of o.filter.volume) → SamePoints (core_of s.filter.volume) (core_of o.filter.volume)
      → IsNext events report clusters n s (event.Device device.Restart) a t rest → IsStep mode.Replay o (event.Device device.Restart) b u → Begins rest (text b) → (cut : Bool) → is_device b.shown ≡ cut → (b ≡ a) × Alike of_state t u × SamePoints (core_of t.filter.volume) (core_of u.filter.volume)
  next_restart n front s o a b t u rest long acc fits alike now now_too laden laden_too same next step goes true is =
      let stop : IsStopped b = stopped_so b is in
      let none : b.notes ≡ [] = restart_told mode.Replay o b u step in
      let clean : is_clean b ≡ true = rw none (ap clean_shown stop) in
      absurd (next.result (ap (λ (xs : List ℕ). slice_get (result_lines xs) 0) goes.1 ∙ result_of b goes.0 clean ∙ ap (λ (x : Shown). Some (result_line x)) stop))
  next_restart n front s o a b t u rest long acc fits alike now now_too laden laden_too same next step goes false is =
      let z = restarts_same mode.Replay s o a b t u alike now.opens now.points now_too.points laden laden_too same fits next.step step next.runs (not_stopped b is) (λ told told_too r. counts r) in
      (sym z.0, z.1, z.2)
    where
      counts : (r : BothResumed (begun s) (begun o) a.shown b.shown t u) → r.point.count ≡ r.other.count
      counts r = next.counts refl front b u r.point.count r.other.count (opened_of r.point.book) (opened_of r.other.book) long acc r.resumes r.resumes_too

  -- no other run of one event more is accepted, and its points are those of the followed one again
  pub only_next : (n : ℕ) (trace : List (Event × Answer)) (s : State) (rest : List ℕ) → IsFollowed events report clusters n trace s rest → (e : Event) → take (suc n) events ≡ take n events ++ e ∷ []
      → (a : Answer) (t : State) → IsNext events report clusters n s e a t rest → (more : List (Event × Answer)) (u : State) → Accepted events report clusters (suc n) more u
      → (more ≡ trace ++ (e, a) ∷ []) × Alike of_state t u × SamePoints (core_of t.filter.volume) (core_of u.filter.volume)
  only_next n trace s rest f e is_e a t next more u acc =
      let l : LastOf more n = last_of more n (sym (length-map more event_of) ∙ ap (λ (es : List Event). length es) acc.events_are ∙ length-take-le (suc n) events acc.there) in
      let acc' : Accepted events report clusters (suc n) (l.front ++ l.last ∷ []) u = subst (λ (xs : List (Event × Answer)). Accepted events report clusters (suc n) xs u) l.is acc in
      let g : Front events report clusters n l.front l.last u = front_of events report clusters n l.front l.last u l.long acc' in
      let same = f.only l.front g.mid g.accepted in
      let event_is : l.last.0 ≡ e = last_event (map event_of l.front) (take n events) l.last.0 e g.accepted.events_are (sym (map-append event_of l.front (l.last ∷ [])) ∙ acc'.events_are ∙ is_e) in
      let begun : Begins rest (text l.last.1) = goes_on report rest trace l.front l.last f.text_is (sym same.0) acc'.front in
      let none : NoneStopped l.front = subst NoneStopped (sym same.0) f.none in
      let step : IsStep mode.Replay g.mid e l.last.1 u = subst (λ (z : Event). IsStep mode.Replay g.mid z l.last.1 u) event_is g.step in
      let begun_all : Begins report (texts (map answer_of (l.front ++ (e, l.last.1) ∷ []))) = subst (λ (z : Event). Begins report (texts (map answer_of (l.front ++ (z, l.last.1) ∷ [])))) event_is acc'.front in
      let all = by l.front l.last.1 g.mid g.accepted g.runs none step begun_all begun same.1 same.2 l.long (subst (λ (z : Event). Accepted events report clusters (suc n) (l.front ++ (z, l.last.1) ∷ []) u) event_is acc') (is_restart e) refl in (
        l.is ∙ ap (λ (fs : List (Event × Answer)). fs ++ l.last ∷ []) same.0 ∙ ap (λ (z : Event). trace ++ (z, l.last.1) ∷ []) event_is ∙ ap (λ (z : Answer). trace ++ (e, z) ∷ []) all.0,
        all.1,
        all.2,
      )
    where
      now : IsSteady s
      now = steady events report clusters short trace s f.lawful f.none

      laden : IsLaden (core_of s.filter.volume)
      laden = laden_run mode.Replay empty_remote clusters trace s f.lawful f.none

      by : (front : List (Event × Answer)) (b : Answer) (o : State) → Accepted events report clusters n front o → Runs mode.Replay (start mode.Replay empty_remote clusters) front o → NoneStopped front → IsStep mode.Replay o e b u
          → Begins report (texts (map answer_of (front ++ (e, b) ∷ []))) → Begins rest (text b) → Alike of_state s o → SamePoints (core_of s.filter.volume) (core_of o.filter.volume) → length front ≡ n
          → Accepted events report clusters (suc n) (front ++ (e, b) ∷ []) u → (restart : Bool) → is_restart e ≡ restart
          → (b ≡ a) × Alike of_state t u × SamePoints (core_of t.filter.volume) (core_of u.filter.volume)
      by front b o acc_o runs none step begun_all begun alike same long acc' true is =
          let restart : e ≡ event.Device device.Restart = restart_is e is in
          let next' : IsNext events report clusters n s (event.Device device.Restart) a t rest = subst (λ (z : Event). IsNext events report clusters n s z a t rest) restart next in
          next_restart n front s o a b t u rest long (subst (λ (z : Event). Accepted events report clusters (suc n) (front ++ (z, b) ∷ []) u) restart acc') (first_fits mode.Replay empty_remote clusters trace s f.lawful f.none) alike now (steady events report clusters short front o runs none) laden (laden_run mode.Replay empty_remote clusters front o runs none) same
          next' (subst (λ (z : Event). IsStep mode.Replay o z b u) restart step) begun (is_device b.shown) refl
      by front b o acc_o runs none step begun_all begun alike same long acc' false is =
          let other : e ≡ event.Device device.Restart → ⊥ = λ h. restart_not e is h in
          let well : is_good u ≡ true = good_last most report clusters front e b o u runs none step other acc.kept begun_all short in
          next_other n s o e a b t u rest alike now (steady events report clusters short front o runs none) laden (laden_run mode.Replay empty_remote clusters front o runs none) same next other step well begun
