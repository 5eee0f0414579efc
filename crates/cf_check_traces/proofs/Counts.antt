-- How many changes the restarts keep that accepted runs go on with.
use Rattle.std.proofs.Common.{◌≡◌, ◌<◌, ◌+◌, ℕ, suc, true, false, filter, List, [], ◌∷◌, ◌++◌, length, sym, ◌∙◌, ap, subst, inl, inr}
use Rattle.std.specs.List.{flat_map}
use Rattle.cf_base.specs.declared.answers.Answer.{Answer}
use Rattle.cf_base.specs.declared.answers.Shown.{Shown}
use Rattle.cf_base.specs.declared.events.Event.{Event}
use Rattle.cf_base.specs.declared.notices.Notice.{Notice}
use Rattle.cf_base.specs.declared.answers.OpenedBook.{OpenedBook}
use Rattle.cf_base.specs.declared.answers.Shown.TheVariants as shown
use Rattle.cf_base.specs.declared.events.DeviceEvent.TheVariants as device
use Rattle.cf_base.specs.declared.events.Event.TheVariants as event
use Rattle.cf_base.specs.declared.policies.Mode.TheVariants as mode
use Rattle.cf_model.specs.Lawful.{IsStep}
use Rattle.cf_model.specs.Numbers.{most}
use Rattle.cf_model.specs.State.{State}
use Rattle.cf_model.specs.Store.{empty_remote}
use Rattle.cf_model.specs.Events.{begun}
use Rattle.cf_model.proofs.PointLaws.{started_with_points}
use Rattle.cf_report.specs.Texts.{notice_line, result_line, text}
use Rattle.cf_check_model.specs.Judging.{Accepted}
use Rattle.cf_check_model.specs.Reports.{Begins}
use Rattle.cf_check_text.proofs.Lines.{one_count}
use Rattle.cf_model_room.specs.Rooms.{sure_count, is_heavy}
use Rattle.cf_check_ways.specs.Ways.{SamePoints, core_of, Alike, of_state, IsOpenedAt}
use Rattle.cf_check_ways.proofs.RoomPoints.{counts_of_sures}
use Rattle.cf_check_ways.proofs.PointSteps.{restart_told, step_resumed}
use Rattle.cf_check_traces.specs.Decided.{NoneStopped}
use Rattle.cf_check_traces.specs.Followed.{IsFollowed, IsLight, ResumesAsAccepted}
use Rattle.cf_check_traces.specs.Tests.{is_resumed, resumes_next}
use Rattle.cf_check_traces.proofs.NextSteps.{goes_on}
use Rattle.cf_check_traces.proofs.SameRuns.{Front, front_of}
use Rattle.cf_check_traces.proofs.Testing.{resumes_so}
use Rattle.cf_check_traces.proofs.RunPoints.{laden_run}

module _ (events : List Event) (report : List ℕ) (clusters : ℕ) (short : length report < most) where
  -- a restart of an accepted run opened a point that may be opened in the followed one
  pub resumed_there : (n : ℕ) (trace : List (Event × Answer)) (s : State) (rest : List ℕ) → IsFollowed events report clusters n trace s rest → (front : List (Event × Answer)) (b : Answer) (u : State) (k : ℕ) (y : OpenedBook) → length front ≡ n → Accepted events report clusters (suc n) (front ++ (event.Device device.Restart, b) ∷ []) u → b.shown ≡ shown.Resumed k y → IsOpenedAt s k
  resumed_there n trace s rest f front b u k y long acc told =
      let g : Front events report clusters n front (event.Device device.Restart, b) u = front_of events report clusters n front (event.Device device.Restart, b) u long acc in
      let same = f.only front g.mid g.accepted in
      let none : NoneStopped front = subst NoneStopped (sym same.0) f.none in
      let points : SamePoints (core_of s.filter.volume) (core_of g.mid.filter.volume) = same.2 in
      let there : IsOpenedAt g.mid k
      = step_resumed mode.Replay g.mid b u k y (started_with_points mode.Replay empty_remote clusters front g.mid g.runs) (laden_run mode.Replay empty_remote clusters front g.mid g.runs none) g.step told in
      by g.mid (counts_of_sures s.filter.volume.points g.mid.filter.volume.points points.sure) same.1 there
    where
      by : (o : State) → sure_count s.filter.volume.points ≡ sure_count o.filter.volume.points → Alike of_state s o → IsOpenedAt o k → IsOpenedAt s k
      by o count alike (inl e) = inl (e ∙ sym count)
      by o count alike (inr h) =
          inr (ap (λ (m : ℕ). is_heavy s.filter.volume.clusters m s.filter.volume.log k) count
          ∙ ap (λ (x : State). is_heavy x.filter.volume.clusters (sure_count o.filter.volume.points) x.filter.volume.log k) alike ∙ h)

  -- so did the answer, and where the log is heavy nowhere that leaves one count
  pub counts_where_light : (n : ℕ) (trace : List (Event × Answer)) (s : State) (rest : List ℕ) → IsFollowed events report clusters n trace s rest → IsLight s → (a : Answer) (t : State) → IsStep mode.Replay s (event.Device device.Restart) a t → ResumesAsAccepted events report clusters n a
  counts_where_light n trace s rest f light a t step front b u k l x y long acc told told_too =
      at_sure k (step_resumed mode.Replay s a t k x (started_with_points mode.Replay empty_remote clusters trace s f.lawful) (laden_run mode.Replay empty_remote clusters trace s f.lawful f.none) step told)
      ∙ sym (at_sure l (resumed_there n trace s rest f front b u l y long acc told_too))
    where
      at_sure : (m : ℕ) → IsOpenedAt s m → m ≡ sure_count s.filter.volume.points
      at_sure m (inl e) = e
      at_sure m (inr h) = let z : true ≡ false = sym h ∙ light m in absurd cc

  -- how the report goes on with it
  goes_with : (n : ℕ) (trace : List (Event × Answer)) (s : State) (rest : List ℕ) → IsFollowed events report clusters n trace s rest → (front : List (Event × Answer)) (b : Answer) (u : State) → length front ≡ n → Accepted events report clusters (suc n) (front ++ (event.Device device.Restart, b) ∷ []) u
      → Begins rest (result_line b.shown)
  goes_with n trace s rest f front b u long acc =
      let g : Front events report clusters n front (event.Device device.Restart, b) u = front_of events report clusters n front (event.Device device.Restart, b) u long acc in
      let same = f.only front g.mid g.accepted in
      subst (λ (ns : List Notice). Begins rest (flat_map notice_line ns ++ result_line b.shown)) (restart_told mode.Replay g.mid b u g.step)
      (goes_on report rest trace front (event.Device device.Restart, b) f.text_is (sym same.0) acc.front)

  -- where it goes on with the answer both have one count
  pub counts_as_told : (n : ℕ) (trace : List (Event × Answer)) (s : State) (rest : List ℕ) → IsFollowed events report clusters n trace s rest → (a : Answer) (t : State) → IsStep mode.Replay s (event.Device device.Restart) a t → Begins rest (text a) → ResumesAsAccepted events report clusters n a
  counts_as_told n trace s rest f a t step begun front b u k l x y long acc told told_too =
      one_count k l x y (
        rest,
        subst (λ (z : Shown). Begins rest (result_line z)) told (subst (λ (ns : List Notice). Begins rest (flat_map notice_line ns ++ result_line a.shown)) (restart_told mode.Replay s a t step) begun),
        subst (λ (z : Shown). Begins rest (result_line z)) told_too (goes_with n trace s rest f front b u long acc),
      )

  -- where it goes on with no restart that resumed, no accepted run does
  pub counts_untold : (n : ℕ) (trace : List (Event × Answer)) (s : State) (rest : List ℕ) → IsFollowed events report clusters n trace s rest → (a : Answer) → resumes_next rest ≡ false → ResumesAsAccepted events report clusters n a
  counts_untold n trace s rest f a untold front b u k l x y long acc told told_too =
      let z : true ≡ false = sym (resumes_so l y rest (subst (λ (z : Shown). Begins rest (result_line z)) told_too (goes_with n trace s rest f front b u long acc))) ∙ untold in absurd cc

-- an answer that did not resume has no count
pub counts_none : (events : List Event) (report : List ℕ) (clusters n : ℕ) (a : Answer) → is_resumed a.shown ≡ false → ResumesAsAccepted events report clusters n a
counts_none events report clusters n a none front b u k l x y long acc told told_too = let z : true ≡ false = sym (ap is_resumed told) ∙ none in absurd cc
