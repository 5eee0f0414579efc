-- Calls without callbacks.
use Rattle.std.proofs.Common.{◌≡◌, List, [], sym, ap, subst, ◌∙◌}
use Rattle.std.specs.Prelude.{Result, Ok, Err}
use Rattle.cf_filter_events.specs.Answered.{answered_by, showing}
use Rattle.cf_filter_events.specs.Counted.{StepsOn}
use Rattle.cf_filter_events.specs.Actors.{Acts, IsActor}
use Rattle.cf_filter_events.specs.Meaning.{IsBegun, IsDiskOf, IsOn}
use Rattle.cf_filter_events.specs.Pasts.{Past}
use Rattle.cf_filter_events.specs.Stepped.{SteppedTo}
use Rattle.cf_filter_events.proofs.Counted.{calls_count}
use Rattle.cf_filter_events.proofs.CallFaults.{IsMade, calls_faults}
use Rattle.cf_filter_events.proofs.Finished.{Comes, IsCall, LeftTo, finished}
use Rattle.cf_filter_events.proofs.Hushed.{disk_moved, is_broken, stands_noted, was_broken}
use Rattle.cf_base.specs.declared.answers.Answer.{Answer}
use Rattle.cf_base.specs.declared.answers.Shown.{Shown}
use Rattle.cf_base.specs.declared.codes.CallError.{CallError}
use Rattle.cf_base.specs.declared.codes.CallError.TheVariants.{No, OutOfMemory}
use Rattle.cf_base.specs.declared.events.Event.{Event}
use Rattle.cf_base.specs.declared.memory.OutOfMemory.{OutOfMemory as NoMemory}
use Rattle.cf_base.specs.declared.notices.Notice.{Notice}
use Rattle.cf_engine_host.specs.Callbacks.{Answering}
use Rattle.cf_disk.specs.Disk.{State as Disk}
use Rattle.cf_filter.specs.Calling.{Calls, noted, shown_by}
use Rattle.cf_filter_machine.specs.Held.{Held}
use Rattle.cf_filter_machine.specs.Lasting.{Moved}
use Rattle.cf_filter_machine.specs.Sensing.{sense}
use Rattle.cf_model.proofs.ArrowLaws.{filter_in_whole}
use Rattle.cf_model.specs.Arrows.{Arrow}
use Rattle.cf_model.specs.Events.{begun, event_now}
use Rattle.cf_model.specs.State.{Filter, State, in_filter, with_filter}
use Rattle.cf_model.specs.Trees.{Does, Tree}
use Rattle.cf_filter_steps.specs.Answering.{After, Answers, Any}

module _ {D : Type 0} (state : D → Disk) where
  pub disk_left : (past : Past) (x y : Held D) (ns : List Notice) (v : Filter) (t : Filter) → IsDiskOf state past (state x.disk) v.volume → Moved (state (noted [] x).disk) (state (noted ns y).disk) v.volume t.volume → IsDiskOf state past (state y.disk) t.volume
  unfolding noted
  disk_left past x y ns v t disk moved = disk_moved state past (state x.disk) (state y.disk) v.volume t.volume disk moved

module _ {D A : Type 0} (answers : Answering A) (acts : Acts A) (actor : IsActor answers acts) (state : D → Disk) where
  left_to : (r : Result Shown CallError) (p : A) (x y : Held D) (z : State) (t : Filter) → acts.sees p z → After (sense state) x r y t → LeftTo answers acts actor state r p y (with_filter t z)
  left_to (Ok b) p x y z t sees h = (h, actor.sees_on p z t sees)
  left_to (Err (No c)) p x y z t sees h = (h.0, actor.sees_on p z t sees)
  left_to (Err OutOfMemory) p x y z t sees h = record {}

  -- A part of a call on the filter alone is the event.
  pub comes_by : (past : Past) (e : Event) (part : Arrow Filter Shown) (r : Result Shown CallError) (p : A) (ns : List Notice) (x y : Held D) (s : State)
      → ((z : State) → z.mode ≡ acts.mode → event_now e z ≡ in_filter part z) → Answers (sense state) Any part (noted [] x) r (noted ns y)
      → IsBegun acts state past (record { filter = x; actor = p }) s → Comes answers acts actor state past e s r p ns y
  comes_by past e part r p ns x y s is told begun_on =
      let z : State = begun s in
      let d = told.leads z.filter (stands_noted state x z.filter begun_on.quiet begun_on.stands) (record {}) in
      record {
        new = with_filter d.0 z;
        does = subst (λ (w : Tree State Shown). Does w r (with_filter d.0 z)) (sym (is z begun_on.mode)) (filter_in_whole part z r d.0 d.1);
        disk = disk_left state past x y ns z.filter d.0 begun_on.disk d.2;
        left = left_to r p (noted [] x) (noted ns y) z d.0 begun_on.sees d.3;
      }

  calls_by : {B : Type 0} (e : Event) (part : Arrow Filter Shown) (show : B → Shown) (p : A) (ns : List Notice) (x y : Held D) (r : Result B CallError) → IsCall acts.mode e
      → ((z : State) → z.mode ≡ acts.mode → event_now e z ≡ in_filter part z) → Calls (sense state) show part (noted [] x) r (noted ns y) → y.desk.notes ≡ x.desk.notes
      → (past : Past) (s : State) → IsBegun acts state past (record { filter = x; actor = p }) s → SteppedTo acts.mode (IsOn acts state past) e s (answered_by (showing show r) ns) (record { filter = y; actor = p })
  calls_by {B} e part show p ns x y r call is calls kept past s on =
      let d = calls.does (was_broken state x ∙ on.whole) in
      subst (λ (w : Result B CallError). SteppedTo acts.mode (IsOn acts state past) e s (answered_by (showing show w) ns) (record { filter = y; actor = p })) (sym d.1)
      (finished answers acts actor state past e s d.0 show p ns y call on.power (kept ∙ on.quiet) (sym (is_broken state y ns) ∙ d.3) (comes_by past e part (shown_by show d.0) p ns x y s is d.2 on))

  -- the same, as a call is written
  pub calls_step : {B : Type 0} (e : Event) (part : Arrow Filter Shown) (show : B → Shown) (p : A) (none ns : List Notice) (x y : Held D) (r : Result B CallError) (w : Result Shown CallError) (a : Result Answer NoMemory)
      → IsCall acts.mode e → IsMade part → ((z : State) → z.mode ≡ acts.mode → event_now e z ≡ in_filter part z) → none ≡ [] → Calls (sense state) show part (noted none x) r (noted ns y) → y.desk.notes ≡ x.desk.notes → w ≡ showing show r → a ≡ answered_by w ns
      → StepsOn acts state e (record { filter = x; actor = p }) a (record { filter = y; actor = p })
  calls_step {B} e part show p none ns x y r w a call made is begins calls kept shows tells =
      let c = subst (λ (l : List Notice). Calls (sense state) show part (noted l x) r (noted ns y)) begins calls in
      let h : StepsOn acts state e (record { filter = x; actor = p }) (answered_by (showing show r) ns) (record { filter = y; actor = p }) = record {
        steps = calls_by e part show p ns x y r call is c kept;
        counts = calls_count acts state part show p ns x y r c;
        faults = calls_faults acts state part show p ns x y r made c;
      } in
      subst (λ (b : Result Answer NoMemory). StepsOn acts state e (record { filter = x; actor = p }) b (record { filter = y; actor = p })) (sym (tells ∙ ap (λ (v : Result Shown CallError). answered_by v ns) shows)) h
