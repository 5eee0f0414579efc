-- Calls with callbacks of the actor.
use Rattle.std.proofs.Common.{◌≡◌, List, [], sym, ap, subst, ◌∙◌}
use Rattle.std.specs.Prelude.{Result, Ok, Err}
use Rattle.cf_filter_events.specs.Answered.{answered_by, showing}
use Rattle.cf_filter_events.specs.Counted.{StepsOn}
use Rattle.cf_filter_events.specs.Actors.{Acts, IsActor}
use Rattle.cf_filter_events.specs.Meaning.{IsBegun, IsOn}
use Rattle.cf_filter_events.specs.Pasts.{Past}
use Rattle.cf_filter_events.specs.Stepped.{SteppedTo}
use Rattle.cf_filter_events.proofs.Called.{disk_left}
use Rattle.cf_filter_events.proofs.Counted.{provides_count}
use Rattle.cf_filter_events.proofs.CallFaults.{IsMade, provides_faults}
use Rattle.cf_filter_events.proofs.Finished.{Comes, IsCall, LeftTo, finished}
use Rattle.cf_filter_events.proofs.Hushed.{is_broken, stands_noted, was_broken}
use Rattle.cf_base.specs.declared.answers.Answer.{Answer}
use Rattle.cf_base.specs.declared.answers.Shown.{Shown}
use Rattle.cf_base.specs.declared.codes.CallError.{CallError}
use Rattle.cf_base.specs.declared.codes.CallError.TheVariants.{No, OutOfMemory}
use Rattle.cf_base.specs.declared.events.Event.{Event}
use Rattle.cf_base.specs.declared.memory.OutOfMemory.{OutOfMemory as NoMemory}
use Rattle.cf_base.specs.declared.notices.Notice.{Notice}
use Rattle.cf_disk.specs.Disk.{State as Disk}
use Rattle.cf_engine_host.specs.Callbacks.{Answering}
use Rattle.cf_filter.specs.Calling.{noted, shown_by}
use Rattle.cf_filter.specs.Draining.{CallsBack, Provides}
use Rattle.cf_filter.specs.Playing.{LeftBy, played}
use Rattle.cf_filter_machine.specs.Held.{Held}
use Rattle.cf_model.specs.Arrows.{Arrow}
use Rattle.cf_model.specs.Callbacks.{calling}
use Rattle.cf_model.specs.Events.{begun, event_now}
use Rattle.cf_model.specs.State.{Filter, State}
use Rattle.cf_model.specs.Trees.{Does, Tree}
use Rattle.cf_filter_steps.specs.Answering.{Any}

module _ {D A : Type 0} (answers : Answering A) (acts : Acts A) (actor : IsActor answers acts) (state : D → Disk) where
  left_to : (r : Result Shown CallError) (q : A) (x y : Held D) (z : State) → LeftBy state acts.sees x r q y z → LeftTo answers acts actor state r q y z
  left_to (Ok b) q x y z h = h
  left_to (Err (No c)) q x y z h = (h.0, h.1)
  left_to (Err OutOfMemory) q x y z h = record {}

  comes_back : (past : Past) (e : Event) (part : Arrow Filter Shown) (r : Result Shown CallError) (p q : A) (ns : List Notice) (x y : Held D) (s : State)
      → ((z : State) → z.mode ≡ acts.mode → event_now e z ≡ calling part z) → CallsBack state answers Any part p (noted [] x) r q (noted ns y)
      → IsBegun acts state past (record { filter = x; actor = p }) s → Comes answers acts actor state past e s r q ns y
  comes_back past e part r p q ns x y s is back on =
      let z : State = begun s in
      let d = played state answers acts.sees actor.plays Any part p q (noted [] x) (noted ns y) z r back (stands_noted state x z.filter on.quiet on.stands) (record {}) (λ a m e. actor.sees_on p z m on.sees) (λ t e. actor.sees_on p z t on.sees) in
      record {
        new = d.new;
        does = subst (λ (w : Tree State Shown). Does w r d.new) (sym (is z on.mode)) d.does;
        disk = disk_left state past x y ns z.filter d.new.filter on.disk d.moved;
        left = left_to r q (noted [] x) (noted ns y) d.new d.left;
      }

  provides_by : {B : Type 0} (e : Event) (part : Arrow Filter Shown) (show : B → Shown) (p q : A) (ns : List Notice) (x y : Held D) (r : Result B CallError) → IsCall acts.mode e
      → ((z : State) → z.mode ≡ acts.mode → event_now e z ≡ calling part z) → Provides state answers Any show part p (noted [] x) r q (noted ns y) → y.desk.notes ≡ x.desk.notes
      → (past : Past) (s : State) → IsBegun acts state past (record { filter = x; actor = p }) s → SteppedTo acts.mode (IsOn acts state past) e s (answered_by (showing show r) ns) (record { filter = y; actor = q })
  provides_by {B} e part show p q ns x y r call is calls kept past s on =
      let d = calls.does (was_broken state x ∙ on.whole) in
      subst (λ (w : Result B CallError). SteppedTo acts.mode (IsOn acts state past) e s (answered_by (showing show w) ns) (record { filter = y; actor = q })) (sym d.1)
      (finished answers acts actor state past e s d.0 show q ns y call on.power (kept ∙ on.quiet) (sym (is_broken state y ns) ∙ d.3) (comes_back past e part (shown_by show d.0) p q ns x y s is d.2 on))

  -- the same, as a call is written
  pub provides_step : {B : Type 0} (e : Event) (part : Arrow Filter Shown) (show : B → Shown) (p q : A) (none ns : List Notice) (x y : Held D) (r : Result B CallError) (w : Result Shown CallError) (a : Result Answer NoMemory)
      → IsCall acts.mode e → IsMade part → ((z : State) → z.mode ≡ acts.mode → event_now e z ≡ calling part z) → none ≡ [] → Provides state answers Any show part p (noted none x) r q (noted ns y) → y.desk.notes ≡ x.desk.notes → w ≡ showing show r → a ≡ answered_by w ns
      → StepsOn acts state e (record { filter = x; actor = p }) a (record { filter = y; actor = q })
  provides_step {B} e part show p q none ns x y r w a call made is begins calls kept shows tells =
      let c = subst (λ (l : List Notice). Provides state answers Any show part p (noted l x) r q (noted ns y)) begins calls in
      let h : StepsOn acts state e (record { filter = x; actor = p }) (answered_by (showing show r) ns) (record { filter = y; actor = q }) = record {
        steps = provides_by e part show p q ns x y r call is c kept;
        counts = provides_count acts state answers part show p q ns x y r c;
        faults = provides_faults answers acts actor state part show p q ns x y r made c;
      } in
      subst (λ (b : Result Answer NoMemory). StepsOn acts state e (record { filter = x; actor = p }) b (record { filter = y; actor = q })) (sym (tells ∙ ap (λ (v : Result Shown CallError). answered_by v ns) shows)) h
