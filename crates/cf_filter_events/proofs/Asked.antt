-- Questions, which change nothing, and calls that tell no notes.
use Rattle.std.proofs.Common.{◌≡◌, Bool, true, false, List, [], refl, sym, ap, subst, ◌∙◌}
use Rattle.std.specs.Prelude.{Result, Ok, Err}
use Rattle.cf_filter_events.specs.Answered.{answered_by, showing}
use Rattle.cf_filter_events.specs.Counted.{StepsOn}
use Rattle.cf_filter_events.specs.Actors.{Acts, IsActor, hushed}
use Rattle.cf_filter_events.specs.Meaning.{IsBegun, IsOn}
use Rattle.cf_filter_events.specs.Pasts.{Past}
use Rattle.cf_filter_events.specs.Stepped.{SteppedTo}
use Rattle.cf_filter_events.proofs.Called.{comes_by}
use Rattle.cf_filter_events.proofs.Counted.{asks_count, plainly_count}
use Rattle.cf_filter_events.proofs.CallFaults.{plainly_faults}
use Rattle.cf_filter_events.proofs.Finished.{Comes, IsCall, finished}
use Rattle.cf_filter_events.proofs.Hushed.{noted_none}
use Rattle.cf_base.specs.declared.answers.Answer.{Answer}
use Rattle.cf_base.specs.declared.answers.Shown.{Shown}
use Rattle.cf_base.specs.declared.answers.Shown.TheVariants as shown
use Rattle.cf_base.specs.declared.codes.Code.{Code}
use Rattle.cf_base.specs.declared.codes.Code.TheVariants as code
use Rattle.cf_base.specs.declared.codes.CallError.{CallError}
use Rattle.cf_base.specs.declared.codes.CallError.TheVariants.{No, OutOfMemory}
use Rattle.cf_base.specs.declared.events.Event.{Event}
use Rattle.cf_base.specs.declared.memory.OutOfMemory.{OutOfMemory as NoMemory}
use Rattle.cf_base.specs.declared.notices.Notice.{Notice}
use Rattle.cf_base.specs.declared.policies.Class.{Class}
use Rattle.cf_disk.specs.Disk.{State as Disk}
use Rattle.cf_engine_host.specs.Callbacks.{Answering}
use Rattle.cf_filter.specs.Calling.{Asks, Calls, Told, answer_of, is_stopped, noted, shown_by}
use Rattle.cf_filter_desk.specs.Desks.{Desk}
use Rattle.cf_filter_machine.specs.Held.{Held}
use Rattle.cf_filter_machine.specs.Sensing.{sense}
use Rattle.cf_model.proofs.TreeLaws.{kept_at_end, kept_at_stop}
use Rattle.cf_model.specs.Arrows.{Arrow, Preserves, choose, ret}
use Rattle.cf_model.specs.Calls.{df, info, info_item, ranges, ranges_item, used, used_item}
use Rattle.cf_model.specs.Events.{event_now}
use Rattle.cf_model.specs.Items.{Item}
use Rattle.cf_model.specs.State.{Filter, State, in_filter}
use Rattle.cf_model.specs.Trees.{Stops}
use Rattle.cf_model.specs.Waits.{but_directory, on_ok}
use Rattle.cf_filter_steps.specs.Answering.{Answers, Any}

-- a question takes no step, so that no device stops it

abbrev pub NeverStops : Arrow Filter Shown → Type 0
NeverStops part = (f t : Filter) → Stops (part f) t → ⊥

on_ok_never : (g : Item → Arrow Filter Shown) → ((i : Item) → NeverStops (g i)) → (r : Result Item Code) → NeverStops (on_ok g r)
on_ok_never g each (Ok i) f t h = each i f t h
on_ok_never g each (Err c) f t h = h

but_directory_never : (g : Item → Arrow Filter Shown) → ((i : Item) → NeverStops (g i)) → (b : Bool) (i : Item) → NeverStops (choose b (ret (shown.Refused code.IsDirectory)) (g i))
but_directory_never g each true i f t h = h
but_directory_never g each false i f t h = each i f t h

pub info_never : (path : List _) → NeverStops (info path)
info_never path f t h = on_ok_never info_item (λ i g u k. k) _ f t h

pub ranges_never : (path : List _) (c : Class) → NeverStops (ranges path c)
ranges_never path c f t h = on_ok_never (but_directory (ranges_item c)) (λ i. but_directory_never (ranges_item c) (λ j g u k. k) i.directory i) _ f t h

pub used_never : (path : List _) → NeverStops (used path)
used_never path f t h = on_ok_never (but_directory used_item) (λ i. but_directory_never used_item (λ j g u k. k) i.directory i) _ f t h

pub df_never : NeverStops df
df_never f t h = h

-- no note was told yet
abbrev pub Hush : Filter → Type 0
Hush f = f.notes ≡ []

module _ {D A : Type 0} (answers : Answering A) (acts : Acts A) (actor : IsActor answers acts) (state : D → Disk) where
  asks_by : {B : Type 0} (e : Event) (part : Arrow Filter Shown) (show : B → Shown) (p : A) (x : Held D) (r : Result B CallError) → IsCall acts.mode e → NeverStops part
      → ((z : State) → z.mode ≡ acts.mode → event_now e z ≡ in_filter part z) → Asks (sense state) show part x r
      → (past : Past) (s : State) → IsBegun acts state past (record { filter = x; actor = p }) s → SteppedTo acts.mode (IsOn acts state past) e s (answered_by (showing show r) []) (record { filter = x; actor = p })
  asks_by {B} e part show p x r call never is asks past s on =
      let d = asks.does on.whole in
      subst (λ (w : Result B CallError). SteppedTo acts.mode (IsOn acts state past) e s (answered_by (showing show w) []) (record { filter = x; actor = p })) (sym d.1) (after d.0 d.2)
    where
      comes : (w : Result Shown CallError) → Answers (sense state) Any part x w x → Comes answers acts actor state past e s w p [] x
      comes w told = comes_by answers acts actor state past e part w p [] x x s is (subst (λ (y : Held D). Answers (sense state) Any part y w y) (sym (noted_none state x on.quiet)) told) on

      after : (q : Told B) → Answers (sense state) Any part x (shown_by show q) x → SteppedTo acts.mode (IsOn acts state past) e s (answered_by (showing show (answer_of q)) []) (record { filter = x; actor = p })
      after (Ok (Ok a)) told = finished answers acts actor state past e s (Ok (Ok a)) show p [] x call on.power on.quiet on.whole (comes (Ok (show a)) told)
      after (Ok (Err c)) told = (let q : Told B = Ok (Err c) in finished answers acts actor state past e s q show p [] x call on.power on.quiet on.whole (comes (Ok (shown.Refused c)) told))
      after (Err (No c)) told = let d = told.leads (hushed s.filter) on.stands (record {}) in absurd (never (hushed s.filter) d.0 d.1.1)
      after (Err OutOfMemory) told = record {}

  -- calls that add no notes

  plainly_by : {B : Type 0} (e : Event) (part : Arrow Filter Shown) (show : B → Shown) (p : A) (x y : Held D) (r : Result B CallError) → IsCall acts.mode e → Preserves Hush part
      → ((z : State) → z.mode ≡ acts.mode → event_now e z ≡ in_filter part z) → Calls (sense state) show part x r y
      → (past : Past) (s : State) → IsBegun acts state past (record { filter = x; actor = p }) s → SteppedTo acts.mode (IsOn acts state past) e s (answered_by (showing show r) []) (record { filter = y; actor = p })
  plainly_by {B} e part show p x y r call hush is calls past s on =
      let d = calls.does on.whole in
      subst (λ (w : Result B CallError). SteppedTo acts.mode (IsOn acts state past) e s (answered_by (showing show w) []) (record { filter = y; actor = p })) (sym d.1) (after d.0 d.2 d.3)
    where
      quiet_ok : (b : Shown) → Answers (sense state) Any part x (Ok b) y → y.desk.notes ≡ []
      quiet_ok b told =
          let d = told.leads (hushed s.filter) on.stands (record {}) in
          ap (λ (k : Desk). k.notes) d.3.desk ∙ kept_at_end Hush (part (hushed s.filter)) b d.0 (hush.keeps (hushed s.filter) refl) d.1

      quiet_stop : (c : Code) → Answers (sense state) Any part x (Err (No c)) y → y.desk.notes ≡ []
      quiet_stop c told =
          let d = told.leads (hushed s.filter) on.stands (record {}) in
          d.3.0.notes ∙ kept_at_stop Hush (part (hushed s.filter)) d.0 (hush.keeps (hushed s.filter) refl) d.1.1

      comes : (w : Result Shown CallError) → y.desk.notes ≡ [] → Answers (sense state) Any part x w y → Comes answers acts actor state past e s w p [] y
      comes w quiet told =
          comes_by answers acts actor state past e part w p [] x y s is
          (subst (λ (k : Held D). Answers (sense state) Any part k w (noted [] y)) (sym (noted_none state x on.quiet)) (subst (λ (k : Held D). Answers (sense state) Any part x w k) (sym (noted_none state y quiet)) told)) on

      after : (q : Told B) → Answers (sense state) Any part x (shown_by show q) y → y.desk.broken ≡ is_stopped q → SteppedTo acts.mode (IsOn acts state past) e s (answered_by (showing show (answer_of q)) []) (record { filter = y; actor = p })
      after (Ok (Ok a)) told whole = let quiet = quiet_ok (show a) told in finished answers acts actor state past e s (Ok (Ok a)) show p [] y call on.power quiet whole (comes (Ok (show a)) quiet told)
      after (Ok (Err c)) told whole =
          let quiet = quiet_ok (shown.Refused c) told in let q : Told B = Ok (Err c) in finished answers acts actor state past e s q show p [] y call on.power quiet whole (comes (Ok (shown.Refused c)) quiet told)
      after (Err (No c)) told whole = let quiet = quiet_stop c told in finished answers acts actor state past e s (Err (No c)) show p [] y call on.power quiet whole (comes (Err (No c)) quiet told)
      after (Err OutOfMemory) told whole = record {}

  -- the same, as they are written
  pub asks_step : {B : Type 0} (e : Event) (part : Arrow Filter Shown) (show : B → Shown) (p : A) (ns : List Notice) (x : Held D) (r : Result B CallError) (w : Result Shown CallError) (a : Result Answer NoMemory) → IsCall acts.mode e → NeverStops part
      → ((z : State) → z.mode ≡ acts.mode → event_now e z ≡ in_filter part z) → ns ≡ [] → Asks (sense state) show part x r → w ≡ showing show r → a ≡ answered_by w ns → StepsOn acts state e (record { filter = x; actor = p }) a (record { filter = x; actor = p })
  asks_step e part show p ns x r w a call never is none asks shows tells =
      subst (λ (b : Result Answer NoMemory). StepsOn acts state e (record { filter = x; actor = p }) b (record { filter = x; actor = p })) (sym (tells ∙ ap (λ (v : Result Shown CallError). answered_by v ns) shows ∙ ap (λ (l : List Notice). answered_by (showing show r) l) none))
      (record { steps = asks_by e part show p x r call never is asks; counts = λ past s on. asks_count state part show x r asks; faults = λ past s on. plainly_faults acts show p r })

  pub calls_plainly : {B : Type 0} (e : Event) (part : Arrow Filter Shown) (show : B → Shown) (p : A) (ns : List Notice) (x y : Held D) (r : Result B CallError) (w : Result Shown CallError) (a : Result Answer NoMemory) → IsCall acts.mode e → Preserves Hush part
      → ((z : State) → z.mode ≡ acts.mode → event_now e z ≡ in_filter part z) → ns ≡ [] → Calls (sense state) show part x r y → w ≡ showing show r → a ≡ answered_by w ns → StepsOn acts state e (record { filter = x; actor = p }) a (record { filter = y; actor = p })
  calls_plainly e part show p ns x y r w a call hush is none calls shows tells =
      subst (λ (b : Result Answer NoMemory). StepsOn acts state e (record { filter = x; actor = p }) b (record { filter = y; actor = p })) (sym (tells ∙ ap (λ (v : Result Shown CallError). answered_by v ns) shows ∙ ap (λ (l : List Notice). answered_by (showing show r) l) none))
      (record { steps = plainly_by e part show p x y r call hush is calls; counts = plainly_count acts state part show p x y r calls; faults = λ past s on. plainly_faults acts show p r })
