-- A planned operation.
use Rattle.std.proofs.Common.{◌≡◌, Bool, true, false, List, [], ◌∷◌, ◌++◌, refl, ap, subst, sym}
use Rattle.std.specs.Prelude.{IfOk, Result, Ok, Err}
use Rattle.std.specs.Result.{IsErrAnd}
use Rattle.cf_filter_events.specs.Answered.{answer_with}
use Rattle.cf_filter_events.specs.Counted.{StepsOn}
use Rattle.cf_filter_events.specs.Meaning.{IsBegun, IsOn, OnBy}
use Rattle.cf_filter_events.specs.Pasts.{Past}
use Rattle.cf_filter_events.specs.Stepped.{SteppedTo}
use Rattle.cf_filter_events.specs.declared.places.RunningOn.{RunningOn as Run}
use Rattle.cf_filter_events.proofs.Counted.{plain_if}
use Rattle.cf_filter_events.proofs.Finished.{while_on}
use Rattle.cf_world_filter.specs.Scripts.{no_remote, scripts}
use Rattle.cf_base.specs.declared.answers.Answer.{Answer}
use Rattle.cf_base.specs.declared.answers.Shown.TheVariants as shown
use Rattle.cf_base.specs.declared.events.Event.{Event}
use Rattle.cf_base.specs.declared.events.Event.TheVariants as event
use Rattle.cf_base.specs.declared.events.ProviderEvent.TheVariants as provider
use Rattle.cf_base.specs.declared.memory.OutOfMemory.{OutOfMemory as NoMemory}
use Rattle.cf_base.specs.declared.operations.Operation.{Operation}
use Rattle.cf_base.specs.declared.policies.Mode.TheVariants.{Filter as InFilter}
use Rattle.cf_disk.specs.Disk.{State as Disk}
use Rattle.cf_filter_machine.specs.Held.{Held}
use Rattle.cf_link.proofs.FaultCounts.{failed_none}
use Rattle.cf_model.proofs.TraceLaws.{ended_step}
use Rattle.cf_model.specs.Events.{begun, with_planned}
use Rattle.cf_model.specs.State.{State}

module _ {D : Type 0} (state : D → Disk) where
  planned_step : (own : Bool) (op : Operation) (x : Held D) (plan : List (Bool × Operation)) (past : Past) (s : State) → IsBegun scripts state past (record { filter = x; actor = plan }) s
      → SteppedTo InFilter (IsOn scripts state past) (event.Provider (provider.Plan own op)) s (Ok (answer_with shown.Done [])) (record { filter = x; actor = plan ++ (own, op) ∷ [] })
  planned_step own op x plan past s on =
      let t : State = with_planned own op (begun s) in
      let after : OnBy scripts state false (record { filter = x; actor = plan ++ (own, op) ∷ [] }) t = (on.power, ap (λ (l : List (Bool × Operation)). l ++ (own, op) ∷ []) on.sees.planned, on.stands) in (
        t,
        ended_step InFilter s (event.Provider (provider.Plan own op)) shown.Done t refl (while_on true s.power on.power) (refl, refl),
        record { mode = on.mode; quiet = on.quiet; disk = record { fit = on.disk.fit; clusters = on.disk.clusters; powers = on.disk.powers }; is = subst (λ (b : Bool). OnBy scripts state b (record { filter = x; actor = plan ++ (own, op) ∷ [] }) t) (sym on.whole) after },
      )

  -- the same, as the code has it
  pub plans_step : (own : Bool) (op : Operation) (x : Held D) (plan left : List (Bool × Operation)) (r : Result Answer NoMemory) → IfOk r (λ a. a ≡ answer_with shown.Done []) → IfOk r (λ a. left ≡ plan ++ (own, op) ∷ [])
      → StepsOn scripts state (event.Provider (provider.Plan own op)) (record { filter = x; actor = plan }) r (record { filter = x; actor = left })
  plans_step own op x plan left (Err m) told adds = record { steps = λ past s on. record {}; counts = λ past s on. record {}; faults = λ past s on. record {} }
  plans_step own op x plan left (Ok a) told adds =
      let h : StepsOn scripts state (event.Provider (provider.Plan own op)) (record { filter = x; actor = plan }) (Ok (answer_with shown.Done [])) (record { filter = x; actor = plan ++ (own, op) ∷ [] }) = record {
        steps = planned_step own op x plan;
        counts = λ past s on. plain_if (answer_with shown.Done []) x.desk.broken (state x.disk) refl;
        faults = λ past s on. failed_none no_remote;
      } in
      let to = subst (λ (l : List (Bool × Operation)). StepsOn scripts state (event.Provider (provider.Plan own op)) (record { filter = x; actor = plan }) (Ok (answer_with shown.Done [])) (record { filter = x; actor = l })) (sym adds) h in
      subst (λ (b : Answer). StepsOn scripts state (event.Provider (provider.Plan own op)) (record { filter = x; actor = plan }) (Ok b) (record { filter = x; actor = left })) (sym told) to

  -- where memory ran out nothing is said
  pub no_memory : (e : Event) (x y : Run D (List (Bool × Operation))) (r : Result Answer NoMemory) (m : NoMemory) → IsErrAnd r (λ z. z ≡ m) → StepsOn scripts state e x r y
  no_memory e x y (Ok a) m h = absurd h
  no_memory e x y (Err k) m h = record { steps = λ past s is. record {}; counts = λ past s is. record {}; faults = λ past s is. record {} }
