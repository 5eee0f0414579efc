-- The scripted provider plays the provider of the definitions, and is an actor.
use Rattle.std.proofs.Common.{◌≡◌, ◌+◌, ℕ, Bool, List, [], ◌∷◌, refl, sym, ap, subst, ◌∙◌, inl, inr, arith}
use Rattle.cf_world_filter.specs.Scripts.{Sees, no_remote, scripts}
use Rattle.cf_filter_events.specs.Actors.{IsActor}
use Rattle.cf_base.specs.declared.answers.Shown.{Shown}
use Rattle.cf_base.specs.declared.operations.Operation.{Operation}
use Rattle.cf_base.specs.declared.ids.Key.{Key}
use Rattle.cf_base.specs.declared.waits.Ask.{Ask}
use Rattle.cf_engine_host.specs.CallbackLaws.{Plays}
use Rattle.cf_engine_host.specs.Callbacks.{NoneFailed}
use Rattle.cf_engine_provider.specs.Agencies.{faults_among}
use Rattle.cf_link.proofs.FaultCounts.{failed_none}
use Rattle.cf_link.specs.Faults.{AsksFailed}
use Rattle.cf_model.proofs.TreeLaws.{ends_mapped, ends_then, stops_first, stops_mapped, stops_then}
use Rattle.cf_model.specs.Arrows.{each, unit}
use Rattle.cf_model.specs.Callbacks.{begin_call, call_back, carry_out, planned_on, with_operation_told, without_plan}
use Rattle.cf_model.specs.Operations.{execute}
use Rattle.cf_model.specs.Ports.{Act, Acts, Failed, HasFailed}
use Rattle.cf_model.specs.State.{Filter, Running, State, in_filter, with_filter}
use Rattle.cf_model.specs.Trees.{Ends, Stops, Tree}
use Rattle.cf_provider_script.specs.Lines.{Answers, CarriesOut}

sees_still : (plan : List (Bool × Operation)) (z : State) (f : Filter) → Sees plan z → Sees plan (with_filter f z)
sees_still plan z f h = record { mode = h.mode; power = h.power; planned = h.planned; running = h.running }

no_failure : {A : Type 0} (op : Operation) (acts : List Act) → acts ≡ Failed [] op ∷ [] → NoneFailed acts → A
no_failure op acts is none = absurd (subst NoneFailed is none)

-- one planned operation that was answered, with its line
one_done : (own : Key) (p : Bool × Operation) (z : State) (answer : Shown) (mid : Filter) → Ends (execute (planned_on own p) z.filter) answer mid → Ends (carry_out own p z) unit (with_operation_told answer (with_filter mid z))
one_done own p z answer mid h = ends_then (in_filter (execute (planned_on own p)) z) _ answer (with_filter mid z) unit _ (ends_mapped (λ f. with_filter f z) (execute (planned_on own p) z.filter) answer mid h) (refl, refl)

one_cut : (own : Key) (p : Bool × Operation) (z : State) (mid : Filter) → Stops (execute (planned_on own p) z.filter) mid → Stops (carry_out own p z) (with_filter mid z)
one_cut own p z mid h = stops_first (in_filter (execute (planned_on own p)) z) _ (with_filter mid z) (stops_mapped (λ f. with_filter f z) (execute (planned_on own p) z.filter) mid h)

-- all of them
all_done : (own : Key) (ops : List (Bool × Operation)) (acts : List Act) (z : State) (t : Filter) → CarriesOut own ops acts → Acts z.filter acts t → NoneFailed acts → Ends (each (carry_out own) ops z) unit (with_filter t z)
unfolding CarriesOut
all_done own [] acts z t is h none =
    let same : t ≡ z.filter = subst (λ (l : List Act). Acts z.filter l t) is h in
    (refl, ap (λ (f : Filter). with_filter f z) same)
all_done own (p ∷ ps) acts z t (inl is) h none = no_failure (planned_on own p) acts is none
all_done own (p ∷ ps) acts z t (inr is) h none =
    let answer = is.0 in
    let went = subst (λ (l : List Act). Acts z.filter l t) is.2 h in
    let rest : NoneFailed is.1 = subst NoneFailed is.2 none in
    let next : State = with_operation_told answer (with_filter went.0 z) in
    ends_then (carry_out own p z) _ unit next unit (with_filter t z) (one_done own p z answer went.0 went.1) (all_done own ps is.1 next t is.3 went.2 rest)

some_cut : (own : Key) (ops : List (Bool × Operation)) (acts : List Act) (z : State) (t : Filter) → CarriesOut own ops acts → Acts z.filter acts t → HasFailed acts → Stops (each (carry_out own) ops z) (with_filter t z)
unfolding CarriesOut
some_cut own [] acts z t is h failed = absurd (subst HasFailed is failed)
some_cut own (p ∷ ps) acts z t (inl is) h failed =
    let went = subst (λ (l : List Act). Acts z.filter l t) is h in
    stops_first (carry_out own p z) _ (with_filter t z) (subst (λ (f : Filter). Stops (carry_out own p z) (with_filter f z)) (sym went.2) (one_cut own p z went.0 went.1))
some_cut own (p ∷ ps) acts z t (inr is) h failed =
    let answer = is.0 in
    let went = subst (λ (l : List Act). Acts z.filter l t) is.2 h in
    let rest : HasFailed is.1 = subst HasFailed is.2 failed in
    let next : State = with_operation_told answer (with_filter went.0 z) in
    stops_then (carry_out own p z) _ unit next (with_filter t z) (one_done own p z answer went.0 went.1) (some_cut own ps is.1 next t is.3 went.2 rest)

-- the scripted provider plays the arrow of the definitions
scripted_tree : (a : Ask) (z : State) (plan : List (Bool × Operation)) → Sees plan z → call_back a z ≡ each (carry_out a.key) plan (without_plan z)
scripted_tree a z plan sees = rw (sees.mode, sees.planned) refl

taken : (plan : List (Bool × Operation)) (z : State) (t : Filter) → Sees plan z → Sees [] (with_filter t (without_plan z))
taken plan z t h = record { mode = h.mode; power = h.power; planned = refl; running = h.running }

scripted_plays : Plays Answers Sees
scripted_plays = record {
  called = λ p x asks h. sees_still p x (record x.filter { outbox = asks }) h;
  over = λ p x h. sees_still p x (begin_call x.filter) h;
  ends = λ p q x ask acts t seen sees shows good keeps answered h none. (
    with_filter t (without_plan x),
    refl,
    subst (λ (l : List (Bool × Operation)). Sees l (with_filter t (without_plan x))) (sym answered.1) (taken p x t sees),
    subst (λ (w : Tree State (Unit {0})). Ends w unit (with_filter t (without_plan x))) (sym (scripted_tree ask x p sees)) (all_done ask.key p acts (without_plan x) t answered.0 h none),
  );
  stops = λ p q x ask acts t seen sees shows good keeps answered h failed. (
    with_filter t (without_plan x),
    refl,
    subst (λ (l : List (Bool × Operation)). Sees l (with_filter t (without_plan x))) (sym answered.1) (taken p x t sees),
    subst (λ (w : Tree State (Unit {0})). Stops w (with_filter t (without_plan x))) (sym (scripted_tree ask x p sees)) (some_cut ask.key p acts (without_plan x) t answered.0 h failed),
  );
}

-- no line that it notes is that of a fault

no_lines : (own : Key) (ops : List (Bool × Operation)) (did : List Act) → CarriesOut own ops did → faults_among did ≡ 0
unfolding CarriesOut
no_lines own [] did is = ap faults_among is
no_lines own (p ∷ ps) did (inl is) = ap faults_among is
no_lines own (p ∷ ps) did (inr is) =
    let rest : faults_among is.1 ≡ 0 = no_lines own ps is.1 is.3 in
    let all : faults_among did ≡ 0 + faults_among is.1 = ap faults_among is.2 in
    omega (arith, rest, all)

none_faulted : (own : Key) (ops : List (Bool × Operation)) (did : List Act) → CarriesOut own ops did → AsksFailed (faults_among did) no_remote no_remote
none_faulted own ops did is = subst (λ (n : ℕ). AsksFailed n no_remote no_remote) (sym (no_lines own ops did is)) (failed_none no_remote)

pub scripts_act : IsActor Answers scripts
scripts_act = record {
  plays = scripted_plays;
  sees_on = sees_still;
  acting = λ plan t h. record { mode = h.mode; power = h.power; stray = ap (λ (r : Running). r.stray) h.running; stands = h.planned };
  stands_on = λ plan s t beside h. beside.plan ∙ h;
  stands_held = λ plan s h. record {};
  asked = λ plan s h. record {};
  holds_on = λ plan s t link tokens h. record {};
  faulted = λ plan left seen call did answered. none_faulted call.ask.key plan did answered.0;
}
