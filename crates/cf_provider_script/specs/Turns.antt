-- One callback of the scripted provider does what the definitions' provider does.
use Rattle.std.proofs.Common.{◌≡◌, Bool, List, [], ◌∷◌, inl, inr, refl, sym, ap, subst}
use Rattle.cf_base.specs.declared.answers.Shown.{Shown}
use Rattle.cf_base.specs.declared.ids.Key.{Key}
use Rattle.cf_base.specs.declared.operations.Operation.{Operation}
use Rattle.cf_base.specs.declared.policies.Mode.{Mode}
use Rattle.cf_base.specs.declared.policies.Mode.TheVariants as mode
use Rattle.cf_base.specs.declared.waits.Ask.{Ask}
use Rattle.cf_provider.specs.Sights.{Sight}
use Rattle.cf_provider.specs.declared.outcomes.Callback.{Callback}
use Rattle.cf_model.proofs.TreeLaws.{ends_mapped, ends_then, stops_first, stops_mapped, stops_then}
use Rattle.cf_model.specs.Arrows.{each, unit}
use Rattle.cf_model.specs.Callbacks.{call_back, carry_out, note_operation, planned_on, provider, scripted, with_operation_told, without_plan}
use Rattle.cf_model.specs.Operations.{execute}
use Rattle.cf_model.specs.Ports.{Act, Acts, Did, Failed, HasFailed, Noted}
use Rattle.cf_model.specs.State.{Filter, State, in_filter, with_filter}
use Rattle.cf_model.specs.Trees.{Ends, Stops}
use Rattle.cf_provider_script.specs.Lines.{Answers, CarriesOut, line_of}

-- the state once callbacks left this plan and this filter
abbrev pub turned : List (Bool × Operation) → Filter → State → State
turned plan t s = record s { filter = t; plan = plan }

-- one operation and its line

one_ends : (own : Key) (p : Bool × Operation) (answer : Shown) (s : State) (m : Filter) → Ends (execute (planned_on own p) s.filter) answer m → Ends (carry_out own p s) unit (with_operation_told answer (with_filter m s))
one_ends own p answer s m h =
    ends_then (in_filter (execute (planned_on own p)) s) note_operation answer (with_filter m s) unit (with_operation_told answer (with_filter m s))
    (ends_mapped (λ (f : Filter). with_filter f s) (execute (planned_on own p) s.filter) answer m h) (refl, refl)

one_stops : (own : Key) (p : Bool × Operation) (s : State) (m : Filter) → Stops (execute (planned_on own p) s.filter) m → Stops (carry_out own p s) (with_filter m s)
one_stops own p s m h = stops_first (in_filter (execute (planned_on own p)) s) note_operation (with_filter m s) (stops_mapped (λ (f : Filter). with_filter f s) (execute (planned_on own p) s.filter) m h)

-- the operations one after the other

each_ends : (own : Key) (ps : List (Bool × Operation)) (acts : List Act) (s : State) (t : Filter) → CarriesOut own ps acts → Acts s.filter acts t → (HasFailed acts → ⊥) → Ends (each (carry_out own) ps s) unit (with_filter t s)
unfolding CarriesOut
each_ends own [] acts s t is does fine = (refl, ap (λ (f : Filter). with_filter f s) (subst (λ (l : List Act). Acts s.filter l t) is does))
each_ends own (p ∷ ps) acts s t (inl is) does fine = absurd (fine (subst HasFailed (sym is) (record {})))
each_ends own (p ∷ ps) acts s t (inr more) does fine =
    let d : Acts s.filter (Did [] (planned_on own p) more.0 ∷ Noted (line_of more.0) ∷ more.1) t = subst (λ (l : List Act). Acts s.filter l t) more.2 does in
    let m : State = with_operation_told more.0 (with_filter d.0 s) in
    ends_then (carry_out own p s) (λ _ u. each (carry_out own) ps u) unit m unit (with_filter t s) (one_ends own p more.0 s d.0 d.1) (each_ends own ps more.1 m t more.3 d.2 (λ failed. fine (subst HasFailed (sym more.2) failed)))

each_stops : (own : Key) (ps : List (Bool × Operation)) (acts : List Act) (s : State) (t : Filter) → CarriesOut own ps acts → Acts s.filter acts t → HasFailed acts → Stops (each (carry_out own) ps s) (with_filter t s)
unfolding CarriesOut
each_stops own [] acts s t is does failed = absurd (subst HasFailed is failed)
each_stops own (p ∷ ps) acts s t (inl is) does failed =
    let d : Acts s.filter (Failed [] (planned_on own p) ∷ []) t = subst (λ (l : List Act). Acts s.filter l t) is does in
    stops_first (carry_out own p s) (λ _ u. each (carry_out own) ps u) (with_filter t s) (subst (λ (f : Filter). Stops (carry_out own p s) (with_filter f s)) (sym d.2) (one_stops own p s d.0 d.1))
each_stops own (p ∷ ps) acts s t (inr more) does failed =
    let d : Acts s.filter (Did [] (planned_on own p) more.0 ∷ Noted (line_of more.0) ∷ more.1) t = subst (λ (l : List Act). Acts s.filter l t) more.2 does in
    let m : State = with_operation_told more.0 (with_filter d.0 s) in
    stops_then (carry_out own p s) (λ _ u. each (carry_out own) ps u) unit m (with_filter t s) (one_ends own p more.0 s d.0 d.1) (each_stops own ps more.1 m t more.3 d.2 (subst HasFailed more.2 failed))

-- a callback

scripted_ends : (a : Ask) (s : State) (acts : List Act) (t : Filter) → CarriesOut a.key s.plan acts → Acts s.filter acts t → (HasFailed acts → ⊥) → Ends (scripted a s) unit (turned [] t s)
scripted_ends a s acts t h does fine = each_ends a.key s.plan acts (without_plan s) t h does fine

scripted_stops : (a : Ask) (s : State) (acts : List Act) (t : Filter) → CarriesOut a.key s.plan acts → Acts s.filter acts t → HasFailed acts → Stops (scripted a s) (turned [] t s)
scripted_stops a s acts t h does failed = each_stops a.key s.plan acts (without_plan s) t h does failed

pub callback_ends : (sight : Sight) (call : Callback) (s : State) (acts : List Act) (t : Filter) (left : List (Bool × Operation)) → s.mode ≡ mode.Filter → Answers s.plan sight call acts left → Acts s.filter acts t → (HasFailed acts → ⊥) → Ends (call_back call.ask s) unit (turned left t s)
callback_ends sight call s acts t left is h does fine =
    subst (λ (m : Mode). Ends (provider m call.ask s) unit (turned left t s)) (sym is) (subst (λ (l : List (Bool × Operation)). Ends (scripted call.ask s) unit (turned l t s)) (sym h.1) (scripted_ends call.ask s acts t h.0 does fine))

pub callback_stops : (sight : Sight) (call : Callback) (s : State) (acts : List Act) (t : Filter) (left : List (Bool × Operation)) → s.mode ≡ mode.Filter → Answers s.plan sight call acts left → Acts s.filter acts t → HasFailed acts → Stops (call_back call.ask s) (turned left t s)
callback_stops sight call s acts t left is h does failed =
    subst (λ (m : Mode). Stops (provider m call.ask s) (turned left t s)) (sym is) (subst (λ (l : List (Bool × Operation)). Stops (scripted call.ask s) (turned l t s)) (sym h.1) (scripted_stops call.ask s acts t h.0 does failed))
