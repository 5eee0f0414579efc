-- No part of a filter reports a fault of the remote, and acts of a provider report those of their notes.
use Rattle.std.proofs.Common.{◌≡◌, ◌+◌, ℕ, Bool, true, false, List, [], ◌∷◌, ◌++◌, map, refl, ap, ◌∙◌, arith, if◌then◌else◌}
use Rattle.cf_base.specs.declared.answers.Shown.{Shown}
use Rattle.cf_base.specs.declared.answers.Shown.TheVariants as shown
use Rattle.cf_base.specs.declared.ids.ItemId.{ItemId}
use Rattle.cf_base.specs.declared.ids.WaitId.{WaitId}
use Rattle.cf_base.specs.declared.items.SeenPath.{SeenPath}
use Rattle.cf_base.specs.declared.notices.Notice.{Notice}
use Rattle.cf_base.specs.declared.operations.Operation.{Operation}
use Rattle.cf_base.specs.declared.waits.Cause.{Cause}
use Rattle.cf_base.specs.declared.waits.Cause.TheVariants as cause
use Rattle.cf_base.specs.declared.waits.End.{End}
use Rattle.cf_engine_provider.specs.Agencies.{faults_among}
use Rattle.cf_engine_steps.specs.Faults.{fault_lines}
use Rattle.cf_engine_steps.proofs.Lifting.{quiet_notes, quiet_volume}
use Rattle.cf_link.specs.Faults.{fault_of, faults_in}
use Rattle.cf_link.proofs.FaultCounts.{faults_both}
use Rattle.cf_model.specs.Arrows.{Preserves, each, noted, ret, then_do}
use Rattle.cf_model.specs.Changes.{apply, tell_change}
use Rattle.cf_model.specs.Missing.{Wait}
use Rattle.cf_model.specs.Operations.{execute_with}
use Rattle.cf_model.specs.Points.{commit}
use Rattle.cf_model.specs.Ports.{Act, Acts, Did, Failed, Noted, noted_by, seeing}
use Rattle.cf_model.specs.Requests.{Told, Waiting}
use Rattle.cf_model.specs.Settling.{accessed, ask_line, cancel_line, end_of, end_wait, is_access, is_own, tell, tell_end, told_at, with_asks_told, with_ended, with_waiting}
use Rattle.cf_model.specs.State.{Filter, in_volume, with_notes}
use Rattle.cf_model.specs.Trees.{Ends, Stops}
use Rattle.cf_model.specs.Waits.{Need, all_down, background_line, begin_now, begin_with, begun, beside, own_id, with_own}
use Rattle.cf_model.proofs.ArrowLaws.{keeps_each, keeps_noted, keeps_one, keeps_reading, keeps_ret, keeps_seq, keeps_then}
use Rattle.cf_model.proofs.Closed.{ClosedFilter}
use Rattle.cf_model.proofs.OperationsKeep.{execute_with_keeps}
use Rattle.cf_model.proofs.TreeLaws.{kept_at_end, kept_at_stop}

-- as many such lines as before

abbrev Same : ℕ → Filter → Type 0
Same n s = fault_lines s ≡ n

more_lines : (n : ℕ) (ns ms : List Notice) → faults_in ms ≡ 0 → faults_in ns ≡ n → faults_in (ns ++ ms) ≡ n
more_lines n ns ms none h = let m : faults_in (ns ++ ms) ≡ faults_in ns + faults_in ms = faults_both ns ms in omega (arith, m, none, h)

no_faults : {A : Type 0} (f : A → Notice) (xs : List A) → ((x : A) → fault_of (f x) ≡ 0) → faults_in (map f xs) ≡ 0
no_faults f [] h = refl
no_faults f (x ∷ xs) h = let rest : faults_in (map f xs) ≡ 0 = no_faults f xs h in let first : fault_of (f x) ≡ 0 = h x in omega (arith, rest, first)

quiet_end : (n : ℕ) (id : WaitId) (e : End) (own : Bool) (s : Filter) → Same n s → Same n (tell_end id e own s)
quiet_end n id e true s h = h
quiet_end n id e false s h = quiet_notes n _ s refl h

quiet_access : (n : ℕ) (item : ItemId) (is : Bool) (s : Filter) → Same n s → Same n (if is then accessed item s else s)
quiet_access n item true s h = h
quiet_access n item false s h = h

quiet_ended : (n : ℕ) (e : Wait × Cause) (s : Filter) → Same n s → Same n (with_ended e s)
quiet_ended n e s h =
    quiet_access n e.0.item (is_access e.0.kind e.1) (tell_end e.0.id (end_of s.volume.items e.0 e.1) (is_own e.0.id s) s)
    (quiet_end n e.0.id (end_of s.volume.items e.0 e.1) (is_own e.0.id s) s h)

quiet_asks : (n : ℕ) (t : Told) (s : Filter) → Same n s → Same n (with_asks_told t s)
quiet_asks n t s h =
    more_lines n (s.notes ++ map cancel_line t.cancelled) (map ask_line t.made) (no_faults ask_line t.made (λ a. refl))
    (more_lines n s.notes (map cancel_line t.cancelled) (no_faults cancel_line t.cancelled (λ k. refl)) h)

quiet_tell : (n : ℕ) (r : Told × Waiting) → Preserves (Same n) (tell r)
quiet_tell n r =
    keeps_then (Same n) (noted (with_waiting r.1)) (then_do (each end_wait r.0.ended) (noted (with_asks_told r.0))) (keeps_noted (Same n) (with_waiting r.1) (λ s h. h))
    (keeps_then (Same n) (each end_wait r.0.ended) (noted (with_asks_told r.0))
    (keeps_each (Same n) end_wait r.0.ended (λ e. keeps_one (Same n) (with_ended e) (quiet_ended n e)))
    (keeps_noted (Same n) (with_asks_told r.0) (quiet_asks n r.0)))

quiet_begin : (n : ℕ) (need : Need) (r : Told × Waiting) (id : WaitId) → Preserves (Same n) (begin_with need r id)
quiet_begin n need r id =
    keeps_then (Same n) (noted (with_own need)) (then_do (tell r) (ret (shown.Pending id)))
    (keeps_noted (Same n) (with_own need) (λ s h. more_lines n s.notes (map background_line (beside need s)) (no_faults background_line (beside need s) (λ w. refl)) h))
    (keeps_then (Same n) (tell r) (ret (shown.Pending id)) (quiet_tell n r) (keeps_ret (Same n) (shown.Pending id)))

-- whatever the filter does
pub quiet_filter : (n : ℕ) → ClosedFilter (λ s. fault_lines s ≡ n)
quiet_filter n = record {
  change = λ f c.
      keeps_seq (Same n) (in_volume (apply f c)) (tell_change c) (quiet_volume n (apply f c)) (λ u. keeps_noted (Same n) _ (λ s h. quiet_notes n _ s refl h));
  commits = quiet_volume n commit;
  settled = λ item d. keeps_reading (Same n) (told_at item d) tell (quiet_tell n);
  begins = λ need. keeps_reading (Same n) (begun need) (begin_now need) (λ r. keeps_reading (Same n) (own_id need) (begin_with need r) (quiet_begin n need r));
  downs = keeps_reading (Same n) all_down tell (quiet_tell n);
  keeps_accessed = λ item s h. h;
  keeps_accessed_now = λ need s h. quiet_access n need.item (is_access need.kind cause.Met) s h;
  keeps_as_it_is = λ s h. h;
  keeps_begin_call = λ s h. h;
  keeps_connected_again = λ s h. h;
  keeps_disconnected = λ s h. h;
  keeps_with_handle = λ item s h. h;
  keeps_with_policy = λ p s h. h;
  keeps_with_time = λ m s h. h;
  keeps_without_handle = λ handle s h. h;
}

-- what acts report

noted_lines : (acts : List Act) (s : Filter) → fault_lines (noted_by acts s) ≡ fault_lines s + faults_among acts
noted_lines [] s = omega arith
noted_lines (Did seen op answer ∷ acts) s = noted_lines acts s
noted_lines (Failed seen op ∷ acts) s = noted_lines acts s
noted_lines (Noted n ∷ acts) s =
    let rest : fault_lines (noted_by acts (with_notes (n ∷ []) s)) ≡ fault_lines (with_notes (n ∷ []) s) + faults_among acts = noted_lines acts (with_notes (n ∷ []) s) in
    let first : faults_in (s.notes ++ n ∷ []) ≡ faults_in s.notes + faults_in (n ∷ []) = faults_both s.notes (n ∷ []) in
    omega (arith, rest, first)

op_ends : (seen : List SeenPath) (op : Operation) (answer : Shown) (s mid : Filter) → Ends (execute_with (seeing seen) op s) answer mid → fault_lines mid ≡ fault_lines s
op_ends seen op answer s mid h = kept_at_end (Same (fault_lines s)) (execute_with (seeing seen) op s) answer mid ((execute_with_keeps (Same (fault_lines s)) (quiet_filter (fault_lines s)) (seeing seen) op).keeps s refl) h

op_stops : (seen : List SeenPath) (op : Operation) (s mid : Filter) → Stops (execute_with (seeing seen) op s) mid → fault_lines mid ≡ fault_lines s
op_stops seen op s mid h = kept_at_stop (Same (fault_lines s)) (execute_with (seeing seen) op s) mid ((execute_with_keeps (Same (fault_lines s)) (quiet_filter (fault_lines s)) (seeing seen) op).keeps s refl) h

pub acts_lines : (acts : List Act) (s t : Filter) → Acts s acts t → fault_lines t ≡ fault_lines s + faults_among acts
acts_lines [] s t h = let e : fault_lines t ≡ fault_lines s = ap fault_lines h in omega (arith, e)
acts_lines (Did seen op answer ∷ acts) s t h = acts_lines acts h.0 t h.2 ∙ ap (λ (n : ℕ). n + faults_among acts) (op_ends seen op answer s h.0 h.1)
acts_lines (Failed seen op ∷ acts) s t h = ap fault_lines h.2 ∙ noted_lines acts h.0 ∙ ap (λ (n : ℕ). n + faults_among acts) (op_stops seen op s h.0 h.1)
acts_lines (Noted n ∷ acts) s t h =
    let rest : fault_lines t ≡ fault_lines (with_notes (n ∷ []) s) + faults_among acts = acts_lines acts (with_notes (n ∷ []) s) t h in
    let first : faults_in (s.notes ++ n ∷ []) ≡ faults_in s.notes + faults_in (n ∷ []) = faults_both s.notes (n ∷ []) in
    omega (arith, rest, first)
