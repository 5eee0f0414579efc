-- Runs that one report accepts are alike.
use Rattle.std.proofs.Common.{◌≡◌, ◌≤◌, ◌<◌, ◌+◌, ◌&&◌, ℕ, zero, suc, Bool, true, nat_lt, List, [], ◌∷◌, ◌++◌, length, map, refl, ◌∙◌, ap, arith, length-append}
use Rattle.std.proofs.lemmas.Bool.{lt-ltb}
use Rattle.cf_base.specs.declared.answers.Answer.{Answer}
use Rattle.cf_base.specs.declared.events.Event.{Event}
use Rattle.cf_base.specs.declared.policies.Mode.TheVariants as mode
use Rattle.cf_model.specs.Lawful.{Runs}
use Rattle.cf_model.specs.State.{State, start}
use Rattle.cf_model.specs.Store.{empty_remote}
use Rattle.cf_report.specs.Texts.{text, texts}
use Rattle.cf_check_model.specs.Judging.{answer_of}
use Rattle.cf_check_model.specs.Reports.{Begins}
use Rattle.cf_check_text.proofs.Lines.{notices_fit}
use Rattle.cf_check_ways.proofs.StepsSure.{step_afresh, step_count}
use Rattle.cf_check_traces.specs.Decided.{NoneStopped}

-- what a run has that no failed device cut off

pub afresh : (s : State) (trace : List (Event × Answer)) (t : State) → Runs mode.Replay s trace t → NoneStopped trace → s.failed_opens ≡ 0 → t.failed_opens ≡ 0
afresh s [] t h none e = ap (λ (x : State). x.failed_opens) h ∙ e
afresh s (p ∷ ps) t h none e = afresh h.0 ps t h.2 none.1 (step_afresh mode.Replay s p.0 p.1 h.0 h.1 none.0 e)

-- there are no more messages than bytes of the report
pub few_messages : (s : State) (trace : List (Event × Answer)) (t : State) → Runs mode.Replay s trace t → NoneStopped trace → length t.link.messages ≤ length s.link.messages + length (texts (map answer_of trace))
few_messages s [] t h none = let e : length t.link.messages ≡ length s.link.messages = ap (λ (x : State). length x.link.messages) h in omega (arith, e)
few_messages s (p ∷ ps) t h none =
    let one : length h.0.link.messages ≤ length s.link.messages + length p.1.notes = step_count mode.Replay s p.0 p.1 h.0 h.1 none.0 in
    let bytes : length p.1.notes ≤ length (text p.1) = notices_fit p.1 in
    let rest : length t.link.messages ≤ length h.0.link.messages + length (texts (map answer_of ps)) = few_messages h.0 ps t h.2 none.1 in
    let all : length (text p.1 ++ texts (map answer_of ps)) ≡ length (text p.1) + length (texts (map answer_of ps)) = length-append (text p.1) (texts (map answer_of ps)) in
    omega (arith, one, bytes, rest, all)

pub numbered : (honest : Bool) (n limit : ℕ) → honest ≡ true → n < limit → (honest && nat_lt n limit) ≡ true
numbered honest n limit e lt = rw e (lt-ltb n limit lt)

-- in an accepted run there are numbers of messages left
pub good_after : (limit : ℕ) (report : List ℕ) (clusters : ℕ) (trace : List (Event × Answer)) (t : State) → Runs mode.Replay (start mode.Replay empty_remote clusters) trace t → NoneStopped trace
    → t.link.honest ≡ true → Begins report (texts (map answer_of trace)) → length report < limit → (t.link.honest && nat_lt (length t.link.messages) limit) ≡ true
good_after limit report clusters trace t h none kept front short =
    let few : length t.link.messages ≤ 0 + length (texts (map answer_of trace)) = few_messages (start mode.Replay empty_remote clusters) trace t h none in
    let fits : length report ≡ length (texts (map answer_of trace)) + length front.0 = ap (λ (xs : List ℕ). length xs) front.1 ∙ length-append (texts (map answer_of trace)) front.0 in
    let lt : length t.link.messages < limit = omega (arith, few, fits, short) in
    numbered t.link.honest (length t.link.messages) limit kept lt

-- the last event of a trace of one event more

pub record LastOf (trace : List (Event × Answer)) (n : ℕ) : Type 0 where
  pub front : List (Event × Answer)
  pub last : Event × Answer
  pub is : trace ≡ front ++ last ∷ []
  pub long : length front ≡ n

pub last_of : (trace : List (Event × Answer)) (n : ℕ) → length trace ≡ suc n → LastOf trace n
last_of [] n e = let z : 0 ≡ suc n = e in absurd cc
last_of (p ∷ []) zero e = record { front = []; last = p; is = refl; long = refl }
last_of (p ∷ []) (suc n) e = let z : 1 ≡ suc (suc n) = e in absurd (omega (arith, z))
last_of (p ∷ q ∷ ps) zero e = let z : suc (suc (length ps)) ≡ 1 = e in absurd (omega (arith, z))
last_of (p ∷ q ∷ ps) (suc n) e = let l = last_of (q ∷ ps) n (let z : suc (length (q ∷ ps)) ≡ suc (suc n) = e in omega (arith, z)) in record { front = p ∷ l.front; last = l.last; is = ap (λ (xs : List (Event × Answer)). p ∷ xs) l.is; long = ap (λ (k : ℕ). suc k) l.long }
