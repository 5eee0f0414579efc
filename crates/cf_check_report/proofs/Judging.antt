-- What is said of the report at an event.
use Rattle.std.proofs.Common.{◌≡◌, ◌<◌, ◌+◌, ◌-◌, ◌^◌, ℕ, suc, Bool, true, false, List, [], ◌∷◌, ◌++◌, length, refl, sym, ◌∙◌, ap, subst, arith, length-drop, take, take_all}
use Rattle.std.specs.Prelude.{Err, Ok, Option, Result, drop, get_or, not}
use Rattle.cf_base.specs.declared.answers.Answer.{Answer}
use Rattle.cf_base.specs.declared.events.Event.{Event}
use Rattle.cf_base.specs.declared.memory.OutOfMemory.{OutOfMemory as NoMemory}
use Rattle.cf_base.specs.declared.policies.Mode.TheVariants as mode
use Rattle.cf_check_compare.proofs.Alls.{rest_is}
use Rattle.cf_check_compare.specs.Passed.{IsComparison, is_passed}
use Rattle.cf_check_compare.specs.declared.comparisons.Comparison.TheVariants.{Differs, GoesOn, Lost}
use Rattle.cf_check_compare.specs.declared.comparisons.Comparison.{Comparison}
use Rattle.cf_check_judge.proofs.Following.{at_start, at_the_end, foreign_is, goes_next, line_not, open_is, wrong_is}
use Rattle.cf_check_judge.specs.Judge.{at_end, first_result, is_line}
use Rattle.cf_check_model.specs.Judging.{IsVerdict}
use Rattle.cf_check_model.specs.Reports.{device_line, result_lines}
use Rattle.cf_check_model.specs.declared.verdicts.Verdict.TheVariants.{Unlawful, Undecided}
use Rattle.cf_check_traces.specs.Followed.{IsNext}
use Rattle.cf_check_report.proofs.Aiming.{aim_goes_on, aimed_counts}
use Rattle.cf_check_report.proofs.Answering.{next_of, runs_on}
use Rattle.cf_check_report.specs.Following.{Follows, IsTaken, JudgedTo, judged_by}
use Rattle.cf_check_report.specs.Playing.{PlayedTo, Plays, ResumesNewest, aim_after}
use Rattle.cf_check_report.specs.Restarts.{next_aim, next_count}
use Rattle.cf_volume_room.specs.Aims.{IsAimedBy}
use Rattle.cf_check_report.specs.declared.judgements.Judge.{Judge}
use Rattle.cf_check_report.specs.declared.judgements.Judged.{Judged}
use Rattle.cf_check_report.specs.declared.judgements.Judged.TheVariants as judged
use Rattle.cf_model.specs.Events.{is_of}
use Rattle.cf_model.specs.Numbers.{most}
use Rattle.cf_model.specs.State.{State, start}
use Rattle.cf_model.specs.Store.{empty_remote}
use Rattle.cf_model.specs.Words.{is_empty}
use Rattle.cf_report.specs.Texts.{text}

module _ {D : Type 0} (Stands : D → Option ℕ → State → Type 0) (events : List Event) (report : List ℕ) (clusters done : ℕ) (e : Event) (es : List Event) (rest : List ℕ) (short : length report < 2 ^ 31) where
  few : length report < most
  few = omega (arith, short)

  -- before its answer is known

  pub opens : (j : Judge D) → Follows Stands events report clusters done (e ∷ es) rest j → is_line device_line (first_result rest) ≡ true → IsVerdict events report clusters (Undecided (suc done))
  opens j h line = open_is events report clusters few done e es h.trace h.state rest h.at line

  pub is_wrong : (j : Judge D) → Follows Stands events report clusters done (e ∷ es) rest j → is_line device_line (first_result rest) ≡ false → not (is_of mode.Replay e) ≡ true → IsVerdict events report clusters (Unlawful (suc done))
  is_wrong j h line foreign = foreign_is events report clusters few done e es h.trace h.state rest h.at line (by (is_of mode.Replay e) foreign)
    where
      by : (b : Bool) → not b ≡ true → b ≡ false
      by true k = let z : false ≡ true = k in absurd cc
      by false k = refl

  -- by its answer

  module _ (aimed : (d : D) (aim : Option ℕ) (s : State) → Stands d aim s → IsAimedBy aim s.filter.volume) (a : Answer) (old new : Judge D) (line : is_line device_line (first_result rest) ≡ false)
      (plays : Plays Stands e (next_aim e es (result_lines rest)) old.device (Ok a) new.device) (h : Follows Stands events report clusters done (e ∷ es) rest old) where
    abbrev aim : Option ℕ
    aim = next_count (e ∷ es) (result_lines rest)

    abbrev played : PlayedTo Stands e (next_aim e es (result_lines rest)) aim h.state (Ok a) new.device
    played = plays.leads aim h.state h.stands

    abbrev t : State
    t = played.0

    -- an answer that passes is not that of a device that failed
    well : is_passed e a rest ≡ true → Stands new.device (aim_after e a aim (next_aim e es (result_lines rest))) t × ResumesNewest e a h.state.filter.volume.points
    well passed = played.3 (runs_on e a rest passed)

    next : is_passed e a rest ≡ true → length (text a) < 2 ^ 31 → IsNext events report clusters done h.state e a t rest
    next passed small =
        next_of events report clusters short done e es h.trace h.state rest h.at line a t played.1 played.2 passed small
        (aimed_counts events report clusters few done e es h.trace h.state rest h.at (aimed old.device aim h.state h.stands) a (well passed).1)

    goes_on : (n : ℕ) → IsComparison e a rest (GoesOn n) → Follows Stands events report clusters (suc done) es (drop n rest) new
    goes_on n (passed, (meets, long, small, so)) =
        subst (λ (k : ℕ). Follows Stands events report clusters (suc done) es (drop k rest) new) (sym long)
        (record {
          trace = h.trace ++ (e, a) ∷ [];
          state = t;
          at = goes_next events report clusters few done e es h.trace h.state rest h.at (line_not device_line (first_result rest) line) a t (next passed (omega (arith, long, small))) so;
          stands = subst (λ (o : Option ℕ). Stands new.device o t) (aim_goes_on e es a rest (next passed (omega (arith, long, small))).clean so) (well passed).0;
        })

    by_comparison : (c : Comparison) (j : Judged) → IsComparison e a rest c → judged_by c ≡ Ok j → JudgedTo Stands events report clusters done es rest (Ok j) new
    by_comparison (GoesOn n) (judged.GoesOn m) is told = let same : n ≡ m = cc in subst (λ (k : ℕ). Follows Stands events report clusters (suc done) es (drop k rest) new) same (goes_on n is)
    by_comparison Differs judged.Wrong (passed, (meets, small, differs)) told = wrong_is events report clusters few done e es h.trace h.state rest h.at line a t (next passed small) differs
    by_comparison (GoesOn n) judged.Wrong is told = absurd cc
    by_comparison (GoesOn n) judged.Open is told = absurd cc
    by_comparison Differs (judged.GoesOn m) is told = absurd cc
    by_comparison Differs judged.Open is told = absurd cc
    by_comparison Lost j is told = absurd cc

-- it is followed from the start of the report on
pub followed : {D : Type 0} (Stands : D → Option ℕ → State → Type 0) (events : List Event) (report : List ℕ) (clusters : ℕ) (j : Judge D) → length report < 2 ^ 31 → Stands j.device (next_count events (result_lines report)) (start mode.Replay empty_remote clusters)
    → Follows Stands events report clusters 0 events report j
followed Stands events report clusters j short stands = record { trace = []; state = start mode.Replay empty_remote clusters; at = at_start events report clusters (omega (arith, short)); stands = stands }

-- and at its end
pub ended : {D : Type 0} (Stands : D → Option ℕ → State → Type 0) (events : List Event) (report : List ℕ) (clusters done : ℕ) (rest : List ℕ) (j : Judge D) → length report < 2 ^ 31 → Follows Stands events report clusters done [] rest j → IsVerdict events report clusters (at_end (is_empty rest) done)
ended Stands events report clusters done rest j short h = at_the_end events report clusters (omega (arith, short)) done h.trace h.state rest h.at (is_empty rest) refl

-- in code

pub by_result : {D : Type 0} (Stands : D → Option ℕ → State → Type 0) (aimed : (d : D) (aim : Option ℕ) (s : State) → Stands d aim s → IsAimedBy aim s.filter.volume) (events : List Event) (report : List ℕ) (clusters done : ℕ) (e : Event) (es : List Event) (rest : List ℕ) (a : Answer) (old new : Judge D) (next : Option ℕ) (r : Result Judged NoMemory) → length report < 2 ^ 31
    → is_of mode.Replay e ≡ true → is_line device_line (first_result rest) ≡ false → next ≡ next_aim e es (result_lines rest) → Plays Stands e next old.device (Ok a) new.device → IsTaken e a rest r → Follows Stands events report clusters done (e ∷ es) rest old → JudgedTo Stands events report clusters done es rest r new
by_result Stands aimed events report clusters done e es rest a old new next (Ok j) short known line next_is plays (c, is, told) h =
    by_comparison Stands events report clusters done e es rest short aimed a old new line (subst (λ (o : Option ℕ). Plays Stands e o old.device (Ok a) new.device) next_is plays) h c j is told
by_result Stands aimed events report clusters done e es rest a old new next (Err m) short known line next_is plays is h = record {}

-- in the loop

pub behind_is : (all : List Event) (i : ℕ) → take (length all - (i + 1)) (drop (i + 1) all) ≡ drop (i + 1) all
behind_is all i = let e : length (drop (i + 1) all) ≡ length all - (i + 1) = length-drop (i + 1) all in take_all (length all - (i + 1)) (drop (i + 1) all) (omega (arith, e))

-- the events that are left are this one and those behind it
pub left_is : (all : List Event) (i : ℕ) (e : Event) (behind : List Event) → e ≡ get_or all i e → i < length all → behind ≡ drop (i + 1) all → drop i all ≡ e ∷ behind
left_is all i e behind item lt is = rest_is all i e item lt ∙ ap (λ (es : List Event). e ∷ es) (sym is)

pub judged_wrong : {D : Type 0} (Stands : D → Option ℕ → State → Type 0) (events : List Event) (report : List ℕ) (clusters done n : ℕ) (es : List Event) (rest : List ℕ) (new : Judge D) (r : Result Judged NoMemory) (j : Judged) → r ≡ Ok j → j ≡ judged.Wrong → n ≡ done → JudgedTo Stands events report clusters done es rest r new → IsVerdict events report clusters (Unlawful (n + 1))
judged_wrong Stands events report clusters done n es rest new r j is wrong at h =
    subst (λ (k : ℕ). IsVerdict events report clusters (Unlawful k)) (let e : suc done ≡ n + 1 = omega (arith, at) in e) (subst (λ (x : Result Judged NoMemory). JudgedTo Stands events report clusters done es rest x new) (is ∙ ap (λ (x : Judged). Ok x) wrong) h)

pub judged_open : {D : Type 0} (Stands : D → Option ℕ → State → Type 0) (events : List Event) (report : List ℕ) (clusters done n : ℕ) (es : List Event) (rest : List ℕ) (new : Judge D) (r : Result Judged NoMemory) (j : Judged) → r ≡ Ok j → j ≡ judged.Open → n ≡ done → JudgedTo Stands events report clusters done es rest r new → IsVerdict events report clusters (Undecided (n + 1))
judged_open Stands events report clusters done n es rest new r j is told at h =
    subst (λ (k : ℕ). IsVerdict events report clusters (Undecided k)) (let e : suc done ≡ n + 1 = omega (arith, at) in e) (subst (λ (x : Result Judged NoMemory). JudgedTo Stands events report clusters done es rest x new) (is ∙ ap (λ (x : Judged). Ok x) told) h)

pub judged_on : {D : Type 0} (Stands : D → Option ℕ → State → Type 0) (events : List Event) (report : List ℕ) (clusters done len : ℕ) (es : List Event) (rest after : List ℕ) (new : Judge D) (r : Result Judged NoMemory) (j : Judged) → r ≡ Ok j → j ≡ judged.GoesOn len → after ≡ drop len rest → JudgedTo Stands events report clusters done es rest r new → Follows Stands events report clusters (done + 1) es after new
judged_on Stands events report clusters done len es rest after new r j is on from h =
    subst (λ (k : ℕ). Follows Stands events report clusters k es after new) (let e : suc done ≡ done + 1 = omega arith in e)
    (subst (λ (xs : List ℕ). Follows Stands events report clusters (suc done) es xs new) (sym from) (subst (λ (x : Result Judged NoMemory). JudgedTo Stands events report clusters done es rest x new) (is ∙ ap (λ (x : Judged). Ok x) on) h))
