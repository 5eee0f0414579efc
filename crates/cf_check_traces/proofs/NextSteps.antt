-- What is not accepted: one step from an accepted state tells.
use Rattle.std.proofs.Common.{◌≡◌, ◌<◌, ℕ, suc, true, List, [], ◌∷◌, ◌++◌, length, map, sym, ◌∙◌, ap, subst, inl, inr, append_assoc}
use Rattle.std.specs.List.{flat_map}
use Rattle.std.proofs.lemmas.Grind.{flat_map-append}
use Rattle.cf_base.specs.declared.answers.Answer.{Answer}
use Rattle.cf_base.specs.declared.events.DeviceEvent.TheVariants as device
use Rattle.cf_base.specs.declared.events.Event.{Event}
use Rattle.cf_base.specs.declared.events.Event.TheVariants as event
use Rattle.cf_base.specs.declared.notices.Frame.TheVariants as frame
use Rattle.cf_base.specs.declared.notices.Notice.{Notice}
use Rattle.cf_base.specs.declared.notices.Notice.TheVariants as notice
use Rattle.cf_base.specs.declared.policies.Mode.TheVariants as mode
use Rattle.cf_model.specs.Lawful.{IsStep}
use Rattle.cf_model.specs.Numbers.{most}
use Rattle.cf_model.specs.State.{State}
use Rattle.cf_report.specs.Texts.{notice_line, result_line, text, texts}
use Rattle.cf_check_model.specs.Judging.{Accepted, answer_of}
use Rattle.cf_check_model.specs.Reports.{Begins}
use Rattle.cf_check_model.proofs.Fronts.{texts_join}
use Rattle.cf_check_text.proofs.Clashes.{cancel}
use Rattle.cf_check_ways.specs.Ways.{Alike, of_state, AnswersAlike, Parted, is_good}
use Rattle.cf_check_ways.proofs.StepsSure.{steps_alike}
use Rattle.cf_check_traces.specs.Decided.{IsStopped, MeetsFaults, MeetsResult, NoneStopped}
use Rattle.cf_check_traces.proofs.Accepting.{good_after}
use Rattle.cf_check_traces.proofs.SameRuns.{Front, front_of, none_before, none_last, same_runs, steady}

pub begins_less : (rest front more : List ℕ) → Begins rest (front ++ more) → Begins rest front
begins_less rest front more b = (more ++ b.0, b.1 ∙ append_assoc front more b.0)

line_first : (before : List Notice) (n : Notice) (after : List Notice) (more : List ℕ) → flat_map notice_line (before ++ n ∷ after) ++ more ≡ (flat_map notice_line before ++ notice_line n) ++ (flat_map notice_line after ++ more)
line_first before n after more =
    ap (λ (xs : List ℕ). xs ++ more) (flat_map-append notice_line before (n ∷ after) ∙ sym (append_assoc (flat_map notice_line before) (notice_line n) (flat_map notice_line after)))
    ∙ append_assoc (flat_map notice_line before ++ notice_line n) (flat_map notice_line after) more

-- a text with these notices begins with their lines
begins_line : (b : Answer) (rest : List ℕ) (before : List Notice) (n : Notice) (after : List Notice) → b.notes ≡ before ++ n ∷ after → Begins rest (text b) → Begins rest (flat_map notice_line before ++ notice_line n)
begins_line b rest before n after is h =
    begins_less rest (flat_map notice_line before ++ notice_line n) (flat_map notice_line after ++ result_line b.shown)
    (subst (λ (xs : List ℕ). Begins rest xs) (ap (λ (ns : List Notice). flat_map notice_line ns ++ result_line b.shown) is ∙ line_first before n after (result_line b.shown)) h)

-- what is told of faults tells the two answers apart
pub no_part : (a b : Answer) (rest : List ℕ) → MeetsFaults a rest → Begins rest (text b) → Parted a.notes b.notes → ⊥
no_part a b rest meets h (inl f) =
    meets.no_reply f.before f.after f.message f.number f.reply f.lost f.first_is
    (begins_line b rest f.before (notice.Message (record { message = f.number; frame = frame.Reply f.message f.reply; lost = f.lost })) f.others f.second_is h)
no_part a b rest meets h (inr f) =
    meets.no_fault f.before f.others f.message f.number f.reply f.lost f.second_is (begins_line b rest f.before (notice.Fault f.message) f.after f.first_is h)

no_answer : (s o : State) (e : Event) (a b : Answer) (t u : State) (rest : List ℕ) → (e ≡ event.Device device.Restart → ⊥) → MeetsFaults a rest → MeetsResult s e a rest → Alike of_state s o → IsStep mode.Replay o e b u → (Begins rest (text a) → ⊥) → Begins rest (text b) → AnswersAlike s o e a t b u → ⊥
no_answer s o e a b t u rest other meets alone alike step wrong h (inl same) = wrong (subst (λ (x : Answer). Begins rest (text x)) (sym same.0) h)
no_answer s o e a b t u rest other meets alone alike step wrong h (inr (inl apart)) = no_part a b rest meets h apart
no_answer s o e a b t u rest other meets alone alike step wrong h (inr (inr (inl x))) = alone x.0 o b u alike step x.1 h x.2
no_answer s o e a b t u rest other meets alone alike step wrong h (inr (inr (inr x))) = other x.0

-- how the report goes on after an accepted front
pub goes_on : (report rest : List ℕ) (trace front : List (Event × Answer)) (p : Event × Answer) → report ≡ texts (map answer_of trace) ++ rest → trace ≡ front → Begins report (texts (map answer_of (front ++ p ∷ []))) → Begins rest (text p.1)
goes_on report rest trace front p is same b =
    begins_less rest (text p.1) [] (
      b.0,
      cancel (texts (map answer_of trace)) rest ((text p.1 ++ []) ++ b.0)
          (sym is ∙ b.1 ∙ ap (λ (xs : List ℕ). xs ++ b.0) (texts_join front (p ∷ []) ∙ ap (λ (fs : List (Event × Answer)). texts (map answer_of fs) ++ (text p.1 ++ [])) (sym same))
          ∙ append_assoc (texts (map answer_of trace)) (text p.1 ++ []) b.0),
    )

-- From one accepted state one step tells that with the next event nothing is accepted: its answer, which meets the faults that the
-- report tells, is not how the report goes on.
pub not_accepted : (events : List Event) (report rest : List ℕ) (clusters n : ℕ) → length report < most
    → (trace : List (Event × Answer)) (s : State) → Accepted events report clusters n trace s → NoneStopped trace → report ≡ texts (map answer_of trace) ++ rest
    → (e : Event) (a : Answer) (t : State) → IsStep mode.Replay s e a t → is_good t ≡ true → (IsStopped a → ⊥) → (e ≡ event.Device device.Restart → ⊥) → MeetsFaults a rest → MeetsResult s e a rest → (Begins rest (text a) → ⊥)
    → (front : List (Event × Answer)) (b : Answer) (u : State) → length front ≡ n → NoneStopped (front ++ (e, b) ∷ []) → Accepted events report clusters (suc n) (front ++ (e, b) ∷ []) u → ⊥
not_accepted events report rest clusters n short trace s acc none is e a t step good runs other meets alone wrong front b u long none_too acc_too =
    let f : Front events report clusters n front (e, b) u = front_of events report clusters n front (e, b) u long acc_too in
    let same = same_runs events report clusters short n trace front s f.mid acc f.accepted none (none_before front (e, b) none_too) in
    no_answer s f.mid e a b t u rest other meets alone same.1 f.step wrong (goes_on report rest trace front (e, b) is same.0 acc_too.front)
    (steps_alike mode.Replay s f.mid e a b t u same.1 (steady events report clusters short trace s acc.lawful none).opens (steady events report clusters short trace s acc.lawful none).points
    (steady events report clusters short front f.mid f.runs (none_before front (e, b) none_too)).points step f.step good
    (good_after most report clusters (front ++ (e, b) ∷ []) u acc_too.lawful none_too acc_too.kept acc_too.front short) runs (none_last front (e, b) none_too))
