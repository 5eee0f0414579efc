-- What the text of an answer decides.
use Rattle.std.proofs.Common.{◌≡◌, ◌⊎◌, ℕ, true, false, List, [], ◌∷◌, ◌++◌, refl, sym, ◌∙◌, ap, subst, inl, inr}
use Rattle.std.specs.List.{flat_map}
use Rattle.cf_base.specs.declared.answers.Answer.{Answer}
use Rattle.cf_base.specs.declared.answers.Shown.{Shown}
use Rattle.cf_base.specs.declared.answers.Shown.TheVariants as shown
use Rattle.cf_base.specs.declared.codes.Code.{Code}
use Rattle.cf_base.specs.declared.codes.Code.TheVariants as code
use Rattle.cf_base.specs.declared.events.Event.{Event}
use Rattle.cf_base.specs.declared.notices.Frame.TheVariants as frame
use Rattle.cf_base.specs.declared.notices.Notice.{Notice}
use Rattle.cf_base.specs.declared.notices.Notice.TheVariants as notice
use Rattle.cf_base.specs.declared.policies.Mode.{Mode}
use Rattle.cf_model.specs.Books.{opened_of}
use Rattle.cf_model.specs.Events.{answer_in, begun}
use Rattle.cf_model.specs.Lawful.{IsStep}
use Rattle.cf_model.specs.State.{State}
use Rattle.cf_report.specs.Texts.{notice_line, result_line, text}
use Rattle.cf_check_text.specs.Fronts.{Meet, is_remote_fault}
use Rattle.cf_check_text.proofs.Clashes.{meet_after, parted_no_meet}
use Rattle.cf_check_text.proofs.Lines.{one_count}
use Rattle.cf_check_text.proofs.Refusals.{fault_or_answer, fault_or_refusal}
use Rattle.cf_check_ways.specs.Ways.{Alike, AnswersAlike, BothResumed, FailedIn, OneFailed, Parted, is_fault, is_fault_code, is_good, is_of_peer, of_state}
use Rattle.cf_check_ways.proofs.StepsSure.{steps_alike}
use Rattle.cf_check_traces.specs.Decided.{IsDecided, IsSteady, IsStopped}

turned : (xs ys : List ℕ) → Meet xs ys → Meet ys xs
turned xs ys m = (m.0, m.2, m.1)

-- one report does not begin with both answers where they part

failed_no_meet : (a b : Answer) → FailedIn a.notes b.notes → Meet (text a) (text b) → ⊥
failed_no_meet a b f m =
    parted_no_meet f.before f.message (record { message = f.number; frame = frame.Reply f.message f.reply; lost = f.lost }) f.after f.others (result_line a.shown) (result_line b.shown)
    (subst (λ (ns : List Notice). Meet (flat_map notice_line ns ++ result_line a.shown) (flat_map notice_line (f.before ++ notice.Message (record { message = f.number; frame = frame.Reply f.message f.reply; lost = f.lost }) ∷ f.others) ++ result_line b.shown)) f.first_is
    (subst (λ (ns : List Notice). Meet (text a) (flat_map notice_line ns ++ result_line b.shown)) f.second_is m))

pub parted_texts : (a b : Answer) → Parted a.notes b.notes → Meet (text a) (text b) → ⊥
parted_texts a b (inl f) m = failed_no_meet a b f m
parted_texts a b (inr f) m = failed_no_meet b a f (turned (text a) (text b) m)

results_meet : (a b : Answer) → a.notes ≡ b.notes → Meet (text a) (text b) → Meet (result_line a.shown) (result_line b.shown)
results_meet a b same m = meet_after (flat_map notice_line a.notes) (result_line a.shown) (result_line b.shown) (subst (λ (ns : List Notice). Meet (text a) (flat_map notice_line ns ++ result_line b.shown)) (sym same) m)

same_code : (c : Code) → is_fault_code c ≡ is_remote_fault c
same_code code.RemoteFault = refl
same_code _ = refl

pub the_fault : (a : Shown) → is_fault a ≡ true → a ≡ shown.Refused code.RemoteFault
the_fault (shown.Refused code.RemoteFault) h = refl
the_fault _ h = let z : false ≡ true = h in absurd cc

pub fault_alone : (b : Shown) → is_of_peer b ≡ true → is_fault b ≡ false → Meet (result_line (shown.Refused code.RemoteFault)) (result_line b) → ⊥
fault_alone (shown.Refused c) of other m = fault_or_refusal c (sym (same_code c) ∙ other) m
fault_alone (shown.Remote rid version) of other m = fault_or_answer rid version m
fault_alone _ of other m = let z : false ≡ true = of in absurd cc

one_fault : (a b : Shown) → is_fault a ≡ true → is_of_peer b ≡ true → is_fault b ≡ false → Meet (result_line a) (result_line b) → ⊥
one_fault a b fault of other m = fault_alone b of other (subst (λ (x : Shown). Meet (result_line x) (result_line b)) (the_fault a fault) m)

one_failed_texts : (a b : Answer) → a.notes ≡ b.notes → OneFailed a.shown b.shown → Meet (text a) (text b) → ⊥
one_failed_texts a b same one m = by one.2 (results_meet a b same m)
  where
    by : ((is_fault a.shown ≡ true) × (is_fault b.shown ≡ false)) ⊎ ((is_fault b.shown ≡ true) × (is_fault a.shown ≡ false)) → Meet (result_line a.shown) (result_line b.shown) → ⊥
    by (inl x) k = one_fault a.shown b.shown x.0 one.1 x.1 k
    by (inr x) k = one_fault b.shown a.shown x.0 one.0 x.1 (turned (result_line a.shown) (result_line b.shown) k)

pub resumed_texts : (s o : State) (a b : Answer) (t u : State) → a ≡ answer_in a.shown t → b ≡ answer_in b.shown u → (r : BothResumed (begun s) (begun o) a.shown b.shown t u) → Meet (text a) (text b) → r.point.count ≡ r.other.count
resumed_texts s o a b t u told told_too r m =
    let none : a.notes ≡ [] = ap (λ (x : Answer). x.notes) told ∙ ap (λ (x : State). x.filter.notes) r.left in
    let none_too : b.notes ≡ [] = ap (λ (x : Answer). x.notes) told_too ∙ ap (λ (x : State). x.filter.notes) r.left_too in
    one_count r.point.count r.other.count (opened_of r.point.book) (opened_of r.other.book)
    (subst (λ (x : Shown). Meet (result_line x) (result_line (shown.Resumed r.other.count (opened_of r.other.book)))) r.resumes
    (subst (λ (x : Shown). Meet (result_line a.shown) (result_line x)) r.resumes_too (results_meet a b (none ∙ sym none_too) m)))

-- what two answers are with which one report goes on
pub decided : (s o : State) (e : Event) (a b : Answer) (t u : State) → AnswersAlike s o e a t b u → Meet (text a) (text b) → IsDecided s o e a t b u
decided s o e a b t u (inl same) m = inl same
decided s o e a b t u (inr (inl apart)) m = absurd (parted_texts a b apart m)
decided s o e a b t u (inr (inr (inl x))) m = absurd (one_failed_texts a b x.1 x.2 m)
decided s o e a b t u (inr (inr (inr x))) m = inr (x.0, x.1, x.2, (x.3, resumed_texts s o a b t u x.1 x.2 x.3 m))

pub step_decided : (m : Mode) (s o : State) (e : Event) (a b : Answer) (t u : State) → Alike of_state s o → IsSteady s → IsSteady o → IsStep m s e a t → IsStep m o e b u
    → is_good t ≡ true → is_good u ≡ true → (IsStopped a → ⊥) → (IsStopped b → ⊥) → Meet (text a) (text b) → IsDecided s o e a t b u
step_decided m s o e a b t u alike steady steady_too h k good well runs runs_too meet =
    decided s o e a b t u (steps_alike m s o e a b t u alike steady.opens steady.points steady_too.points h k good well runs runs_too) meet
