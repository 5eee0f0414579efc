-- All that a user may rely on.
use Rattle.std.proofs.Common.{◌≡◌, ℕ, sym, ◌∙◌, ap, subst, inl, inr}
use Rattle.cf_base.specs.declared.answers.Answer.{Answer}
use Rattle.cf_base.specs.declared.answers.Shown.{Shown}
use Rattle.cf_base.specs.declared.answers.Shown.TheVariants as shown
use Rattle.cf_base.specs.declared.codes.Code.{Code}
use Rattle.cf_base.specs.declared.codes.Code.TheVariants as code
use Rattle.cf_base.specs.declared.events.Event.{Event}
use Rattle.cf_base.specs.declared.policies.Mode.{Mode}
use Rattle.cf_base.specs.declared.policies.Mode.TheVariants as mode
use Rattle.cf_model.specs.Lawful.{IsStep, Runs}
use Rattle.cf_model.specs.State.{State, start}
use Rattle.cf_model.specs.Store.{Held}
use Rattle.cf_model.proofs.ResumedLaws.{restart_finds}
use Rattle.cf_model_laws.specs.Openings.{restarting}
use Rattle.cf_model_laws.specs.Premises.{IsFresh}
use Rattle.cf_model_headline.specs.Headline.{FindsVolume, Headline, Premises, Promises}
use Rattle.cf_model_headline.specs.Reports.{Report}
use Rattle.cf_model_headline.proofs.AskedReads.{reads_answered}
use Rattle.cf_model_headline.proofs.DehydratedLaws.{dehydrates_exactly}
use Rattle.cf_model_headline.proofs.DoneLaws.{done_is_taken}
use Rattle.cf_model_headline.proofs.HeldLaws.{data_is_held}
use Rattle.cf_model_headline.proofs.KeptBytesLaws.{flushed_is_kept}
use Rattle.cf_model_headline.proofs.MarkedLaws.{marks_give, shown_by_mark}
use Rattle.cf_model_headline.proofs.OwnLaws.{reads_in_call}
use Rattle.cf_model_headline.proofs.ReadsAtOnceLaws.{reads_at_once}
use Rattle.cf_model_headline.proofs.ReadsLaws.{data_is_right}
use Rattle.cf_model_headline.proofs.RefusalLaws.{refusals_leave}
use Rattle.cf_model_headline.proofs.ResumedLaws.{resumes_right}
use Rattle.cf_model_headline.proofs.StaleLaws.{late_is_stale, not_done_is_taken}
use Rattle.cf_model_headline.proofs.StandingLaws.{shows_all}
use Rattle.cf_model_headline.proofs.StepCases.{IsCase, IsOver, step_case}
use Rattle.cf_model_headline.proofs.TokenLaws.{one_version_each}

finds_volume : (m : Mode) (remote : Held) (clusters : ℕ) (before : Report) (s : State) (e : Event) (a : Answer) (t : State) → Runs m (start m remote clusters) before s → IsStep m s e a t → FindsVolume e a
finds_volume m remote clusters before s e a t runs is same none = by (step_case m s restarting a t (subst (λ (x : Event). IsStep m s x a t) same is)) where
  other : (c : Code) → ◌≡◌ {A = Shown} (shown.Refused c) (shown.Refused code.NotAVolume) → c ≡ code.NotAVolume
  other c z = cc

  over : IsOver s restarting (t, a) → ⊥
  over (inl h) = restart_finds m remote clusters before s h.0 t runs h.1 (sym (ap (λ (x : Answer). x.shown) h.2) ∙ none)
  over (inr h) = let z : code.Device ≡ code.NotAVolume = other code.Device (sym (ap (λ (x : Answer). x.shown) h.3) ∙ none) in cc

  by : IsCase s restarting (t, a) → ⊥
  by (inl h) = cc
  by (inr h) = over h.1

pub promised : (m : Mode) (remote : Held) (clusters : ℕ) (report : Report) (last : State) → IsFresh remote → Runs m (start m remote clusters) report last → Promises m remote clusters report last
promised m remote clusters report last fresh runs = record {
  changes = shows_all m remote clusters report last fresh runs;
  restarts = resumes_right m remote clusters report last fresh runs;
  opens = λ before rest s e a t parts led is leads. finds_volume m remote clusters before s e a t led is;
  refusals = λ before rest s e a t parts led is leads. refusals_leave m s e a t is;
  stale = λ before rest s e a t parts led is leads. late_is_stale m remote clusters before s e a t fresh led is;
  held_data = λ before rest s e a t parts led is leads. data_is_held m remote clusters before s e a t fresh led is;
  in_sync = shown_by_mark m remote clusters report last fresh runs;
  dehydrations = λ before rest s e a t parts led is leads. dehydrates_exactly m s e a t is;
  tokens = one_version_each m (start m remote clusters) report last runs;
}

pub headline : (remote : Held) (clusters : ℕ) (report : Report) (last : State) → Premises remote last → Runs mode.Replay (start mode.Replay remote clusters) report last → Headline remote clusters report last
headline remote clusters report last premises runs = record {
  promises = promised mode.Replay remote clusters report last premises.fresh runs;
  answers = reads_answered remote clusters report last premises.fresh premises.fair;
  data_lines = data_is_right remote clusters report last premises.fresh premises.fair runs;
  reads = reads_at_once remote clusters report last premises.fresh premises.fair runs;
  reads_in_call = reads_in_call remote clusters report last premises.fresh premises.fair runs;
  marks = marks_give remote clusters report last premises.fresh premises.fair runs;
  not_done = not_done_is_taken remote clusters report last premises.fresh premises.fair runs;
  done = done_is_taken remote clusters report last premises.fresh premises.fair runs;
  flushed = flushed_is_kept remote clusters report last premises.fresh premises.fair runs;
}
