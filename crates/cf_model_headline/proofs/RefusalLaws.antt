-- What a refusal leaves, of each event.
use Rattle.std.proofs.Common.{◌≡◌, Bool, true, false, [], refl, sym, ◌∙◌, ap, inl, inr}
use Rattle.std.specs.Prelude.{Option, Some, None, ◌≢◌}
use Rattle.cf_base.specs.declared.answers.Answer.{Answer}
use Rattle.cf_base.specs.declared.answers.Shown.TheVariants as shown
use Rattle.cf_base.specs.declared.codes.Code.{Code}
use Rattle.cf_base.specs.declared.codes.Code.TheVariants as code
use Rattle.cf_base.specs.declared.events.Event.{Event}
use Rattle.cf_base.specs.declared.policies.Mode.{Mode}
use Rattle.cf_model.specs.Events.{needs_volume, no_volume, tree_of}
use Rattle.cf_model.specs.Lawful.{IsStep}
use Rattle.cf_model.specs.State.{On, State}
use Rattle.cf_model_headline.specs.Refusals.{IsLeft, RefusalsLeave, is_call, is_refused}
use Rattle.cf_model_headline.proofs.QuietRefusals.{event_quiet}
use Rattle.cf_model_headline.proofs.ReadsAtOnceLaws.{led_ends}
use Rattle.cf_model_headline.proofs.StepCases.{IsCase, IsOver, step_case}

none_on : (b : Bool) → no_volume b On ≡ None
none_on true = refl
none_on false = refl

pub refusals_leave : (m : Mode) (s : State) (e : Event) (a : Answer) (t : State) → IsStep m s e a t → RefusalsLeave s e a t
refusals_leave m s e a t is = record { first = λ c h. first c h (step_case m s e a t is); calls = λ call on none refused other. left call on none refused other (step_case m s e a t is) } where
  clash : {A : Type 0} (c : Code) → ◌≡◌ {A = Option Code} None (Some c) → A
  clash c z = cc

  first : (c : Code) → no_volume (needs_volume e) s.power ≡ Some c → IsCase s e (t, a) → t ≡ s
  first c h (inl k) = k.2
  first c h (inr k) = clash c (sym k.0 ∙ h)

  ended : is_call e ≡ true → s.filter.outbox ≡ [] → is_refused a.shown ≡ true → a.shown ≢ shown.Refused code.Device → IsOver s e (t, a) → IsLeft s t
  ended call none refused other (inl k) =
      led_ends (λ r u. is_refused r ≡ true → IsLeft s u) (tree_of e s) k.0 t (event_quiet e s call none) k.1 (ap is_refused (sym (ap (λ (x : Answer). x.shown) k.2)) ∙ refused)
  ended call none refused other (inr k) = absurd (other (ap (λ (x : Answer). x.shown) k.3))

  left : is_call e ≡ true → s.power ≡ On → s.filter.outbox ≡ [] → is_refused a.shown ≡ true → a.shown ≢ shown.Refused code.Device → IsCase s e (t, a) → IsLeft s t
  left call on none refused other (inl k) = clash k.0 (sym (ap (no_volume (needs_volume e)) on ∙ none_on (needs_volume e)) ∙ k.1)
  left call on none refused other (inr k) = ended call none refused other k.1
