-- Which dehydrations are refused, by the report.
use Rattle.std.proofs.Common.{◌≡◌, ℕ, Bool, true, false, List, [], ◌∷◌, refl, ◌∙◌, ap, subst}
use Rattle.std.specs.Prelude.{Option, Some, None, not, ◌≢◌}
use Rattle.cf_base.specs.declared.answers.Answer.{Answer}
use Rattle.cf_base.specs.declared.answers.Shown.{Shown}
use Rattle.cf_base.specs.declared.answers.Shown.TheVariants as shown
use Rattle.cf_base.specs.declared.codes.Code.{Code}
use Rattle.cf_base.specs.declared.codes.Code.TheVariants as code
use Rattle.cf_base.specs.declared.events.Event.{Event}
use Rattle.cf_base.specs.declared.policies.Mode.{Mode}
use Rattle.cf_model.specs.Dehydration.{in_use}
use Rattle.cf_model.specs.Items.{Item}
use Rattle.cf_model.specs.Lawful.{IsStep}
use Rattle.cf_model.specs.State.{State}
use Rattle.cf_model.specs.Verdicts.{is_pinned}
use Rattle.cf_model.specs.Words.{first_of}
use Rattle.cf_model_laws.specs.Dehydrations.{IsRefusedExactly, is_cause, why_kept}
use Rattle.cf_model_laws.proofs.DehydrationLaws.{refused_exactly}
use Rattle.cf_model_laws.proofs.RightItems.{no_way, no_way_back}
use Rattle.cf_model_headline.specs.Dehydrated.{DehydratesExactly, cause_shown}

-- one of the three causes is shown, and no other code

cause_of : (c : Code) → is_cause c ≡ true → cause_shown (shown.Refused c) ≡ Some c
cause_of code.Pinned e = refl
cause_of code.NotInSync e = refl
cause_of code.InUse e = refl
cause_of c e = no_way e

no_cause : (c : Code) → is_cause c ≡ false → cause_shown (shown.Refused c) ≡ None
no_cause code.Pinned e = no_way_back e
no_cause code.NotInSync e = no_way_back e
no_cause code.InUse e = no_way_back e
no_cause c e = refl

why_is : (p q r : Bool) (c : Code) → first_of ((p, code.Pinned) ∷ (q, code.NotInSync) ∷ (r, code.InUse) ∷ []) ≡ Some c → is_cause c ≡ true
why_is true q r c e = subst (λ (d : Code). is_cause d ≡ true) (let z : ◌≡◌ {A = Option Code} (Some code.Pinned) (Some c) = e in let y : code.Pinned ≡ c = cc in y) refl
why_is false true r c e = subst (λ (d : Code). is_cause d ≡ true) (let z : ◌≡◌ {A = Option Code} (Some code.NotInSync) (Some c) = e in let y : code.NotInSync ≡ c = cc in y) refl
why_is false false true c e = subst (λ (d : Code). is_cause d ≡ true) (let z : ◌≡◌ {A = Option Code} (Some code.InUse) (Some c) = e in let y : code.InUse ≡ c = cc in y) refl
why_is false false false c e = let z : ◌≡◌ {A = Option Code} None (Some c) = e in cc

none_shown : (r : Shown) → ((c : Code) → is_cause c ≡ true → r ≢ shown.Refused c) → cause_shown r ≡ None
none_shown (shown.Refused c) h = by (is_cause c) refl where
  by : (b : Bool) → is_cause c ≡ b → cause_shown (shown.Refused c) ≡ None
  by true e = absurd (h c e refl)
  by false e = no_cause c e
none_shown r h = refl

shows_why : (m : Mode) (s : State) (path : List ℕ) (range : Option (ℕ × ℕ)) (i : Item) (a : Answer) → IsRefusedExactly m s path range i a → cause_shown a.shown ≡ why_kept s i
shows_why m s path range i a h = by (why_kept s i) refl where
  by : (why : Option Code) → why_kept s i ≡ why → cause_shown a.shown ≡ why
  by (Some c) e = ap cause_shown (h.0 c e) ∙ cause_of c (why_is (is_pinned i.pin) (not i.in_sync) (in_use i.id s.filter) c e)
  by None e = none_shown a.shown (h.1 e)

pub dehydrates_exactly : (m : Mode) (s : State) (e : Event) (a : Answer) (t : State) → IsStep m s e a t → DehydratesExactly s e a
dehydrates_exactly m s e a t is path range i same allowed stop =
    shows_why m s path range i a (refused_exactly m s path range i a t allowed (subst (λ (x : Event). IsStep m s x a t) same is) stop)
