-- Steps that an engine takes, from their parts.
use Rattle.std.proofs.Common.{◌≡◌, Bool, true, false, List, refl, sym, ◌∙◌, ap, subst}
use Rattle.std.specs.Prelude.{Result, Ok, Err, is_err}
use Rattle.std.specs.Result.{IsErrAnd}
use Rattle.std.proofs.lemmas.Result.{err_from_is_err_and}
use Rattle.cf_base.specs.declared.codes.Code.TheVariants as code
use Rattle.cf_base.specs.declared.codes.CallError.{CallError}
use Rattle.cf_base.specs.declared.codes.CallError.TheVariants.{No, OutOfMemory}
use Rattle.cf_base.specs.declared.notices.Notice.{Notice}
use Rattle.cf_disk.specs.Disk.{State}
use Rattle.cf_filter.proofs.Called.{is_broken, noted_back, still_noted, whole_again}
use Rattle.cf_filter.specs.Calling.{Told, answer_of, broken_by, is_stopped, noted}
use Rattle.cf_filter.specs.Handing.{Hands, given_as}
use Rattle.cf_filter_machine.specs.Held.{Held}
use Rattle.cf_filter.specs.PortLaws.{false_true}
use Rattle.cf_filter_machine.specs.Sensing.{sense}
use Rattle.cf_model.specs.Arrows.{Arrow}
use Rattle.cf_model.specs.State.{Filter}
use Rattle.cf_filter_steps.specs.Answering.{After, Answers, Sense}
use Rattle.cf_filter_steps.specs.Readings.{whether}

-- whether it was done is all that it gives
pub as_whether : {X : Type 0} {S : Sense X} {P : Filter → Type 0} {f : Arrow Filter (Unit {0})} {x y : X} (r : Result (Unit {0}) CallError) → Answers S P f x r y → Answers S P f x (whether r) y
as_whether (Ok u) h = h
as_whether (Err e) h = h

same_move : {D : Type 0} (state : D → State) (b : Bool) (x y : Held D) (s t : Filter) → (sense state).moved x y s t → (sense state).moved x (broken_by b y) s t
unfolding broken_by
same_move state b x y s t m = m

module _ {D A : Type 0} (state : D → State) (P : Filter → Type 0) (step : Arrow Filter (Unit {0})) where
  after_broken : (r : Result A CallError) (x y : Held D) (t : Filter) → After (sense state) x (whether r) y t → After (sense state) x (whether r) (broken_by (is_err r) y) t
  unfolding broken_by
  after_broken (Ok a) x y t h = whole_again state y t h
  after_broken (Err (No c)) x y t h = (record { notes = h.0.notes; policy = h.0.policy; connected = h.0.connected; shows = h.0.shows; lasts = h.0.lasts }, h.1)
  after_broken (Err OutOfMemory) x y t h = h

  answer_given : (r : Result A CallError) → answer_of (given_as r) ≡ r
  answer_given (Ok a) = refl
  answer_given (Err e) = refl

  stopped_given : (r : Result A CallError) → is_stopped (given_as r) ≡ is_err r
  stopped_given (Ok a) = refl
  stopped_given (Err e) = refl

  pub handed : (x mid new : Held D) (first r : Result A CallError) (q : Told A) → x.desk.broken ≡ false → Answers (sense state) P step x (whether first) mid → q ≡ given_as first → r ≡ answer_of q → new ≡ broken_by (is_stopped q) mid → Hands (sense state) P step x r new
  handed x mid new first r q whole h gives is after =
      let same = is ∙ ap (λ (o : Told A). answer_of o) gives ∙ answer_given first in
      let now = after ∙ ap (λ (o : Told A). broken_by (is_stopped o) mid) gives ∙ ap (λ (b : Bool). broken_by b mid) (stopped_given first) in
      subst (λ (o : Result A CallError). Hands (sense state) P step x o new) (sym same) (record {
        broken = λ broken. false_true (sym whole ∙ broken);
        does = λ whole. (
          subst (λ (y : Held D). Answers (sense state) P step x (whether first) y) (sym now) (record { leads = λ s i p. let a = h.leads s i p in (a.0, a.1, same_move state (is_err first) x mid s a.0 a.2, after_broken first x mid a.0 a.3) }),
          is_broken state (is_err first) mid new now,
        );
      })

  pub handed_with : (old begun mid new : Held D) (before after stash : List Notice) (first r : Result A CallError) (q : Told A) → old.desk.broken ≡ false → begun ≡ noted before old → Answers (sense state) P step begun (whether first) mid → q ≡ given_as first → r ≡ answer_of q
      → new ≡ broken_by (is_stopped q) (noted stash mid) → after ≡ mid.desk.notes → Hands (sense state) P step (noted before old) r (noted after new)
  handed_with old begun mid new before after stash first r q whole b h gives is n a =
      handed (noted before old) mid (noted after new) first r q (still_noted state before false old whole) (subst (λ (y : Held D). Answers (sense state) P step y (whether first) mid) b h) gives is
      (ap (λ (l : List Notice). noted l new) a ∙ ap (λ (y : Held D). noted mid.desk.notes y) n ∙ noted_back state (is_stopped q) stash mid)

  pub handed_not : (old new : Held D) (e : CallError) (r : Result A CallError) → e ≡ No code.Broken → old.desk.broken ≡ true → IsErrAnd r (λ y. y ≡ e) → new ≡ old → Hands (sense state) P step old r new
  handed_not old new e r is broken err same =
      let o = err_from_is_err_and r err in record {
        broken = λ h. (o.1 ∙ ap (λ (y : CallError). Err y) (o.2 ∙ is), same);
        does = λ whole. false_true (sym whole ∙ broken);
      }

  pub handed_not_with : (old new : Held D) (before after : List Notice) (e : CallError) (r : Result A CallError) → e ≡ No code.Broken → old.desk.broken ≡ true → IsErrAnd r (λ y. y ≡ e) → new ≡ old → after ≡ before → Hands (sense state) P step (noted before old) r (noted after new)
  handed_not_with old new before after e r is broken err same notes =
      handed_not (noted before old) (noted after new) e r is (still_noted state before true old broken) err (ap (λ (l : List Notice). noted l new) notes ∙ ap (λ (y : Held D). noted before y) same)
