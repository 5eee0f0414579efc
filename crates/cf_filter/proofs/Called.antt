-- A call of a filter, from its parts.
use Rattle.std.proofs.Common.{◌≡◌, Bool, true, false, List, refl, sym, ◌∙◌, ap, subst}
use Rattle.std.specs.Prelude.{Result, Ok, Err}
use Rattle.std.specs.Result.{IsErrAnd}
use Rattle.std.proofs.lemmas.Result.{err_from_is_err_and}
use Rattle.cf_base.specs.declared.answers.Shown.{Shown}
use Rattle.cf_base.specs.declared.codes.Code.TheVariants as code
use Rattle.cf_base.specs.declared.codes.CallError.{CallError}
use Rattle.cf_base.specs.declared.codes.CallError.TheVariants.{No, OutOfMemory}
use Rattle.cf_base.specs.declared.notices.Notice.{Notice}
use Rattle.cf_disk.specs.Disk.{State}
use Rattle.cf_filter.specs.Calling.{Asks, Calls, Takes, Told, answer_of, broken_by, is_stopped, noted, shown_by}
use Rattle.cf_filter_desk.specs.Desks.{Desk}
use Rattle.cf_filter_machine.specs.Held.{Held}
use Rattle.cf_filter_machine.specs.Lasting.{Lasts}
use Rattle.cf_filter_machine.specs.Sensing.{sense}
use Rattle.cf_model.specs.Arrows.{Arrow}
use Rattle.cf_model.specs.State.{Filter}
use Rattle.cf_filter_steps.specs.Answering.{After, Answers, Any, Sense}

-- a part that a call does on the machine inside
pub seen_from : {X A : Type 0} {S : Sense X} {P : Filter → Type 0} {f : Arrow Filter A} {r : Result A CallError} {x y z : X} → x ≡ y → Answers S P f x r z → Answers S P f y r z
seen_from {X} {A} {S} {P} {f} {r} {x} {y} {z} e h = subst (λ (w : X). Answers S P f w r z) e h

-- the same of one that changes nothing
pub seen_both : {X A : Type 0} {S : Sense X} {P : Filter → Type 0} {f : Arrow Filter A} {r : Result A CallError} {x y : X} → x ≡ y → Answers S P f x r x → Answers S P f y r y
seen_both {X} {A} {S} {P} {f} {r} {x} {y} e h = subst (λ (w : X). Answers S P f w r w) e h

true_false : true ≡ false → ⊥
true_false e = cc

module _ {D : Type 0} (state : D → State) where
  -- however a part ended, a restart opens a point of the state
  pub lasts_after : {A : Type 0} (q : Result A CallError) (x y : Held D) (t : Filter) → After (sense state) x q y t → Lasts (state y.disk) t.volume
  lasts_after (Ok a) x y t h = (sense state).endures y t h
  lasts_after (Err (No c)) x y t h = h.0.lasts
  lasts_after (Err OutOfMemory) x y t h = h

  told_as : {A : Type 0} (show : A → Shown) (part : Arrow Filter Shown) (old mid : Held D) (p : Result Shown CallError) (q : Told A)
      → Takes show p q → Answers (sense state) Any part old p mid → Answers (sense state) Any part old (shown_by show q) mid
  told_as show part old mid p (Ok (Ok a)) is h = subst (λ (r : Result Shown CallError). Answers (sense state) Any part old r mid) is h
  told_as show part old mid p (Ok (Err c)) is h = subst (λ (r : Result Shown CallError). Answers (sense state) Any part old r mid) is h
  told_as show part old mid p (Err (No c)) is h = subst (λ (r : Result Shown CallError). Answers (sense state) Any part old r mid) is h
  told_as show part old mid p (Err OutOfMemory) is h = record { leads = λ s i u. let x = h.leads s i u in (x.0, record {}, x.2, lasts_after p old mid x.0 x.3) }

  pub whole_again : (x : Held D) (t : Filter) → (sense state).means x t → (sense state).means (record x { desk = record x.desk { broken = false } }) t
  whole_again x t h = record { fair = h.fair; volume = h.volume; desk = ap (λ (d : Desk). record d { broken = false }) h.desk; whole = h.whole; good = h.good; kept = h.kept; points = h.points; aimed = h.aimed }

  -- what stands says nothing of whether the filter is broken, but where the part went through
  broken_after : {A : Type 0} (show : A → Shown) (q : Told A) (x y : Held D) (t : Filter) → After (sense state) x (shown_by show q) y t → After (sense state) x (shown_by show q) (broken_by (is_stopped q) y) t
  unfolding broken_by
  broken_after {A} show (Ok (Ok a)) x y t h = whole_again y t h
  broken_after {A} show (Ok (Err c)) x y t h = whole_again y t h
  broken_after show (Err (No c)) x y t h = (record { notes = h.0.notes; policy = h.0.policy; connected = h.0.connected; shows = h.0.shows; lasts = h.0.lasts }, h.1)
  broken_after show (Err OutOfMemory) x y t h = h

  pub is_broken : (b : Bool) (x y : Held D) → y ≡ broken_by b x → y.desk.broken ≡ b
  unfolding broken_by
  is_broken b x y e = ap (λ (z : Held D). z.desk.broken) e

  same_move : (b : Bool) (old mid : Held D) (s t : Filter) → (sense state).moved old mid s t → (sense state).moved old (broken_by b mid) s t
  unfolding broken_by
  same_move b old mid s t m = m

  pub still_noted : (notes : List Notice) (b : Bool) (x : Held D) → x.desk.broken ≡ b → (noted notes x).desk.broken ≡ b
  unfolding noted
  still_noted notes b x h = h

  -- the notes go back to the caller
  pub noted_back : (b : Bool) (stash : List Notice) (x : Held D) → noted x.desk.notes (broken_by b (noted stash x)) ≡ broken_by b x
  unfolding noted broken_by
  noted_back b stash x = refl

  pub called : {A : Type 0} (show : A → Shown) (part : Arrow Filter Shown) (old mid new : Held D) (p : Result Shown CallError) (q : Told A) (r : Result A CallError)
      → old.desk.broken ≡ false → Answers (sense state) Any part old p mid → Takes show p q → r ≡ answer_of q → new ≡ broken_by (is_stopped q) mid → Calls (sense state) show part old r new
  called show part old mid new p q r whole h takes is after =
      let told = told_as show part old mid p q takes h in record {
        broken = λ broken. absurd (true_false (sym broken ∙ whole));
        does = λ whole. (q, is, subst (λ (y : Held D). Answers (sense state) Any part old (shown_by show q) y) (sym after) (record { leads = λ s i u. let x = told.leads s i u in (x.0, x.1, same_move (is_stopped q) old mid s x.0 x.2, broken_after show q old mid x.0 x.3) }), is_broken (is_stopped q) mid new after);
      }

  pub called_with : {A : Type 0} (show : A → Shown) (part : Arrow Filter Shown) (old begun mid new : Held D) (before after stash : List Notice) (p : Result Shown CallError) (q : Told A) (r : Result A CallError)
      → old.desk.broken ≡ false → begun ≡ noted before old → Answers (sense state) Any part begun p mid → Takes show p q → r ≡ answer_of q
      → new ≡ broken_by (is_stopped q) (noted stash mid) → after ≡ mid.desk.notes → Calls (sense state) show part (noted before old) r (noted after new)
  called_with show part old begun mid new before after stash p q r whole b h takes is n a =
      called show part (noted before old) mid (noted after new) p q r (still_noted before false old whole) (subst (λ (y : Held D). Answers (sense state) Any part y p mid) b h) takes is
      (ap (λ (l : List Notice). noted l new) a ∙ ap (λ (y : Held D). noted mid.desk.notes y) n ∙ noted_back (is_stopped q) stash mid)

  -- a call of a broken filter
  pub called_not : {A : Type 0} (show : A → Shown) (part : Arrow Filter Shown) (old new : Held D) (e : CallError) (r : Result A CallError)
      → e ≡ No code.Broken → old.desk.broken ≡ true → IsErrAnd r (λ y. y ≡ e) → new ≡ old → Calls (sense state) show part old r new
  called_not show part old new e r is broken err same =
      let p = err_from_is_err_and r err in record {
        broken = λ h. (p.1 ∙ ap (λ (y : CallError). Err y) (p.2 ∙ is), same);
        does = λ whole. absurd (true_false (sym broken ∙ whole));
      }

  pub called_not_with : {A : Type 0} (show : A → Shown) (part : Arrow Filter Shown) (old new : Held D) (before after : List Notice) (e : CallError) (r : Result A CallError)
      → e ≡ No code.Broken → old.desk.broken ≡ true → IsErrAnd r (λ y. y ≡ e) → new ≡ old → after ≡ before → Calls (sense state) show part (noted before old) r (noted after new)
  called_not_with show part old new before after e r is broken err same notes =
      called_not show part (noted before old) (noted after new) e r is (still_noted before true old broken) err (ap (λ (l : List Notice). noted l new) notes ∙ ap (λ (y : Held D). noted before y) same)

  pub notes_kept : (b : Bool) (old mid new : Held D) (stash : List Notice) → new ≡ broken_by b (noted stash mid) → stash ≡ old.desk.notes → new.desk.notes ≡ old.desk.notes
  unfolding noted broken_by
  notes_kept b old mid new stash is kept = ap (λ (y : Held D). y.desk.notes) is ∙ kept

  -- calls that change nothing

  pub asked : {A : Type 0} (show : A → Shown) (part : Arrow Filter Shown) (x : Held D) (p : Result Shown CallError) (q : Told A) (r : Result A CallError)
      → x.desk.broken ≡ false → Answers (sense state) Any part x p x → Takes show p q → r ≡ answer_of q → Asks (sense state) show part x r
  asked show part x p q r whole h takes is = record {
    broken = λ broken. absurd (true_false (sym broken ∙ whole));
    does = λ whole. (q, is, told_as show part x x p q takes h);
  }

  pub asked_not : {A : Type 0} (show : A → Shown) (part : Arrow Filter Shown) (x : Held D) (e : CallError) (r : Result A CallError)
      → e ≡ No code.Broken → x.desk.broken ≡ true → IsErrAnd r (λ y. y ≡ e) → Asks (sense state) show part x r
  asked_not show part x e r is broken err =
      let p = err_from_is_err_and r err in record {
        broken = λ h. p.1 ∙ ap (λ (y : CallError). Err y) (p.2 ∙ is);
        does = λ whole. absurd (true_false (sym broken ∙ whole));
      }
