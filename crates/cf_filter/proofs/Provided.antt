-- A call that may call its provider, from its parts.
use Rattle.std.proofs.Common.{◌≡◌, true, false, List, [], refl, sym, ◌∙◌, ap, subst}
use Rattle.std.specs.Prelude.{Result, Ok, Err}
use Rattle.std.specs.Result.{IsErrAnd}
use Rattle.std.proofs.lemmas.Result.{err_from_is_err_and}
use Rattle.cf_base.specs.declared.answers.AuxRecord.{AuxRecord}
use Rattle.cf_base.specs.declared.answers.Shown.{Shown}
use Rattle.cf_base.specs.declared.codes.Code.TheVariants as code
use Rattle.cf_base.specs.declared.codes.CallError.{CallError}
use Rattle.cf_base.specs.declared.codes.CallError.TheVariants.{No, OutOfMemory}
use Rattle.cf_base.specs.declared.notices.Notice.{Notice}
use Rattle.cf_base.specs.declared.operations.Operation.{Operation}
use Rattle.cf_disk.specs.Disk.{State}
use Rattle.cf_filter.proofs.Called.{is_broken, noted_back, still_noted, whole_again}
use Rattle.cf_filter.specs.Calling.{Takes, Told, answer_of, broken_by, is_stopped, noted, shown_by}
use Rattle.cf_engine_host.specs.Callbacks.{Answering}
use Rattle.cf_filter.specs.Draining.{CallsBack, CallsTo, PartTo, Provides}
use Rattle.cf_filter_machine.specs.Held.{Held}
use Rattle.cf_filter.specs.PortLaws.{false_true}
use Rattle.cf_filter_machine.specs.Sensing.{sense}
use Rattle.cf_model.specs.Arrows.{Arrow}
use Rattle.cf_filter_calls.specs.Operating.{Keeps}
use Rattle.cf_model.specs.Books.{Book}
use Rattle.cf_model.specs.Callbacks.{begin_call}
use Rattle.cf_model.specs.Changes.{same_book}
use Rattle.cf_model.specs.Operations.{execute, execute_with}
use Rattle.cf_model.specs.State.{Filter}
use Rattle.cf_filter_steps.specs.Answering.{Answers, Any}

module _ {D P : Type 0} (state : D → State) (answers : Answering P) (H : Filter → Type 0) (part : Arrow Filter Shown) where
  -- a call that counts as one for which memory ran out
  calls_lost : (p q : P) (x y : Held D) (s : Filter) (r : Result Shown CallError) → CallsTo state answers part p x s r q y → CallsTo state answers part p x s (Err OutOfMemory) q y
  calls_lost p q x y s (Ok b) h = (h.2, h.6, (sense state).endures y (begin_call h.2) h.7)
  calls_lost p q x y s (Err (No c)) h = (h.1, h.2, h.3.lasts)
  calls_lost p q x y s (Err OutOfMemory) h = h

  back_as : {A : Type 0} (show : A → Shown) (p q : P) (x y : Held D) (r : Result Shown CallError) (told : Told A) → Takes show r told → CallsBack state answers H part p x r q y → CallsBack state answers H part p x (shown_by show told) q y
  back_as show p q x y r (Ok (Ok a)) is h = subst (λ (o : Result Shown CallError). CallsBack state answers H part p x o q y) is h
  back_as show p q x y r (Ok (Err c)) is h = subst (λ (o : Result Shown CallError). CallsBack state answers H part p x o q y) is h
  back_as show p q x y r (Err (No c)) is h = subst (λ (o : Result Shown CallError). CallsBack state answers H part p x o q y) is h
  back_as show p q x y r (Err OutOfMemory) is h = record { leads = λ s i has. calls_lost p q x y s r (h.leads s i has) }

  back_broken : {A : Type 0} (show : A → Shown) (p q : P) (x y : Held D) (s : Filter) (told : Told A) → CallsTo state answers part p x s (shown_by show told) q y → CallsTo state answers part p x s (shown_by show told) q (broken_by (is_stopped told) y)
  unfolding broken_by
  back_broken show p q x y s (Ok (Ok a)) h = (h.0, h.1, h.2, h.3, h.4, h.5, h.6, whole_again state y (begin_call h.2) h.7)
  back_broken show p q x y s (Ok (Err c)) h = (h.0, h.1, h.2, h.3, h.4, h.5, h.6, whole_again state y (begin_call h.2) h.7)
  back_broken show p q x y s (Err (No c)) h = (h.0, h.1, h.2, record { notes = h.3.notes; policy = h.3.policy; connected = h.3.connected; shows = h.3.shows; lasts = h.3.lasts }, h.4, h.5)
  back_broken show p q x y s (Err OutOfMemory) h = h

  provided : {A : Type 0} (show : A → Shown) (p q : P) (x y new : Held D) (r : Result Shown CallError) (told : Told A) (answer : Result A CallError)
      → x.desk.broken ≡ false → CallsBack state answers H part p x r q y → Takes show r told → answer ≡ answer_of told → new ≡ broken_by (is_stopped told) y → Provides state answers H show part p x answer q new
  provided show p q x y new r told answer whole h takes is after =
      let back = back_as show p q x y r told takes h in record {
        broken = λ broken. false_true (sym whole ∙ broken);
        does = λ whole. (
          told,
          is,
          subst (λ (z : Held D). CallsBack state answers H part p x (shown_by show told) q z) (sym after) (record { leads = λ s i has. back_broken show p q x y s told (back.leads s i has) }),
          is_broken state (is_stopped told) y new after,
        );
      }

  -- a part and then its callbacks
  pub called_back : (p q : P) (x mid y : Held D) (first r : Result Shown CallError) → Answers (sense state) H part x first mid
      → ((f : Arrow Filter Shown) (z : Held D) (s : Filter) → PartTo state f z s first mid → CallsTo state answers f p z s r q y) → CallsBack state answers H part p x r q y
  called_back p q x mid y first r h back = record { leads = λ s i has. back part x s (h.leads s i has) }

  pub provided_with : {A : Type 0} (show : A → Shown) (p q : P) (old begun y new : Held D) (before after stash : List Notice) (r : Result Shown CallError) (told : Told A) (answer : Result A CallError)
      → old.desk.broken ≡ false → begun ≡ noted before old → CallsBack state answers H part p begun r q y → Takes show r told → answer ≡ answer_of told
      → new ≡ broken_by (is_stopped told) (noted stash y) → after ≡ y.desk.notes → Provides state answers H show part p (noted before old) answer q (noted after new)
  provided_with show p q old begun y new before after stash r told answer whole b back takes is n a =
      provided show p q (noted before old) y (noted after new) r told answer (still_noted state before false old whole)
      (subst (λ (z : Held D). CallsBack state answers H part p z r q y) b back) takes is
      (ap (λ (l : List Notice). noted l new) a ∙ ap (λ (z : Held D). noted y.desk.notes z) n ∙ noted_back state (is_stopped told) stash y)

  pub provided_not : {A : Type 0} (show : A → Shown) (p q : P) (old new : Held D) (before after : List Notice) (e : CallError) (r : Result A CallError)
      → e ≡ No code.Broken → old.desk.broken ≡ true → IsErrAnd r (λ y. y ≡ e) → new ≡ old → after ≡ before → q ≡ p → Provides state answers H show part p (noted before old) r q (noted after new)
  provided_not show p q old new before after e r is broken err same notes still =
      let o = err_from_is_err_and r err in record {
        broken = λ h. (o.1 ∙ ap (λ (y : CallError). Err y) (o.2 ∙ is), ap (λ (l : List Notice). noted l new) notes ∙ ap (λ (y : Held D). noted before y) same, still);
        does = λ whole. false_true (sym whole ∙ still_noted state before true old broken);
      }

-- an operation without records
module _ {D P A : Type 0} (state : D → State) (answers : Answering P) where
  pub provided_plainly : (show : A → Shown) (p q : P) (old new : Held D) (op : Operation) (records : List AuxRecord) (r : Result A CallError) → records ≡ []
      → ((f : Book → Book) → Provides state answers (Keeps f records) show (execute_with f op) p old r q new) → Provides state answers Any show (execute op) p old r q new
  provided_plainly show p q old new op records r e a =
      let b = subst (λ (l : List AuxRecord). (f : Book → Book) → Provides state answers (Keeps f l) show (execute_with f op) p old r q new) e a same_book in record {
        broken = b.broken;
        does = λ whole.
            let d = b.does whole in
            (d.0, d.1, record { leads = λ s i h. d.2.leads s i (record { told = refl; anchors = refl; clock = refl; accesses = refl; fits = λ k. k; graves = λ n from k. k }) }, d.3);
      }
