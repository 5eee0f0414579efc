-- The parts of a pass as parts of the whole.
use Rattle.std.proofs.Common.{◌≡◌, Bool, true, false, not, List, [], ◌∷◌, map, refl, sym, ◌∙◌, ap, subst}
use Rattle.std.specs.Prelude.{Result, Ok, Err}
use Rattle.std.specs.Result.{IsErrAnd}
use Rattle.cf_base.specs.declared.answers.Shown.{Shown}
use Rattle.cf_base.specs.declared.answers.Shown.TheVariants as shown
use Rattle.cf_base.specs.declared.codes.CallError.{CallError}
use Rattle.cf_base.specs.declared.codes.Code.TheVariants as code
use Rattle.cf_engine_passes.specs.Settlements.{settle_one}
use Rattle.cf_engine_queue.specs.Books.{entry_value}
use Rattle.cf_engine_queue.specs.declared.uploads.QueueEntry as queue
use Rattle.cf_engine_steps.specs.Answering.{Answers, Any, Whole}
use Rattle.cf_engine_steps.specs.BookReads.{queue_in}
use Rattle.cf_engine_steps.specs.States.{Own, whole}
use Rattle.cf_engine_steps.proofs.Laws.{goes_any, reads_on, returned, stops_first, with_err}
use Rattle.cf_filter_steps.specs.Answering as steps
use Rattle.cf_model.specs.Dehydration.{is_connected}
use Rattle.cf_model.specs.Arrows.{Arrow, each, then_do, unit}
use Rattle.cf_model.specs.Books.{Book}
use Rattle.cf_model.specs.Passes.{ask_feed, connected, feed_if, is_down, send_feed, settle_all, settle_entry, unless_down}
use Rattle.cf_model.specs.Passes.{try_round}
use Rattle.cf_model.specs.State.{State, book_now}
use Rattle.cf_remote.specs.Told.{Told}

-- at an exit by `?` of the first of two parts
pub stops_by : {X A B : Type 0} (W : Whole X) (f : Arrow State A) (g : Arrow State B) (x y : X) (q : CallError) (r : Result B CallError) → IsErrAnd r (λ z. z ≡ q) → Answers W Any f x (Err q) y → Answers W Any (then_do f g) x r y
stops_by W f g x y q r is h = with_err W Any (then_do f g) x y q r is (stops_first W Any f g x y q h)

-- the feed

module _ {X : Type 0} (W : Whole X) (x y : X) (b : Bool) (h : Answers W Any try_round x (Ok b) y) where
  drawn : (c : Bool) → b ≡ c → Answers W Any try_round x (Ok c) y
  drawn c is = subst (λ (d : Bool). Answers W Any try_round x (Ok d) y) is h

  pub asked : (z : X) (r : Result (Unit {0}) CallError) → b ≡ true → Answers W Any send_feed y r z → Answers W Any ask_feed x r z
  asked z r is k = goes_any W Any try_round feed_if x y z true r (drawn true is) k

  pub not_asked : b ≡ false → Answers W Any ask_feed x (Ok unit) y
  not_asked is = goes_any W Any try_round feed_if x y y false (Ok unit) (drawn false is) (returned W Any unit y)

-- the uploads on their way

settled_each : (es : List queue.QueueEntry) → each settle_one es ≡ each settle_entry (map entry_value es)
settled_each [] = refl
settled_each (e ∷ es) = ap (λ (g : Arrow State (Unit {0})). then_do (settle_entry (entry_value e)) g) (settled_each es)

module _ {X R : Type 0} (S : steps.Sense X) (told : R → Told) (x y : X) (e f : Own R) where
  pub settled_by : (r : Result (Unit {0}) CallError) (b : Book) (es : List queue.QueueEntry) → steps.Reads S steps.Any queue_in x b → map entry_value es ≡ b.entries → Answers (whole S told) Any (each settle_one es) (x, e) r (y, f)
      → Answers (whole S told) Any settle_all (x, e) r (y, f)
  settled_by r b es h same k = reads_on (whole S told) Any (λ s. (book_now s).entries) (each settle_entry) (x, e) (y, f) (map entry_value es) r
      (record { is = λ s i any. same ∙ ap (λ (c : Book). c.entries) (h.is s.filter i.filter (record {})) })
      (subst (λ (g : Arrow State (Unit {0})). Answers (whole S told) Any g (x, e) r (y, f)) (settled_each es) k)

  -- with a provider, and without one

  pub when_up : (g : Arrow State Shown) (r : Result Shown CallError) (b : Bool) → steps.Reads S steps.Any is_connected x b → b ≡ true → Answers (whole S told) Any g (x, e) r (y, f) → Answers (whole S told) Any (connected g) (x, e) r (y, f)
  when_up g r b h is k = reads_on (whole S told) Any is_down (unless_down g) (x, e) (y, f) false r (record { is = λ s i any. ap not (sym is ∙ h.is s.filter i.filter (record {})) }) k

pub when_down : {X R : Type 0} (S : steps.Sense X) (told : R → Told) (x : X) (e : Own R) (g : Arrow State Shown) (b : Bool) → steps.Reads S steps.Any is_connected x b → b ≡ false → Answers (whole S told) Any (connected g) (x, e) (Ok (shown.Refused code.ProviderDown)) (x, e)
when_down S told x e g b h is = reads_on (whole S told) Any is_down (unless_down g) (x, e) (x, e) true (Ok (shown.Refused code.ProviderDown)) (record { is = λ s i any. ap not (sym is ∙ h.is s.filter i.filter (record {})) }) (returned (whole S told) Any (shown.Refused code.ProviderDown) (x, e))
