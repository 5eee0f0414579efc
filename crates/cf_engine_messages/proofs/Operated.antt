-- Operations on asks as parts of the whole.
use Rattle.std.proofs.Common.{◌≡◌, ℕ, refl, sym, ◌∙◌, ap, subst}
use Rattle.std.specs.Prelude.{Result, Ok, Err, Option, Some, None, option_map}
use Rattle.cf_base.specs.declared.answers.Shown.{Shown}
use Rattle.cf_base.specs.declared.answers.Shown.TheVariants as shown
use Rattle.cf_base.specs.declared.codes.Code.{Code}
use Rattle.cf_base.specs.declared.codes.CallError.{CallError}
use Rattle.cf_base.specs.declared.ids.Key.{Key}
use Rattle.cf_base.specs.declared.operations.Operation.{Operation}
use Rattle.cf_base.specs.declared.spans.Span.{Span}
use Rattle.cf_base.specs.declared.waits.Ask.{Ask}
use Rattle.cf_base.specs.declared.waits.AskKind.{AskKind}
use Rattle.cf_base.specs.declared.waits.AskKind.TheVariants as ask_kind
use Rattle.cf_engine_messages.specs.Refusals.{refusal_of, refuse_at}
use Rattle.cf_engine_provider.specs.Parts.{refuse_ask, refuse_by}
use Rattle.cf_engine_steps.specs.Answering.{After, Answers, Any, Whole}
use Rattle.cf_engine_steps.specs.Quiet.{Quiet}
use Rattle.cf_engine_steps.specs.States.{Own, whole}
use Rattle.cf_engine_steps.proofs.Laws.{fails_first, goes_any, returned}
use Rattle.cf_engine_steps.proofs.Lifting.{lift_any}
use Rattle.cf_engine_steps.proofs.QuietParts.{quiet_filter}
use Rattle.cf_model.specs.Arrows.{Arrow, ret, seq, unit}
use Rattle.cf_model.specs.Books.{Book}
use Rattle.cf_model.specs.Changes.{same_book}
use Rattle.cf_model.specs.Fetching.{after_transfer, do_op, nothing_more, refuse_by_kind, refuse_live}
use Rattle.cf_model.specs.Operations.{execute, execute_with}
use Rattle.cf_model.specs.Requests.{Live, Waiting, live_of}
use Rattle.cf_model.specs.State.{State, in_filter}
use Rattle.cf_model.specs.Trees.{Does}
use Rattle.cf_model.proofs.OperationsKeep.{execute_with_keeps}
use Rattle.cf_remote.specs.Told.{Told}
use Rattle.cf_filter_steps.specs.Answering as steps
use Rattle.cf_filter_steps.specs.Readings.{waiting_of}

pub quiet_op : (f : Book → Book) (op : Operation) → Quiet (execute_with f op)
quiet_op f op = record { keeps = λ n. execute_with_keeps _ (quiet_filter n) f op }

-- the same arrow by another name
pub as_arrow : {X A : Type 0} (W : Whole X) (f g : Arrow State A) (x y : X) (r : Result A CallError) → g ≡ f → Answers W Any f x r y → Answers W Any g x r y
as_arrow W f g x y r same h = subst (λ (a : Arrow State _). Answers W Any a x r y) (sym same) h

module _ {X R : Type 0} (S : steps.Sense X) (told : R → Told) (op : Operation) where
  pub op_then : {A : Type 0} (g : Shown → Arrow State A) (x y z : X) (e d : Own R) (a : Shown) (r : Result A CallError) → steps.Answers S steps.Any (execute op) x (Ok a) y → Answers (whole S told) Any (g a) (y, e) r (z, d) → Answers (whole S told) Any (seq (in_filter (execute op)) g) (x, e) r (z, d)
  op_then g x y z e d a r h k = goes_any (whole S told) Any (in_filter (execute op)) g (x, e) (y, e) (z, d) a r (lift_any S told (execute op) x y e (Ok a) (quiet_op same_book op) h) k

  pub op_fails : {A : Type 0} (g : Shown → Arrow State A) (x y : X) (e : Own R) (c : CallError) → steps.Answers S steps.Any (execute op) x (Err c) y → Answers (whole S told) Any (seq (in_filter (execute op)) g) (x, e) (Err c) (y, e)
  op_fails g x y e c h = fails_first (whole S told) Any (in_filter (execute op)) g (x, e) (y, e) c (lift_any S told (execute op) x y e (Err c) (quiet_op same_book op) h)

  pub did_op : (x y : X) (e : Own R) (a : Shown) → steps.Answers S steps.Any (execute op) x (Ok a) y → Answers (whole S told) Any (do_op op) (x, e) (Ok unit) (y, e)
  did_op x y e a h = op_then nothing_more x y y e e a (Ok unit) h (returned (whole S told) Any unit (y, e))

-- refusals

pub refused_is : (a : Shown) (c : Code) → refusal_of a ≡ Some c → a ≡ shown.Refused c
refused_is (shown.Refused d) c e = let same : d ≡ c = (let z : ◌≡◌ {A = Option Code} (Some d) (Some c) = e in cc) in ap (λ (x : Code). shown.Refused x) same
refused_is a c e = let bad : ◌≡◌ {A = Option Code} None (Some c) = e in cc

pub not_refused : (key : Key) (span : Span) (a : Shown) → refusal_of a ≡ None → after_transfer key span a ≡ ret unit
not_refused key span (shown.Refused d) e = let bad : ◌≡◌ {A = Option Code} (Some d) None = e in cc
not_refused key span a e = refl

-- the live ask with a key

abbrev pub refuse_if : ℕ → Option Ask → Arrow State (Unit {0})
refuse_if status None = ret unit
refuse_if status (Some a) = refuse_ask status a

by_kind : (k : AskKind) (a : Live) (status : ℕ) → refuse_by_kind k a status ≡ refuse_by k status a.ask
by_kind ask_kind.Fetch a status = refl
by_kind ask_kind.Validate a status = refl
by_kind ask_kind.List a status = refl
by_kind ask_kind.Dehydrate a status = refl

pub live_is : (status : ℕ) (o : Option Live) → refuse_if status (option_map (λ a. a.ask) o) ≡ refuse_live status o
live_is status None = refl
live_is status (Some a) = sym (by_kind a.ask.kind a status)

module _ {X R : Type 0} (S : steps.Sense X) (told : R → Told) where
  pub at_ask : (status : ℕ) (key : Key) (w : Waiting) (o : Option Ask) (x y : X) (e f : Own R) (r : Result (Unit {0}) CallError) → steps.Reads S steps.Any waiting_of x w → o ≡ option_map (λ (a : Live). a.ask) (live_of w.asks key)
      → Answers (whole S told) Any (refuse_if status o) (x, e) r (y, f) → Answers (whole S told) Any (refuse_at status key) (x, e) r (y, f)
  at_ask status key w o x y e f r h is k = record {
    leads = λ s i any.
        let same : refuse_if status o ≡ refuse_live status (live_of s.filter.waiting.asks key) = ap (refuse_if status) (is ∙ ap (λ (v : Waiting). option_map (λ (a : Live). a.ask) (live_of v.asks key)) (h.is s.filter i.filter (record {}))) ∙ live_is status (live_of s.filter.waiting.asks key) in
        subst (λ (g : Arrow State (Unit {0})). (t : State) × Does (g s) r t × (whole S told).moved (x, e) (y, f) s t × After (whole S told) (x, e) r (y, f) s t) same (k.leads s i any);
  }

  pub ask_there : (status : ℕ) (key : Key) (w : Waiting) (o : Option Ask) (a : Ask) (x y : X) (e f : Own R) (r : Result (Unit {0}) CallError) → steps.Reads S steps.Any waiting_of x w → o ≡ option_map (λ (a : Live). a.ask) (live_of w.asks key) → o ≡ Some a
      → Answers (whole S told) Any (refuse_ask status a) (x, e) r (y, f) → Answers (whole S told) Any (refuse_at status key) (x, e) r (y, f)
  ask_there status key w o a x y e f r h is some k = at_ask status key w (Some a) x y e f r h (sym some ∙ is) k

  pub no_ask : (status : ℕ) (key : Key) (w : Waiting) (o : Option Ask) (x : X) (e : Own R) → steps.Reads S steps.Any waiting_of x w → o ≡ option_map (λ (a : Live). a.ask) (live_of w.asks key) → o ≡ None
      → Answers (whole S told) Any (refuse_at status key) (x, e) (Ok unit) (x, e)
  no_ask status key w o x e h is none = at_ask status key w None x x e e (Ok unit) h (sym none ∙ is) (returned (whole S told) Any unit (x, e))
