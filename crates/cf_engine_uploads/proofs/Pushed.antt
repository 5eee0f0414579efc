-- One upload: its token, its record, and what is sent.
use Rattle.std.proofs.Common.{◌≡◌, ◌∷◌, [], Bool, true, false, refl, sym, ◌∙◌, subst, inl}
use Rattle.std.specs.Prelude.{Result, Ok, Err, Option, Some, None, cond, nat_le}
use Rattle.cf_base.specs.declared.codes.CallError.{CallError}
use Rattle.cf_base.specs.declared.codes.Code.{Code}
use Rattle.cf_base.specs.declared.codes.Code.TheVariants as code
use Rattle.cf_base.specs.declared.ids.Token.{Token}
use Rattle.cf_base.specs.declared.messages.Request.{Request}
use Rattle.cf_engine_steps.specs.Answering.{Answers, Any, Reads, Whole}
use Rattle.cf_engine_steps.specs.Readings.{token_left}
use Rattle.cf_engine_steps.proofs.Laws.{fails_first, goes_any, ok_off, returned}
use Rattle.cf_engine_steps.proofs.Tried.{tried_skips}
use Rattle.cf_model.specs.Arrows.{and_then, one, then_do, unit, unless_done, when_ok}
use Rattle.cf_model.specs.Books.{QueueEntry, with_entry}
use Rattle.cf_model.specs.Messages.{send}
use Rattle.cf_model.specs.Numbers.{most}
use Rattle.cf_model.specs.Pushes.{anchored, next_token, push, send_if, try_token, why_no_token, with_token}
use Rattle.cf_model.specs.Skips.{in_book, left_out, not_done, skip, try_book, with_volatile}
use Rattle.cf_model.specs.State.{State}
use Rattle.cf_model.specs.Trees.{Stops, Tree, bind}
use Rattle.cf_model.specs.Words.{first_of}

-- after the record
pub sent : {X Y : Type 0} (W : Whole (X × Y)) (e : QueueEntry) (q : Request) (x y z : X) (d f h : Y) (b : Bool) (r : Result (Unit {0}) CallError) → Answers W Any (and_then try_token (try_book (with_entry e))) (x, d) (Ok b) (y, f) → b ≡ true
    → Answers W Any (then_do (in_book (anchored e)) (send q)) (y, f) r (z, h) → Answers W Any (push e q) (x, d) r (z, h)
sent W e q x y z d f h b r k is l =
    goes_any W Any (and_then try_token (try_book (with_entry e))) (send_if e q) (x, d) (y, f) (z, h) b r k (subst (λ (c : Bool). Answers W Any (send_if e q c) (y, f) r (z, h)) (sym is) l)

-- tokens

abbrev pub NoToken : State → Type 0
NoToken s = why_no_token s ≡ Some code.Exhausted

left_then : (b : Bool) (t u : Token) → ◌≡◌ {A = Option Token} (Some t) (cond b None (Some u)) → (first_of ((b, code.Exhausted) ∷ []) ≡ None) × (t ≡ u)
left_then false t u e = (refl, let z : ◌≡◌ {A = Option Token} (Some t) (Some u) = e in cc)
left_then true t u e = let z : ◌≡◌ {A = Option Token} (Some t) None = e in absurd cc

none_then : (b : Bool) (u : Token) → ◌≡◌ {A = Option Token} None (cond b None (Some u)) → first_of ((b, code.Exhausted) ∷ []) ≡ Some code.Exhausted
none_then true u e = refl
none_then false u e = let z : ◌≡◌ {A = Option Token} None (Some u) = e in absurd cc

module _ {X : Type 0} (W : Whole X) (x : X) (o : Option Token) (reads : Reads W Any token_left x o) (s : State) (m : W.means x s) where
  pub token_is : (t : Token) → o ≡ Some t → (why_no_token s ≡ None) × (t ≡ next_token s)
  token_is t is = left_then (nat_le most s.volatile.tokens) t (next_token s) (sym is ∙ reads.is s m (record {}))

  pub no_token : o ≡ None → NoToken s
  no_token is = none_then (nat_le most s.volatile.tokens) (next_token s) (sym is ∙ reads.is s m (record {}))

-- where none is left
module _ {X : Type 0} (W : Whole X) (e : QueueEntry) (q : Request) (x y : X) where
  not_tried : (c : CallError) → Answers W Any (skip code.Exhausted) x (Err c) y → Answers W NoToken try_token x (Err c) y
  not_tried c h = tried_skips W NoToken Any why_no_token (one (with_volatile with_token)) x y code.Exhausted (Err c) (λ s i p. p) (fails_first W Any (skip code.Exhausted) not_done x y c h)

  was_tried : (u : Unit {0}) → Answers W Any (skip code.Exhausted) x (Ok u) y → Answers W NoToken try_token x (Ok false) y
  was_tried u h = tried_skips W NoToken Any why_no_token (one (with_volatile with_token)) x y code.Exhausted (Ok false) (λ s i p. p) (goes_any W Any (skip code.Exhausted) not_done x y y u (Ok false) h (returned W Any false y))

  pub none_left : (r : Result (Unit {0}) CallError) → Answers W Any (skip code.Exhausted) x r y → Answers W NoToken (push e q) x r y
  none_left (Ok u) h =
      goes_any W NoToken (and_then try_token (try_book (with_entry e))) (send_if e q) x y y false (Ok u) (ok_off W NoToken try_token false (try_book (with_entry e)) x y false (was_tried u h) refl) (returned W Any unit y)
  none_left (Err c) h =
      fails_first W NoToken (and_then try_token (try_book (with_entry e))) (send_if e q) x y c (fails_first W NoToken try_token (when_ok false (try_book (with_entry e))) x y c (not_tried c h))

-- the device may stop in the step that draws the token
module _ (e : QueueEntry) (q : Request) (s : State) where
  abbrev drawn_by : Option Code → Tree State (Unit {0})
  drawn_by o = bind (bind (bind (unless_done (one (with_volatile with_token)) o s) left_out) (when_ok false (try_book (with_entry e)))) (send_if e q)

  stops_by : (o : Option Code) → o ≡ None → Stops (drawn_by o) s
  stops_by None h = inl refl
  stops_by (Some c) h = let z : ◌≡◌ {A = Option Code} (Some c) None = h in absurd cc

  pub stops_at_token : why_no_token s ≡ None → Stops (push e q s) s
  stops_at_token none = stops_by (why_no_token s) none
