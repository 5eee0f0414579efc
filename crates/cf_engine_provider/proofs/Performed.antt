-- Acts on a port, one part after the other.
use Rattle.std.proofs.Common.{◌≡◌, ◌≢◌, ◌⊎◌, inl, inr, ℕ, Bool, true, false, List, [], ◌∷◌, ◌++◌, ◌+◌, length, refl, sym, ◌∙◌, ap, subst}
use Rattle.std.specs.Prelude.{Result, Ok, Err}
use Rattle.cf_engine_provider.specs.Agencies.{Agency, Any, Performs, Plays}
use Rattle.cf_engine_provider.specs.Parts.{Skips, Tries, skip_acts}
use Rattle.cf_engine_provider.specs.declared.attempts.Told.{Told as Tried}
use Rattle.cf_engine_provider.specs.declared.attempts.Told.TheVariants as tried
use Rattle.cf_engine_provider.proofs.Played.{nothing, op_failed, op_then, skip_then, skips}
use Rattle.cf_base.specs.Codes.{number_of}
use Rattle.cf_base.specs.declared.answers.Shown.TheVariants as shown
use Rattle.cf_base.specs.declared.codes.Code.{Code}
use Rattle.cf_base.specs.declared.codes.Code.TheVariants as code
use Rattle.cf_base.specs.declared.ids.Key.{Key}
use Rattle.cf_base.specs.declared.items.SeenPath.{SeenPath}
use Rattle.cf_base.specs.declared.memory.OutOfMemory.{OutOfMemory as NoMemory}
use Rattle.cf_base.specs.declared.notices.Notice.TheVariants as notice
use Rattle.cf_base.specs.declared.operations.Operation.{Operation}
use Rattle.cf_base.specs.declared.operations.Operation.TheVariants as operation
use Rattle.cf_base.specs.declared.spans.Span.{Span}
use Rattle.cf_provider.specs.Acting.{Notes, shown_of}
use Rattle.cf_provider.specs.declared.outcomes.Outcome.{Outcome}
use Rattle.cf_provider.specs.declared.outcomes.Outcome.TheVariants as outcome
use Rattle.cf_model.specs.Arrows.{Arrow, ret, unit}
use Rattle.cf_model.specs.Fetching.{after_transfer, do_op, nothing_more, refuse_for, span_at, take_bytes}
use Rattle.cf_model.specs.Skips.{skip}
use Rattle.cf_model.specs.State.{State}
use Rattle.cf_model.specs.Ports.{Act, Did, Failed, Noted}
use Rattle.cf_remote.specs.Told.{Told}

no : {A : Type 0} → false ≡ true → A
no e = let bad : ⊥ = cc in absurd bad

module _ {X : Type 0} (goes : X → List Act → X → Type 0) where
  -- an operation that was not tried
  pub untried : (A : Type 0) (seen : List SeenPath) (op : Operation) (old new : X) (t : Result Tried NoMemory) (e m : NoMemory) (Is : List Act → Type 0) → Tries goes seen op old t new → t ≡ Err e → Performs {A = A} goes Is old (Err m) new
  untried A seen op old new t e m Is h is = ([], subst (λ (x : Result Tried NoMemory). Tries goes seen op old x new) is h, λ ok. no ok)

  module _ (on : (p q r : X) (acts more : List Act) → goes p acts q → goes q more r → goes p (acts ++ more) r) where
    pub then_performs : {A B : Type 0} (First Next Both : List Act → Type 0) (old mid new : X) (a : A) (r : Result B NoMemory)
        → ((acts more : List Act) → First acts → Next more → Both (acts ++ more)) → Performs goes First old (Ok a) mid → Performs goes Next mid r new → Performs goes Both old r new
    then_performs First Next Both old mid new a r both h k = (h.0 ++ k.0, on old mid new h.0 k.0 h.1 k.1, λ ok. both h.0 k.0 (h.2 refl) (k.2 ok))

  module _ {R : Type 0} (told : R → Told) where
    -- a step that is left out

    shows_alike : (p q : Agency R) → q ≡ record p { skips = p.skips + 1 } → p.shows_skips ≡ q.shows_skips
    shows_alike p q more = ap (λ (x : Agency R). x.shows_skips) (sym more)

    pub skipped_line : (c : Code) (p q : Agency R) (b : Bool) (old new : X) (r : Result (Unit {0}) NoMemory) → q ≡ record p { skips = p.skips + 1 } → q.shows_skips ≡ b → b ≡ true → Notes goes (notice.Skipped c) old r new → Performs goes (λ acts. Skips c p acts q) old r new
    skipped_line c p q b old new (Ok u) more is hit h = (Noted (notice.Skipped c) ∷ [], h, λ ok. record { line = ap (λ (x : Bool). skip_acts x c) (sym (shows_alike p q more ∙ is ∙ hit)); counted = more })
    skipped_line c p q b old new (Err e) more is hit h = ([], h, λ ok. no ok)

    pub skipped_silently : (c : Code) (p q : Agency R) (b : Bool) (x : X) → goes x [] x → q ≡ record p { skips = p.skips + 1 } → q.shows_skips ≡ b → b ≡ false → (r : Result (Unit {0}) NoMemory) → Performs goes (λ acts. Skips c p acts q) x r x
    skipped_silently c p q b x stays more is miss r = ([], stays, λ ok. record { line = ap (λ (y : Bool). skip_acts y c) (sym (shows_alike p q more ∙ is ∙ miss)); counted = more })

    -- an operation, whatever it is answered
    pub did : (op : Operation) (p : Agency R) (old new : X) (t : Tried) (r : Result (Unit {0}) NoMemory) → Tries goes [] op old (Ok t) new → Performs goes (λ acts. Plays told Any (do_op op) p acts p) old r new
    did op p old new tried.Done r h = (Did [] op (shown_of h.0) ∷ [], h.1, λ ok. op_then told [] op nothing_more (shown_of h.0) p p [] (nothing told Any p))
    did op p old new (tried.Refused c) r h = (Did [] op (shown.Refused c) ∷ [], h, λ ok. op_then told [] op nothing_more (shown.Refused c) p p [] (nothing told Any p))
    did op p old new tried.Device r h = (Failed [] op ∷ [], h, λ ok. op_failed told [] op nothing_more p)

    -- bytes
    module _ (key : Key) (at : ℕ) (bytes : List ℕ) where
      after_done : (o : Outcome) (p : Agency R) → Plays told Any (after_transfer key (span_at at (length bytes)) (shown_of o)) p [] p
      after_done outcome.Done p = nothing told Any p
      after_done (outcome.Data given) p = nothing told Any p

      pub transferred : (p : Agency R) (old new : X) (t : Tried) (r : Result (Unit {0}) NoMemory) → Tries goes [] (operation.Transfer key at bytes) old (Ok t) new → t ≡ tried.Done → Performs goes (λ acts. Plays told Any (take_bytes key at bytes) p acts p) old r new
      transferred p old new t r h is =
          let d : Tries goes [] (operation.Transfer key at bytes) old (Ok tried.Done) new = subst (λ (x : Tried). Tries goes [] (operation.Transfer key at bytes) old (Ok x) new) is h in
          (Did [] (operation.Transfer key at bytes) (shown_of d.0) ∷ [], d.1, λ ok. op_then told [] (operation.Transfer key at bytes) (after_transfer key (span_at at (length bytes))) (shown_of d.0) p p [] (after_done d.0 p))

      pub cut_off : (p : Agency R) (old new : X) (t : Tried) (r : Result (Unit {0}) NoMemory) → Tries goes [] (operation.Transfer key at bytes) old (Ok t) new → t ≡ tried.Device → Performs goes (λ acts. Plays told Any (take_bytes key at bytes) p acts p) old r new
      cut_off p old new t r h is =
          (Failed [] (operation.Transfer key at bytes) ∷ [], subst (λ (x : Tried). Tries goes [] (operation.Transfer key at bytes) old (Ok x) new) is h, λ ok. op_failed told [] (operation.Transfer key at bytes) (after_transfer key (span_at at (length bytes))) p)

      module _ (on : (p q r : X) (acts more : List Act) → goes p acts q → goes q more r → goes p (acts ++ more) r) where
        pub not_transferred : (c : Code) (l : List ℕ) (p q : Agency R) (old mid new : X) (t : Tried) (r : Result (Unit {0}) NoMemory) → Tries goes [] (operation.Transfer key at bytes) old (Ok t) mid → t ≡ tried.Refused c → l ≡ bytes
            → Performs goes (λ acts. Plays told Any (after_transfer key (span_at at (length l)) (shown.Refused c)) p acts q) mid r new → Performs goes (λ acts. Plays told Any (take_bytes key at bytes) p acts q) old r new
        not_transferred c l p q old mid new t r h is same more =
            let d : goes old (Did [] (operation.Transfer key at bytes) (shown.Refused c) ∷ []) mid = subst (λ (x : Tried). Tries goes [] (operation.Transfer key at bytes) old (Ok x) mid) is h in (
              Did [] (operation.Transfer key at bytes) (shown.Refused c) ∷ more.0,
              on old mid new (Did [] (operation.Transfer key at bytes) (shown.Refused c) ∷ []) more.0 d more.1,
              λ ok. op_then told [] (operation.Transfer key at bytes) (after_transfer key (span_at at (length bytes))) (shown.Refused c) p q more.0
                  (subst (λ (x : List ℕ). Plays told Any (after_transfer key (span_at at (length x)) (shown.Refused c)) p more.0 q) same (more.2 ok)),
            )

    -- by the code of a refusal

    pub as_part : (f g : Arrow State (Unit {0})) (p q : Agency R) (old new : X) (r : Result (Unit {0}) NoMemory) → g ≡ f → Performs goes (λ acts. Plays told Any f p acts q) old r new → Performs goes (λ acts. Plays told Any g p acts q) old r new
    as_part f g p q old new r same h = subst (λ (x : Arrow State (Unit {0})). Performs goes (λ acts. Plays told Any x p acts q) old r new) (sym same) h

    pub as_skip : (c : Code) (g : Arrow State (Unit {0})) (p q : Agency R) (old new : X) (r : Result (Unit {0}) NoMemory) → g ≡ skip c → Performs goes (λ acts. Skips c p acts q) old r new → Performs goes (λ acts. Plays told Any g p acts q) old r new
    as_skip c g p q old new r same h = (h.0, h.1, λ ok. subst (λ (x : Arrow State (Unit {0})). Plays told Any x p h.0 q) (sym same) (skips told c p q h.0 (h.2 ok)))

    pub no_part : (g : Arrow State (Unit {0})) (p : Agency R) (x : X) (r : Result (Unit {0}) NoMemory) → g ≡ ret unit → goes x [] x → Performs goes (λ acts. Plays told Any g p acts p) x r x
    no_part g p x r same stays = ([], stays, λ ok. subst (λ (y : Arrow State (Unit {0})). Plays told Any y p [] p) (sym same) (nothing told Any p))

    module _ (on : (p q r : X) (acts more : List Act) → goes p acts q → goes q more r → goes p (acts ++ more) r) where
      pub refused_for : (key : Key) (span : Span) (c : Code) (n : ℕ) (p m q : Agency R) (old mid new : X) (u : Unit {0}) (r : Result (Unit {0}) NoMemory) → n ≡ number_of c → Performs goes (λ acts. Skips c p acts m) old (Ok u) mid
          → Performs goes (λ acts. Plays told Any (do_op (operation.Refuse key span n)) m acts q) mid r new → Performs goes (λ acts. Plays told Any (refuse_for key span c) p acts q) old r new
      refused_for key span c n p m q old mid new u r is h k =
          then_performs on (λ acts. Skips c p acts m) (λ acts. Plays told Any (do_op (operation.Refuse key span n)) m acts q) (λ acts. Plays told Any (refuse_for key span c) p acts q) old mid new u r
          (λ acts more s d. skip_then told (do_op (operation.Refuse key span (number_of c))) c p m q acts more s (subst (λ (x : ℕ). Plays told Any (do_op (operation.Refuse key span x)) m more q) is d)) h k

-- what follows a refused transfer
module _ (key : Key) (span : Span) where
  pub when_refused : (c : Code) → (c ≡ code.Full) ⊎ (c ≡ code.TableFull) → after_transfer key span (shown.Refused c) ≡ refuse_for key span c
  when_refused c (inl e) = subst (λ (d : Code). after_transfer key span (shown.Refused d) ≡ refuse_for key span d) (sym e) refl
  when_refused c (inr e) = subst (λ (d : Code). after_transfer key span (shown.Refused d) ≡ refuse_for key span d) (sym e) refl

  pub when_skipped : (c : Code) → (c ≡ code.TooManyAsks) ⊎ (c ≡ code.Exhausted) → after_transfer key span (shown.Refused c) ≡ skip c
  when_skipped c (inl e) = subst (λ (d : Code). after_transfer key span (shown.Refused d) ≡ skip d) (sym e) refl
  when_skipped c (inr e) = subst (λ (d : Code). after_transfer key span (shown.Refused d) ≡ skip d) (sym e) refl

  pub otherwise : (c : Code) → c ≢ code.Full → c ≢ code.TableFull → c ≢ code.TooManyAsks → c ≢ code.Exhausted → after_transfer key span (shown.Refused c) ≡ ret unit
  otherwise code.Full a b d e = absurd (a refl)
  otherwise code.TableFull a b d e = absurd (b refl)
  otherwise code.TooManyAsks a b d e = absurd (d refl)
  otherwise code.Exhausted a b d e = absurd (e refl)
  otherwise c a b d e = refl
