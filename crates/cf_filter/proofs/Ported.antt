-- What operations and notes of a provider do to a filter.
use Rattle.std.proofs.Common.{◌≡◌, Bool, true, false, List, [], ◌∷◌, ◌++◌, refl, sym, ◌∙◌, ap, subst, append-nil}
use Rattle.std.specs.Prelude.{Result, Ok, Err}
use Rattle.std.specs.Result.{IsErrAnd}
use Rattle.std.proofs.lemmas.Result.{err_from_is_err_and}
use Rattle.cf_base.specs.declared.answers.Shown.{Shown}
use Rattle.cf_base.specs.declared.answers.Shown.TheVariants as shown
use Rattle.cf_base.specs.declared.codes.Code.{Code}
use Rattle.cf_base.specs.declared.codes.Code.TheVariants as code
use Rattle.cf_base.specs.declared.codes.CallError.{CallError}
use Rattle.cf_base.specs.declared.codes.CallError.TheVariants.{No, OutOfMemory}
use Rattle.cf_base.specs.declared.items.SeenPath.{SeenPath}
use Rattle.cf_base.specs.declared.notices.Notice.{Notice}
use Rattle.cf_base.specs.declared.operations.Operation.{Operation}
use Rattle.cf_disk.specs.Disk.{State}
use Rattle.cf_provider.specs.Acting.{Executes, refused_by, shown_of}
use Rattle.cf_provider.specs.declared.outcomes.Outcome.{Outcome}
use Rattle.cf_filter.proofs.Called.{lasts_after}
use Rattle.cf_filter_machine.proofs.DeskSteps.{stands_with}
use Rattle.cf_filter_machine.proofs.GoodSteps.{same_good}
use Rattle.cf_filter.specs.Calling.{Takes, Told, stopped_by}
use Rattle.cf_filter_desk.specs.Desks.{Desk}
use Rattle.cf_filter_machine.specs.Held.{Held}
use Rattle.cf_filter.specs.PortLaws.{false_true, goes_nowhere}
use Rattle.cf_filter.specs.Porting.{Goes, GoneTo}
use Rattle.cf_filter_machine.specs.Sensing.{sense}
use Rattle.cf_model.specs.Arrows.{is_device}
use Rattle.cf_model.specs.Operations.{execute_with}
use Rattle.cf_model.specs.Ports.{Act, Did, Failed, Noted, seeing}
use Rattle.cf_model.specs.State.{with_notes}
use Rattle.cf_filter_steps.specs.Answering.{Answers, Any}

module _ {D : Type 0} (state : D → State) where
  pub noted_goes : (x y : Held D) (n : Notice) → y ≡ record x { desk = record x.desk { notes = x.desk.notes ++ n ∷ [] } } → Goes state x (Noted n ∷ []) y
  noted_goes x y n e = subst (λ (z : Held D). Goes state x (Noted n ∷ []) z) (sym e) (record {
    leads = λ s h. (
      with_notes (n ∷ []) s,
      (sense state).stays x s h,
      subst (λ (b : Bool). GoneTo state b x.desk.lost (Noted n ∷ []) x s (record x { desk = record x.desk { notes = x.desk.notes ++ n ∷ [] } }) (with_notes (n ∷ []) s)) (sym (ap (λ (d : Desk). d.broken) h.desk))
          (refl, record {}, stands_with state x (record x.desk { notes = x.desk.notes ++ n ∷ [] }) s (with_notes (n ∷ []) s) h refl (ap (λ (d : Desk). record d { notes = d.notes ++ n ∷ [] }) h.desk) (same_good s (with_notes (n ∷ []) s) refl refl refl h.good)),
    );
    still = λ broken. record { broken = broken; disk = refl; known = refl; lost = λ lost. lost; desk = λ lost. refl };
  })

  refused_goes : (x : Held D) (seen : List SeenPath) (op : Operation) → x.desk.broken ≡ true → Goes state x (Did seen op (shown.Refused code.Broken) ∷ []) x
  refused_goes x seen op is = record {
    leads = λ s h. false_true (sym (ap (λ (d : Desk). d.broken) h.desk) ∙ is);
    still = λ broken. record { broken = broken; disk = refl; known = refl; lost = λ lost. lost; desk = λ lost. ap (λ (l : List Notice). record x.desk { notes = l }) (sym (append-nil x.desk.notes)) };
  }

  pub did_goes : (x y : Held D) (seen : List SeenPath) (op : Operation) (answer : Shown) → x.desk.broken ≡ false → Answers (sense state) Any (execute_with (seeing seen) op) x (Ok answer) y → Goes state x (Did seen op answer ∷ []) y
  did_goes x y seen op answer whole e = record {
    leads = λ s h. let a = e.leads s h (record {}) in (a.0, a.2, subst (λ (b : Bool). GoneTo state b y.desk.lost (Did seen op answer ∷ []) x s y a.0) (sym (ap (λ (d : Desk). d.broken) a.3.desk)) ((a.0, a.1, refl), record {}, a.3));
    still = λ broken. false_true (sym whole ∙ broken);
  }

  -- a code that is not Device refuses
  pub not_device : (seen : List SeenPath) (op : Operation) (c : Code) → is_device c ≡ false → refused_by seen op c ≡ Did seen op (shown.Refused c)
  not_device seen op code.Device h = false_true (sym h)
  not_device seen op c h = refl

  stopped_goes : (x mid : Held D) (seen : List SeenPath) (op : Operation) → x.desk.broken ≡ false → Answers (sense state) Any (execute_with (seeing seen) op) x (Err (No code.Device)) mid → Goes state x (Failed seen op ∷ []) (stopped_by false mid)
  unfolding stopped_by
  stopped_goes x mid seen op whole e = record {
    leads = λ s h. let a = e.leads s h (record {}) in (a.0, a.2, ((a.0, a.1.1, refl), record {}, record { notes = a.3.0.notes; policy = a.3.0.policy; connected = a.3.0.connected; shows = a.3.0.shows; lasts = a.3.0.lasts }, a.3.1));
    still = λ broken. false_true (sym whole ∙ broken);
  }

  pub failed_goes : (x mid y : Held D) (seen : List SeenPath) (op : Operation) (c : Code) → x.desk.broken ≡ false → Answers (sense state) Any (execute_with (seeing seen) op) x (Err (No c)) mid → y ≡ stopped_by false mid → Goes state x (refused_by seen op c ∷ []) y
  failed_goes x mid y seen op c whole e is = subst (λ (z : Held D). Goes state x (refused_by seen op c ∷ []) z) (sym is) (record {
    leads = λ s h. let d = (e.leads s h (record {})).1.0 in (subst (λ (k : Code). Goes state x (refused_by seen op k ∷ []) (stopped_by false mid)) (sym d) (stopped_goes x mid seen op whole (subst (λ (k : Code). Answers (sense state) Any (execute_with (seeing seen) op) x (Err (No k)) mid) d e))).leads s h;
    still = λ broken. false_true (sym whole ∙ broken);
  })

  lost_goes : (x mid : Held D) (seen : List SeenPath) (op : Operation) (p : Result Shown CallError) → x.desk.broken ≡ false → Answers (sense state) Any (execute_with (seeing seen) op) x p mid → Goes state x [] (stopped_by true mid)
  unfolding stopped_by
  lost_goes x mid seen op p whole e = record {
    leads = λ s h. let a = e.leads s h (record {}) in (a.0, a.2, lasts_after state p x mid a.0 a.3);
    still = λ broken. false_true (sym whole ∙ broken);
  }

  pub lost_by : (x mid y : Held D) (seen : List SeenPath) (op : Operation) (p : Result Shown CallError) → x.desk.broken ≡ false → Answers (sense state) Any (execute_with (seeing seen) op) x p mid → y ≡ stopped_by true mid → Goes state x [] y
  lost_by x mid y seen op p whole e is = subst (λ (z : Held D). Goes state x [] z) (sym is) (lost_goes x mid seen op p whole e)

  loses : (x : Held D) → Goes state x [] (stopped_by true x)
  unfolding stopped_by
  loses x = record {
    leads = λ s h. (s, (sense state).stays x s h, (sense state).endures x s h);
    still = λ broken. record { broken = refl; disk = refl; known = refl; lost = λ lost. refl; desk = λ kept. false_true (sym kept) };
  }

  pub lost_note : (x mid y : Held D) → mid ≡ x → y ≡ stopped_by true mid → Goes state x [] y
  lost_note x mid y same is = subst (λ (z : Held D). Goes state x [] z) (sym (is ∙ ap (stopped_by true) same)) (loses x)

  pub refused_as : (x y : Held D) (seen : List SeenPath) (op : Operation) → x.desk.broken ≡ true → y ≡ x → Goes state x (refused_by seen op code.Broken ∷ []) y
  refused_as x y seen op is same = subst (λ (z : Held D). Goes state x (Did seen op (shown.Refused code.Broken) ∷ []) z) (sym same) (refused_goes x seen op is)

  -- by what the operation gave

  pub did_as : (x y : Held D) (seen : List SeenPath) (op : Operation) (o : Outcome) (p : Result Shown CallError) (q : Told Outcome) (r : Result Outcome Code) → x.desk.broken ≡ false → Answers (sense state) Any (execute_with (seeing seen) op) x p y
      → Takes shown_of p q → q ≡ Ok r → r ≡ Ok o → Goes state x (Did seen op (shown_of o) ∷ []) y
  did_as x y seen op o p q r whole e takes is gives =
      did_goes x y seen op (shown_of o) whole (subst (λ (a : Result Shown CallError). Answers (sense state) Any (execute_with (seeing seen) op) x a y) (subst (λ (t : Told Outcome). Takes shown_of p t) (is ∙ ap (λ (t : Result Outcome Code). Ok t) gives) takes) e)

  pub refused_on : (x y : Held D) (seen : List SeenPath) (op : Operation) (c : Code) (p : Result Shown CallError) (q : Told Outcome) (r : Result Outcome Code) → is_device c ≡ false → x.desk.broken ≡ false → Answers (sense state) Any (execute_with (seeing seen) op) x p y
      → Takes shown_of p q → q ≡ Ok r → r ≡ Err c → Goes state x (refused_by seen op c ∷ []) y
  refused_on x y seen op c p q r other whole e takes is gives =
      subst (λ (a : Act). Goes state x (a ∷ []) y) (sym (not_device seen op c other))
      (did_goes x y seen op (shown.Refused c) whole (subst (λ (a : Result Shown CallError). Answers (sense state) Any (execute_with (seeing seen) op) x a y) (subst (λ (t : Told Outcome). Takes shown_of p t) (is ∙ ap (λ (t : Result Outcome Code). Ok t) gives) takes) e))

  pub failed_on : (x mid y : Held D) (seen : List SeenPath) (op : Operation) (c : Code) (p : Result Shown CallError) (q : Told Outcome) (f : CallError) → x.desk.broken ≡ false → Answers (sense state) Any (execute_with (seeing seen) op) x p mid
      → Takes shown_of p q → q ≡ Err f → f ≡ No c → y ≡ stopped_by false mid → Goes state x (refused_by seen op c ∷ []) y
  failed_on x mid y seen op c p q f whole e takes is gives stops =
      failed_goes x mid y seen op c whole (subst (λ (a : Result Shown CallError). Answers (sense state) Any (execute_with (seeing seen) op) x a mid) (subst (λ (t : Told Outcome). Takes shown_of p t) (is ∙ ap (λ (t : CallError). Err t) gives) takes) e) stops

  -- without memory for the records of the paths nothing is done
  pub not_begun : (x : Held D) (seen : List SeenPath) (op : Operation) (r : Result Outcome CallError) → IsErrAnd r (λ y. y ≡ OutOfMemory) → Executes (Goes state) seen op x r x
  not_begun x seen op r is =
      let e = err_from_is_err_and r is in
      subst (λ (o : Result Outcome CallError). Executes (Goes state) seen op x o x) (sym (e.1 ∙ ap (λ (z : CallError). Err z) e.2)) (goes_nowhere state x)
