-- Operations inside a callback, one after the other.
use Rattle.std.proofs.Common.{◌≡◌, Bool, true, false, cond, List, [], ◌∷◌, ◌++◌, Option, Some, None, inl, inr, refl, sym, ◌∙◌, ap, subst, append-nil, append_assoc}
use Rattle.std.specs.Prelude.{Result, Ok, Err, is_ok, unwrap_or}
use Rattle.std.specs.Result.{IsErrAnd}
use Rattle.std.proofs.lemmas.Result.{err_from_is_err_and}
use Rattle.cf_base.specs.declared.answers.Shown.{Shown}
use Rattle.cf_base.specs.declared.answers.Shown.TheVariants as shown
use Rattle.cf_base.specs.declared.codes.Code.{Code}
use Rattle.cf_base.specs.declared.codes.Code.TheVariants as code
use Rattle.cf_base.specs.declared.codes.CallError.{CallError}
use Rattle.cf_base.specs.declared.codes.CallError.TheVariants.{No, OutOfMemory}
use Rattle.cf_base.specs.declared.ids.Key.{Key}
use Rattle.cf_base.specs.declared.memory.OutOfMemory.{OutOfMemory as NoMemory}
use Rattle.cf_base.specs.declared.notices.Notice.{Notice}
use Rattle.cf_base.specs.declared.notices.Notice.TheVariants as notice
use Rattle.cf_base.specs.declared.notices.OperationAnswer.{OperationAnswer}
use Rattle.cf_base.specs.declared.notices.OperationAnswer.TheVariants as operation_answer
use Rattle.cf_base.specs.declared.operations.Operation.{Operation}
use Rattle.cf_provider.specs.Acting.{Executes, Notes, refused_by, shown_of}
use Rattle.cf_provider.specs.Sights.{Sight}
use Rattle.cf_provider.specs.declared.outcomes.Callback.{Callback}
use Rattle.cf_provider.specs.declared.outcomes.Outcome.{Outcome}
use Rattle.cf_model.specs.Arrows.{is_device}
use Rattle.cf_model.specs.Callbacks.{operation_line, planned_on}
use Rattle.cf_model.specs.Ports.{Act, Did, Failed, Noted}
use Rattle.cf_provider_script.specs.Lines.{Answers, Carries, CarriesOut, HasCarried, Lines, line_of}

some_none : {A B : Type 0} {a : A} → Some a ≡ None → B
some_none e = let bad : ⊥ = cc in absurd bad

none_some : {A B : Type 0} {a : A} → None ≡ Some a → B
none_some e = let bad : ⊥ = cc in absurd bad

same_some : (a b : OperationAnswer) → Some a ≡ Some b → a ≡ b
same_some a b e = ap (λ (o : Option OperationAnswer). unwrap_or o a) e

refused_is : (op : Operation) (c : Code) → refused_by [] op c ≡ cond (is_device c) (Failed [] op) (Did [] op (shown.Refused c))
refused_is op code.Device = refl
refused_is op c = refl

module _ {X : Type 0} (goes : X → List Act → X → Type 0) where
  -- an operation

  -- memory ran out
  pub not_done : (op : Operation) (old new : X) (told : Result Outcome CallError) (e : NoMemory) (r : Result Bool NoMemory) → Executes goes [] op old told new → Lines told (Err e) → IsErrAnd r (λ y. y ≡ e) → Carries goes op old r new
  not_done op old new (Ok o) e r h lines is = absurd lines
  not_done op old new (Err (No c)) e r h lines is = absurd lines
  not_done op old new (Err OutOfMemory) e r h lines is = let p = err_from_is_err_and r is in subst (λ (o : Result Bool NoMemory). Carries goes op old o new) (sym p.1) ([], record {}, h)

  pub met_device : (op : Operation) (old new : X) (told : Result Outcome CallError) (line : Option OperationAnswer) → Executes goes [] op old told new → Lines told (Ok line) → line ≡ None → goes old (Failed [] op ∷ []) new
  met_device op old new (Ok o) line h is none = some_none (sym is ∙ none)
  met_device op old new (Err (No c)) line h is none = by (is_device c) (subst (λ (a : Act). goes old (a ∷ []) new) (refused_is op c) h) (sym is ∙ none)
    where
      by : (b : Bool) → goes old (cond b (Failed [] op) (Did [] op (shown.Refused c)) ∷ []) new → cond b None (Some (operation_answer.Refused c)) ≡ None → goes old (Failed [] op ∷ []) new
      by true g e = g
      by false g e = some_none e
  met_device op old new (Err OutOfMemory) line h is none = absurd is

  -- an operation that has a line
  was_told : (op : Operation) (old new : X) (told : Result Outcome CallError) (line : Option OperationAnswer) (a : OperationAnswer) → Executes goes [] op old told new → Lines told (Ok line) → line ≡ Some a
      → (answer : Shown) × (operation_line answer ≡ a) × goes old (Did [] op answer ∷ []) new
  was_told op old new (Ok o) line a h is some = (shown_of o, same_some (operation_line (shown_of o)) a (sym is ∙ some), h)
  was_told op old new (Err (No c)) line a h is some = by (is_device c) (subst (λ (x : Act). goes old (x ∷ []) new) (refused_is op c) h) (sym is ∙ some)
    where
      by : (b : Bool) → goes old (cond b (Failed [] op) (Did [] op (shown.Refused c)) ∷ []) new → cond b None (Some (operation_answer.Refused c)) ≡ Some a → (answer : Shown) × (operation_line answer ≡ a) × goes old (Did [] op answer ∷ []) new
      by true g e = none_some e
      by false g e = (shown.Refused c, same_some (operation_answer.Refused c) a e, g)
  was_told op old new (Err OutOfMemory) line a h is some = absurd is

  carries_as : (op other : Operation) (b w : Bool) (old new : X) → op ≡ other → b ≡ w → Carries goes op old (Ok b) new → Carries goes other old (Ok w) new
  carries_as op other b w old new same is h = subst (λ (o : Operation). Carries goes o old (Ok w) new) same (subst (λ (x : Bool). Carries goes op old (Ok x) new) is h)

  module _ (on : (p q r : X) (acts more : List Act) → goes p acts q → goes q more r → goes p (acts ++ more) r) where
    pub was_done : (op : Operation) (old mid new : X) (told : Result Outcome CallError) (line : Option OperationAnswer) (a : OperationAnswer) → Executes goes [] op old told mid → Lines told (Ok line) → line ≡ Some a
        → goes mid (Noted (notice.Operation a) ∷ []) new → (answer : Shown) × goes old (Did [] op answer ∷ Noted (line_of answer) ∷ []) new
    was_done op old mid new told line a h is some noted =
        let t = was_told op old mid told line a h is some in
        (t.0, on old mid new (Did [] op t.0 ∷ []) (Noted (line_of t.0) ∷ []) t.2 (subst (λ (z : OperationAnswer). goes mid (Noted (notice.Operation z) ∷ []) new) (sym t.1) noted))

    pub no_line : (op : Operation) (old mid new : X) (told : Result Outcome CallError) (line : Option OperationAnswer) (a : OperationAnswer) (n : Notice) (e : NoMemory) (r : Result Bool NoMemory) → Executes goes [] op old told mid → Lines told (Ok line)
        → line ≡ Some a → Notes goes n mid (Err e) new → IsErrAnd r (λ y. y ≡ e) → Carries goes op old r new
    no_line op old mid new told line a n e r h is some noted err =
        let p = err_from_is_err_and r err in let t = was_told op old mid told line a h is some in
        subst (λ (o : Result Bool NoMemory). Carries goes op old o new) (sym p.1) (Did [] op t.0 ∷ [], (refl, refl), on old mid new (Did [] op t.0 ∷ []) [] t.2 noted)

    -- a plan

    module _ (own : Key) (plan : List (Bool × Operation)) (first : X) where
      pub carried_more : (p : Bool × Operation) (op : Operation) (b : Bool) (before rest : List (Bool × Operation)) (mid new : X) → HasCarried goes own plan first before mid → before ≡ p ∷ rest → op ≡ planned_on own p → b ≡ true → Carries goes op mid (Ok b) new
          → HasCarried goes own plan first rest new
      unfolding CarriesOut
      carried_more p op b before rest mid new h is same hit does =
          let c : Carries goes (planned_on own p) mid (Ok true) new = carries_as op (planned_on own p) b true mid new same hit does in
          let two : List Act = Did [] (planned_on own p) c.0 ∷ Noted (line_of c.0) ∷ [] in
          record {
            acts = h.acts ++ two;
            did = on first mid new h.acts two h.did c.1;
            leads = λ more k. subst (λ (l : List Act). CarriesOut own plan l) (sym (append_assoc h.acts two more)) (h.leads (Did [] (planned_on own p) c.0 ∷ Noted (line_of c.0) ∷ more) (subst (λ (l : List (Bool × Operation)). CarriesOut own l (Did [] (planned_on own p) c.0 ∷ Noted (line_of c.0) ∷ more)) (sym is) (inr (c.0, more, refl, k))));
          }

      -- the last met the device
      pub carried_cut : (sight : Sight) (call : Callback) (p : Bool × Operation) (op : Operation) (b : Bool) (before rest left : List (Bool × Operation)) (mid new : X) → call.ask.key ≡ own → HasCarried goes own plan first before mid → before ≡ p ∷ rest → op ≡ planned_on own p → b ≡ false
          → Carries goes op mid (Ok b) new → left ≡ []
          → (acts : List Act) × goes first acts new × (is_ok {T = Unit {0}} {E = NoMemory} (Ok (record {})) ≡ true → Answers plan sight call acts left)
      unfolding CarriesOut
      carried_cut sight call p op b before rest left mid new key h is same miss does none =
          let c : Carries goes (planned_on own p) mid (Ok false) new = carries_as op (planned_on own p) b false mid new same miss does in
          let one : List Act = Failed [] (planned_on own p) ∷ [] in
          (h.acts ++ one, on first mid new h.acts one h.did c, λ ok. (subst (λ (k : Key). CarriesOut k plan (h.acts ++ one)) (sym key) (h.leads one (subst (λ (l : List (Bool × Operation)). CarriesOut own l one) (sym is) (inl refl))), none))

      pub carried_all : (sight : Sight) (call : Callback) (before left : List (Bool × Operation)) (new : X) → call.ask.key ≡ own → HasCarried goes own plan first before new → before ≡ [] → left ≡ []
          → (acts : List Act) × goes first acts new × (is_ok {T = Unit {0}} {E = NoMemory} (Ok (record {})) ≡ true → Answers plan sight call acts left)
      unfolding CarriesOut
      carried_all sight call before left new key h is none =
          (h.acts, h.did, λ ok. (subst (λ (k : Key). CarriesOut k plan h.acts) (sym key) (subst (λ (l : List Act). CarriesOut own plan l) (append-nil h.acts) (h.leads [] (subst (λ (l : List (Bool × Operation)). CarriesOut own l []) (sym is) refl))), none))

      -- memory ran out
      pub carried_out_of : (op : Operation) (sight : Sight) (call : Callback) (before left : List (Bool × Operation)) (mid new : X) (e : NoMemory) (r : Result (Unit {0}) NoMemory) → HasCarried goes own plan first before mid → Carries goes op mid (Err e) new → IsErrAnd r (λ y. y ≡ e)
          → (acts : List Act) × goes first acts new × (is_ok r ≡ true → Answers plan sight call acts left)
      carried_out_of op sight call before left mid new e r h c is =
          let p = err_from_is_err_and r is in
          (h.acts ++ c.0, on first mid new h.acts c.0 h.did c.2, λ ok. let no : false ≡ true = ap is_ok (sym p.1) ∙ ok in let bad : ⊥ = cc in absurd bad)

      pub carried_none : (stays : (p : X) → goes p [] p) → HasCarried goes own plan first plan first
      carried_none stays = record { acts = []; did = stays first; leads = λ more k. k }
