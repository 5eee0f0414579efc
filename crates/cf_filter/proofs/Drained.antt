-- Callbacks one after the other, and the calls that end with them.
use Rattle.std.proofs.Common.{◌≡◌, ◌+◌, ◌≤◌, ℕ, Bool, true, false, List, [], ◌∷◌, Option, Some, None, inl, inr, refl, sym, ◌∙◌, ap, subst, arith}
use Rattle.std.specs.Prelude.{Result, Ok, Err, is_ok, unwrap_or}
use Rattle.std.specs.Result.{IsErrAnd}
use Rattle.std.proofs.lemmas.Result.{err_from_is_err_and}
use Rattle.cf_base.specs.declared.answers.Shown.{Shown}
use Rattle.cf_base.specs.declared.answers.Shown.TheVariants as shown
use Rattle.cf_base.specs.declared.codes.CallError.{CallError}
use Rattle.cf_base.specs.declared.codes.CallError.TheVariants.{No, OutOfMemory}
use Rattle.cf_base.specs.declared.memory.OutOfMemory.{OutOfMemory as NoMemory}
use Rattle.cf_base.specs.declared.waits.Ask.{Ask}
use Rattle.cf_disk.specs.Disk.{State}
use Rattle.cf_provider.specs.Sights.{Shows, callback_of, identity_of}
use Rattle.cf_provider.specs.declared.outcomes.Callback.{Callback}
use Rattle.cf_filter_machine.proofs.DeskSteps.{stands_with}
use Rattle.cf_filter_machine.proofs.GoodSteps.{same_good}
use Rattle.cf_filter_machine.proofs.Seen.{seen_gone, seen_there}
use Rattle.cf_engine_host.specs.Callbacks.{Answering, AnswersOn, CutOff, NoneFailed}
use Rattle.cf_engine_host.specs.Draining.{DrainedTo, DrainsBy}
use Rattle.cf_filter.specs.Draining.{CallsTo, Drains, DrainsTo, PartTo, TurnTo, Turns}
use Rattle.cf_filter_desk.specs.Desks.{Desk}
use Rattle.cf_filter_machine.specs.Held.{Held}
use Rattle.cf_filter_machine.specs.Lasting.{Moved}
use Rattle.cf_filter.specs.PortLaws.{false_true, gone_lasts}
use Rattle.cf_filter.specs.Porting.{Goes, GoneTo, sight_of}
use Rattle.cf_filter_machine.specs.Sensing.{Rose, Stands, rose_on, sense}
use Rattle.cf_filter.specs.Turning.{IsTurned, shows_end, with_no_own}
use Rattle.cf_model.specs.Arrows.{Arrow}
use Rattle.cf_model.specs.Callbacks.{begin_call, finish, result_of}
use Rattle.cf_model.specs.Items.{base_of}
use Rattle.cf_model.specs.Numbers.{most}
use Rattle.cf_model.specs.Ports.{Act, Acts, with_rest}
use Rattle.cf_model.specs.State.{Filter}
use Rattle.cf_model.specs.Words.{part}
use Rattle.cf_volume_points.proofs.KeptSound.{means_all}
use Rattle.cf_volume.specs.Calls.{Runs}
use Rattle.cf_volume_points.specs.Standing.{cluster_on}
use Rattle.cf_filter_steps.specs.Answering.{Answers, Any, Reads}
use Rattle.cf_table.specs.Tables.{row_of}
use Rattle.cf_table.specs.declared.rows.Row.{Row}

-- the question is that of the item as its row means it
pub callback_there : {D : Type 0} (state : D → State) (x : Held D) (ask : Ask) (row : Row) (call : Callback) → row_of x.known.table.rows ask.item ≡ Some row
    → call ≡ record { ask = ask; identity = row.identity; base = unwrap_or row.base 0 } → Reads (sense state) Any (callback_of ask) x call
callback_there state x ask row call there is = record {
  is = λ s h q.
      let b = seen_there state x s h ask.item row there in
      let i = b.2.identity ∙ ap (part identity_of []) (sym b.1) in
      let n = ap (λ (o : Option ℕ). unwrap_or o 0) b.2.base ∙ ap (part base_of 0) (sym b.1) in
      is ∙ (λ j. record { ask = ask; identity = i j; base = n j });
}

pub callback_none : {D : Type 0} (state : D → State) (x : Held D) (ask : Ask) (call : Callback) → row_of x.known.table.rows ask.item ≡ None → call ≡ record { ask = ask; identity = []; base = 0 } → Reads (sense state) Any (callback_of ask) x call
callback_none state x ask call gone is = record {
  is = λ s h q.
      let e = seen_gone state x s h ask.item gone in
      let i = ap (part identity_of []) (sym e) in
      let n = ap (part base_of 0) (sym e) in
      is ∙ (λ j. record { ask = ask; identity = i j; base = n j });
}

-- what a provider sees shows each state that the filter stands for
sight_shows : {D : Type 0} (state : D → State) (x : Held D) (s : Filter) → Stands state x s → Shows (sight_of x) s
sight_shows state x s h = record {
  rows = means_all (cluster_on (state x.disk).seen) s.volume.book x.known.table.rows s.volume.items h.volume.now.rows;
  next = h.volume.now.next;
  waiting = ap (λ (d : Desk). d.waiting) h.desk;
  records = h.volume.now.records;
}

-- the end of a call

pub result_shown : (a : Shown) (t : Filter) → shows_end a t.ending ≡ result_of a t
result_shown (shown.Pending id) t = refl
result_shown a t = refl

module _ {D : Type 0} (state : D → State) where
  over : (x : Held D) (t : Filter) → Stands state x t → Stands state (with_no_own x) (begin_call t)
  unfolding with_no_own
  over x t h = stands_with state x (record x.desk { own = None; ending = None }) t (begin_call t) h refl (ap (λ (d : Desk). record d { own = None; ending = None }) h.desk) (same_good t (begin_call t) refl refl refl h.good)

  over_moved : (x y : Held D) (s t : Filter) → Moved (state x.disk) (state y.disk) s.volume t.volume → Moved (state x.disk) (state (with_no_own y).disk) s.volume t.volume
  unfolding with_no_own
  over_moved x y s t m = m

  pub call_ended : (a b : Shown) (x z : Held D) → b ≡ shows_end a x.desk.ending → z ≡ with_no_own x → Answers (sense state) Any (finish a) x (Ok b) z
  call_ended a b x z shows is = subst (λ (w : Held D). Answers (sense state) Any (finish a) x (Ok b) w) (sym is) (record {
    leads = λ s h p. (begin_call s, (shows ∙ ap (λ (k : Desk). shows_end a k.ending) h.desk ∙ result_shown a s, refl), over_moved x x s s ((sense state).stays x s h), over x s h);
  })

module _ {D P : Type 0} (state : D → State) (answers : Answering P) where
  -- one callback

  answers_on : (ask : Ask) (p q : P) (x : Held D) (call : Callback) (acts : List Act) (s : Filter) → Stands state x s → call ≡ callback_of ask s → answers p (sight_of x) call acts q → AnswersOn answers ask p s acts q
  answers_on ask p q x call acts s stands same gives = record { seen = sight_of x; shows = sight_shows state x s stands; good = stands.good; keeps = stands.kept.book.fits; gives = subst (λ (k : Callback). answers p (sight_of x) k acts q) same gives }

  turn_to : (ask : Ask) (p q : P) (x y : Held D) (call : Callback) (told : Result (Unit {0}) NoMemory) (r : Result (Unit {0}) CallError) (acts : List Act) (s t : Filter) (broken lost : Bool)
      → Stands state x s → call ≡ callback_of ask s → (is_ok told ≡ true → answers p (sight_of x) call acts q) → IsTurned told broken lost r → GoneTo state broken lost acts x s y t → TurnTo state answers ask p x s r q y t
  turn_to ask p q x y call told (Ok u) acts s t false lost stands same gives turned gone =
      (acts, gone.0, gone.1, answers_on ask p q x call acts s stands same (gives (ap is_ok turned.0)), gone.2)
  turn_to ask p q x y call told (Ok u) acts s t true lost stands same gives turned gone = false_true (sym turned.1)
  turn_to ask p q x y call told (Err (No c)) acts s t false lost stands same gives turned gone = false_true turned.1
  turn_to ask p q x y call told (Err (No c)) acts s t true false stands same gives turned gone =
      (turned.3, acts, gone.0, gone.1, answers_on ask p q x call acts s stands same (gives (ap is_ok turned.0)), gone.2, gone.3)
  turn_to ask p q x y call told (Err (No c)) acts s t true true stands same gives turned gone = false_true (sym turned.2)
  turn_to ask p q x y call told (Err OutOfMemory) acts s t broken lost stands same gives turned gone = gone_lasts state broken lost acts x s y t gone

  pub turned_by : (ask : Ask) (p q : P) (x y : Held D) (call : Callback) (told : Result (Unit {0}) NoMemory) (r : Result (Unit {0}) CallError)
      → Reads (sense state) Any (callback_of ask) x call → ((acts : List Act) × Goes state x acts y × (is_ok told ≡ true → answers p (sight_of x) call acts q)) → IsTurned told y.desk.broken y.desk.lost r → Turns state answers ask p x r q y
  turned_by ask p q x y call told r reads does turned = record {
    leads = λ s h. let g = does.1.leads s h in (g.0, g.1, turn_to ask p q x y call told r does.0 s g.0 y.desk.broken y.desk.lost h (reads.is s h (record {})) does.2 turned g.2);
  }

  pub turn_lost : (ask : Ask) (p : P) (x : Held D) (r : Result (Unit {0}) CallError) → IsErrAnd r (λ y. y ≡ OutOfMemory) → Turns state answers ask p x r p x
  turn_lost ask p x r is =
      let e = err_from_is_err_and r is in
      subst (λ (o : Result (Unit {0}) CallError). Turns state answers ask p x o p x) (sym (e.1 ∙ ap (λ (z : CallError). Err z) e.2)) (record { leads = λ s h. (s, (sense state).stays x s h, (sense state).endures x s h) })

  -- all of them

  pub drains_none : (n : ℕ) (p : P) (x y : Held D) → x.desk.outbox ≡ [] → y ≡ x → Drains n state answers p x (Ok (record {})) p y
  drains_none n p x y none same = subst (λ (z : Held D). Drains n state answers p x (Ok (record {})) p z) (sym same) (record {
    leads = λ s h. (s, (sense state).stays x s h, (record { runs = []; few = omega arith; drained = (sym (ap (λ (d : Desk). d.outbox) h.desk) ∙ none, refl, refl) }, h));
  })

  pub drains_out : (n : ℕ) (p : P) (x : Held D) → Drains n state answers p x (Err OutOfMemory) p x
  drains_out n p x = record { leads = λ s h. (s, (sense state).stays x s h, (sense state).endures x s h) }

  wider_to : (m n : ℕ) (p q : P) (x y : Held D) (s t : Filter) (r : Result (Unit {0}) CallError) → m ≤ n → DrainsTo m state answers p x s r q y t → DrainsTo n state answers p x s r q y t
  wider_to m n p q x y s t (Ok u) le h = (record { runs = h.0.runs; few = omega (arith, le, h.0.few); drained = h.0.drained }, h.1)
  wider_to m n p q x y s t (Err (No c)) le h = (h.0, record { runs = h.1.runs; few = omega (arith, le, h.1.few); cut = h.1.cut }, h.2, h.3)
  wider_to m n p q x y s t (Err OutOfMemory) le h = h

  pub drains_wider : (m n : ℕ) (p q : P) (x y : Held D) (r : Result (Unit {0}) CallError) → m ≤ n → Drains m state answers p x r q y → Drains n state answers p x r q y
  drains_wider m n p q x y r le h = record { leads = λ s i. let d = h.leads s i in (d.0, d.1, wider_to m n p q x y s d.0 r le d.2) }

  popped : (x y : Held D) (rest : List Ask) (s : Filter) → y ≡ record x { desk = record x.desk { outbox = rest } } → Stands state x s → Stands state y (with_rest rest s)
  popped x y rest s is h =
      subst (λ (z : Held D). Stands state z (with_rest rest s)) (sym is) (stands_with state x (record x.desk { outbox = rest }) s (with_rest rest s) h refl (ap (λ (d : Desk). record d { outbox = rest }) h.desk) (same_good s (with_rest rest s) refl refl refl h.good))

  popped_moved : (x y z : Held D) (rest : List Ask) (s t : Filter) → y ≡ record x { desk = record x.desk { outbox = rest } } → Moved (state y.disk) (state z.disk) s.volume t.volume → Moved (state x.disk) (state z.disk) s.volume t.volume
  popped_moved x y z rest s t is m = subst (λ (d : D). Moved (state d) (state z.disk) s.volume t.volume) (ap (λ (w : Held D). w.disk) is) m

  cut_more : (p : P) (s mid : Filter) (ask : Ask) (rest : List Ask) (acts : List Act) (after q : P) (t : Filter) (runs : List (List Act)) → s.outbox ≡ ask ∷ rest → Acts (with_rest rest s) acts mid → NoneFailed acts
      → AnswersOn answers ask p (with_rest rest s) acts after → CutOff answers after mid runs q t → CutOff answers p s (acts ∷ runs) q t
  cut_more p s mid ask rest acts after q t [] out does none gives cut = absurd cut
  cut_more p s mid ask rest acts after q t (next ∷ more) out does none gives cut = (ask, rest, out, mid, does, none, after, gives, cut)

  drains_on : (n : ℕ) (p after q : P) (x next y z : Held D) (ask : Ask) (rest : List Ask) (s mid t : Filter) (r : Result (Unit {0}) CallError) → s.outbox ≡ ask ∷ rest
      → Runs (state x.disk) (state y.disk) → TurnTo state answers ask p next (with_rest rest s) (Ok (record {})) after y mid → DrainsTo n state answers after y mid r q z t → DrainsTo (n + 1) state answers p x s r q z t
  drains_on n p after q x next y z ask rest s mid t (Ok u) out ran turn more = (
    record { runs = turn.0 ∷ more.0.runs; few = omega (arith, more.0.few); drained = (ask, rest, out, mid, turn.1, turn.2, after, turn.3, more.0.drained) },
    more.1,
  )
  drains_on n p after q x next y z ask rest s mid t (Err (No c)) out ran turn more = (
    more.0,
    record { runs = turn.0 ∷ more.1.runs; few = omega (arith, more.1.few); cut = cut_more p s mid ask rest turn.0 after q t more.1.runs out turn.1 turn.2 turn.3 more.1.cut },
    more.2,
    rose_on (state x.disk) (state y.disk) (state z.disk) ran more.3,
  )
  drains_on n p after q x next y z ask rest s mid t (Err OutOfMemory) out ran turn more = more

  turn_stands : (ask : Ask) (p q : P) (x y : Held D) (s t : Filter) → TurnTo state answers ask p x s (Ok (record {})) q y t → Stands state y t
  turn_stands ask p q x y s t turn = turn.4

  -- the first, then the others
  pub drains_more : (n : ℕ) (p after q : P) (x next y z : Held D) (ask : Ask) (r : Result (Unit {0}) CallError) → ((rest : List Ask) × (x.desk.outbox ≡ ask ∷ rest) × (next ≡ record x { desk = record x.desk { outbox = rest } }))
      → Turns state answers ask p next (Ok (record {})) after y → Drains n state answers after y r q z → Drains (n + 1) state answers p x r q z
  drains_more n p after q x next y z ask r some turn more = record {
    leads = λ s h.
        let out = sym (ap (λ (d : Desk). d.outbox) h.desk) ∙ some.1 in
        let a = turn.leads (with_rest some.0 s) (popped x next some.0 s some.2 h) in
        let b = more.leads a.0 (turn_stands ask p after next y (with_rest some.0 s) a.0 a.2) in
        let m = popped_moved x next y some.0 s a.0 some.2 a.1 in
        (b.0, (sense state).goes_on x y z s a.0 b.0 m b.1, drains_on n p after q x next y z ask some.0 s a.0 b.0 r out m.runs a.2 b.2);
  }

  stops_to : (p q : P) (x next y : Held D) (ask : Ask) (rest : List Ask) (s t : Filter) (e : CallError) → s.outbox ≡ ask ∷ rest → next ≡ record x { desk = record x.desk { outbox = rest } } → TurnTo state answers ask p next (with_rest rest s) (Err e) q y t
      → DrainsTo 1 state answers p x s (Err e) q y t
  stops_to p q x next y ask rest s t (No c) out is turn = (
    turn.0,
    record { runs = turn.1 ∷ []; few = omega arith; cut = (ask, rest, out, turn.2, turn.3, turn.4) },
    turn.5,
    subst (λ (w : Held D). Rose (state w.disk) (state y.disk)) is turn.6,
  )
  stops_to p q x next y ask rest s t OutOfMemory out is turn = turn

  -- the first stops
  drains_stops : (p q : P) (x next y : Held D) (ask : Ask) (e : CallError) → ((rest : List Ask) × (x.desk.outbox ≡ ask ∷ rest) × (next ≡ record x { desk = record x.desk { outbox = rest } }))
      → Turns state answers ask p next (Err e) q y → Drains 1 state answers p x (Err e) q y
  drains_stops p q x next y ask e some turn = record {
    leads = λ s h.
        let out = sym (ap (λ (d : Desk). d.outbox) h.desk) ∙ some.1 in
        let a = turn.leads (with_rest some.0 s) (popped x next some.0 s some.2 h) in
        (a.0, popped_moved x next y some.0 s a.0 some.2 a.1, stops_to p q x next y ask some.0 s a.0 e out some.2 a.2);
  }

  pub drains_exit : (p q : P) (x next y : Held D) (ask : Ask) (e : CallError) (r : Result (Unit {0}) CallError) → ((rest : List Ask) × (x.desk.outbox ≡ ask ∷ rest) × (next ≡ record x { desk = record x.desk { outbox = rest } }))
      → Turns state answers ask p next (Err e) q y → IsErrAnd r (λ z. z ≡ e) → Drains 1 state answers p x r q y
  drains_exit p q x next y ask e r some turn is =
      let o = err_from_is_err_and r is in subst (λ (u : Result (Unit {0}) CallError). Drains 1 state answers p x u q y) (sym (o.1 ∙ ap (λ (z : CallError). Err z) o.2)) (drains_stops p q x next y ask e some turn)

  -- in the words of an engine

  drained_to : (p q : P) (x y : Held D) (s t : Filter) (r : Result (Unit {0}) CallError) → DrainsTo most state answers p x s r q y t → DrainedTo (sense state) answers p x s r q y t
  drained_to p q x y s t (Ok u) h = h
  drained_to p q x y s t (Err (No c)) h = (h.0, h.1, (h.2, h.3))
  drained_to p q x y s t (Err OutOfMemory) h = h

  drains_to : (p q : P) (x y : Held D) (s t : Filter) (r : Result (Unit {0}) CallError) → DrainedTo (sense state) answers p x s r q y t → DrainsTo most state answers p x s r q y t
  drains_to p q x y s t (Ok u) h = h
  drains_to p q x y s t (Err (No c)) h = (h.0, h.1, h.2.0, h.2.1)
  drains_to p q x y s t (Err OutOfMemory) h = h

  pub drains_by : (p q : P) (x y : Held D) (r : Result (Unit {0}) CallError) → Drains most state answers p x r q y → DrainsBy (sense state) answers p x r q y
  drains_by p q x y r h = record { leads = λ s i. let d = h.leads s i in (d.0, d.1, drained_to p q x y s d.0 r d.2) }

  pub drains_as : (p q : P) (x y : Held D) (r : Result (Unit {0}) CallError) → DrainsBy (sense state) answers p x r q y → Drains most state answers p x r q y
  drains_as p q x y r h = record { leads = λ s i. let d = h.leads s i in (d.0, d.1, drains_to p q x y s d.0 r d.2) }

  -- a call

  pub calls_stopped : (part : Arrow Filter Shown) (p : P) (x y : Held D) (s : Filter) (told r : Result Shown CallError) (e : CallError) → PartTo state part x s told y → told ≡ Err e → IsErrAnd r (λ z. z ≡ e) → CallsTo state answers part p x s r p y
  calls_stopped part p x y s told r e h was is =
      let q = err_from_is_err_and r is in
      subst (λ (o : Result Shown CallError). CallsTo state answers part p x s o p y) (sym (q.1 ∙ ap (λ (z : CallError). Err z) q.2)) (by e (subst (λ (o : Result Shown CallError). PartTo state part x s o y) was h))
    where
      by : (f : CallError) → PartTo state part x s (Err f) y → CallsTo state answers part p x s (Err f) p y
      by (No c) a = (a.1.0, a.0, a.2, a.3.0, a.3.1, inl (a.1.1, refl))
      by OutOfMemory a = (a.0, a.2, a.3)

  pub calls_cut : (part : Arrow Filter Shown) (p q : P) (x mid y : Held D) (s : Filter) (told r : Result Shown CallError) (a : Shown) (e : CallError) → PartTo state part x s told mid → told ≡ Ok a → Drains most state answers p mid (Err e) q y → IsErrAnd r (λ z. z ≡ e)
      → CallsTo state answers part p x s r q y
  calls_cut part p q x mid y s told r a e first was drains is =
      let o = err_from_is_err_and r is in subst (λ (u : Result Shown CallError). CallsTo state answers part p x s u q y) (sym (o.1 ∙ ap (λ (z : CallError). Err z) o.2)) (by e (subst (λ (u : Result Shown CallError). PartTo state part x s u mid) was first) drains)
    where
      by : (f : CallError) → PartTo state part x s (Ok a) mid → Drains most state answers p mid (Err f) q y → CallsTo state answers part p x s (Err f) q y
      by (No c) b d = let u = d.leads b.0 b.3 in (u.2.0, u.0, (sense state).goes_on x mid y s b.0 u.0 b.2 u.1, u.2.2, rose_on (state x.disk) (state mid.disk) (state y.disk) b.2.runs u.2.3, inr (a, b.0, b.1, u.2.1))
      by OutOfMemory b d = let u = d.leads b.0 b.3 in (u.0, (sense state).goes_on x mid y s b.0 u.0 b.2 u.1, u.2)

  pub calls_end : (part : Arrow Filter Shown) (p q : P) (x mid y z : Held D) (s : Filter) (told : Result Shown CallError) (a b : Shown) (u : Unit {0}) → PartTo state part x s told mid → told ≡ Ok a → Drains most state answers p mid (Ok u) q y
      → b ≡ shows_end a y.desk.ending → z ≡ with_no_own y → CallsTo state answers part p x s (Ok b) q z
  calls_end part p q x mid y z s told a b u first was drains shows is =
      subst (λ (w : Held D). CallsTo state answers part p x s (Ok b) q w) (sym is) (by (subst (λ (o : Result Shown CallError). PartTo state part x s o mid) was first))
    where
      by : PartTo state part x s (Ok a) mid → CallsTo state answers part p x s (Ok b) q (with_no_own y)
      by c =
          let d = drains.leads c.0 c.3 in
          (a, c.0, d.0, c.1, d.2.0, shows ∙ ap (λ (k : Desk). shows_end a k.ending) d.2.1.desk ∙ result_shown a d.0, over_moved state x y s d.0 ((sense state).goes_on x mid y s c.0 d.0 c.2 d.1), over state y d.0 d.2.1)
