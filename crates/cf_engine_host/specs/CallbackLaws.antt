-- Callbacks of a provider that plays the arrow of the mode are the drain of the definitions.
use Rattle.std.proofs.Common.{◌≡◌, ◌≤◌, ℕ, zero, suc, List, [], ◌∷◌, length, refl, sym, ◌∙◌, ap, subst, arith}
use Rattle.cf_base.specs.declared.answers.Shown.{Shown}
use Rattle.cf_base.specs.declared.waits.Ask.{Ask}
use Rattle.cf_engine_queue.specs.Records.{IsKeepable}
use Rattle.cf_provider.specs.Sights.{Shows, Sight, callback_of}
use Rattle.cf_engine_host.specs.Callbacks.{Answering, CalledBack, CutBack, CutOff, Drained, NoneFailed}
use Rattle.cf_model.proofs.TreeLaws.{ends_mapped, ends_then, stops_first, stops_mapped, stops_then}
use Rattle.cf_model.specs.Arrows.{Arrow, unit}
use Rattle.cf_model.specs.Callbacks.{begin_call, call_back, calling, drained, finish_call, result_of, with_outbox}
use Rattle.cf_model.specs.Numbers.{most}
use Rattle.cf_model.specs.Ports.{Act, Acts, HasFailed}
use Rattle.cf_model.specs.State.{Filter, State, in_filter, with_filter}
use Rattle.cf_model.specs.Trees.{Ends, Ret, Stops, Tree, bind}
use Rattle.cf_filter_steps.specs.Good.{IsGood}

-- The provider plays the arrow of the mode on a state that it sees, where what it is shown is that state's, and the book
-- fits its records. It sees the state still
-- where a callback leaves the outbox, and where the call is over.
pub record Plays {P : Type 0} (answers : Answering P) (Sees : P → State → Type 0) : Type 0 where
  pub called : (p : P) (x : State) (asks : List Ask) → Sees p x → Sees p (with_outbox asks x)
  pub over : (p : P) (x : State) → Sees p x → Sees p (with_filter (begin_call x.filter) x)
  pub ends : (p q : P) (x : State) (ask : Ask) (acts : List Act) (t : Filter) (seen : Sight) → Sees p x → Shows seen x.filter → IsGood x.filter → IsKeepable x.filter.volume.book → answers p seen (callback_of ask x.filter) acts q → Acts x.filter acts t → NoneFailed acts
      → (y : State) × (y.filter ≡ t) × Sees q y × Ends (call_back ask x) unit y
  pub stops : (p q : P) (x : State) (ask : Ask) (acts : List Act) (t : Filter) (seen : Sight) → Sees p x → Shows seen x.filter → IsGood x.filter → IsKeepable x.filter.volume.book → answers p seen (callback_of ask x.filter) acts q → Acts x.filter acts t → HasFailed acts
      → (y : State) × (y.filter ≡ t) × Sees q y × Stops (call_back ask x) y

-- the drain, by its outbox
abbrev drained_from : ℕ → State → List Ask → Tree State (Unit {0})
drained_from n x [] = Ret unit x
drained_from n x (a ∷ rest) = bind (call_back a (with_outbox rest x)) (λ _ t. drained n t)

ends_from : (n : ℕ) (x y : State) (l : List Ask) → x.filter.outbox ≡ l → Ends (drained_from n x l) unit y → Ends (drained (suc n) x) unit y
ends_from n x y l e h = subst (λ (k : List Ask). Ends (drained_from n x k) unit y) (sym e) h

stops_from : (n : ℕ) (x y : State) (l : List Ask) → x.filter.outbox ≡ l → Stops (drained_from n x l) y → Stops (drained (suc n) x) y
stops_from n x y l e h = subst (λ (k : List Ask). Stops (drained_from n x k) y) (sym e) h

ends_none : (n : ℕ) (x : State) → x.filter.outbox ≡ [] → Ends (drained n x) unit x
ends_none zero x e = (refl, refl)
ends_none (suc n) x e = ends_from n x x [] e (refl, refl)

-- one that was stopped before its callbacks
pub stops_calling : (part : Arrow Filter Shown) (x : State) (t : Filter) → Stops (part x.filter) t → Stops (calling part x) (with_filter t x)
stops_calling part x t h = stops_first (in_filter part x) finish_call (with_filter t x) (stops_mapped (λ f. with_filter f x) (part x.filter) t h)

module _ {P : Type 0} (answers : Answering P) (Sees : P → State → Type 0) (plays : Plays answers Sees) where
  pub drains_all : (runs : List (List Act)) (n : ℕ) (p q : P) (x : State) (t : Filter) → length runs ≤ n → Sees p x → Drained answers p x.filter runs q t
      → (y : State) × (y.filter ≡ t) × Sees q y × Ends (drained n x) unit y
  drains_all [] n p q x t few sees h = (x, sym h.1, subst (λ (z : P). Sees z x) (sym h.2) sees, ends_none n x h.0)
  drains_all (acts ∷ more) zero p q x t few sees h = absurd (omega (arith, few))
  drains_all (acts ∷ more) (suc n) p q x t few sees h =
      let rest = h.1 in
      let next : State = with_outbox rest x in
      let turn = plays.ends p h.6 next h.0 acts h.3 h.7.seen (plays.called p x rest sees) h.7.shows h.7.good h.7.keeps h.7.gives h.4 h.5 in
      let tail = drains_all more n h.6 q turn.0 t (omega (arith, few)) turn.2 (subst (λ (f : Filter). Drained answers h.6 f more q t) (sym turn.1) h.8) in
      (tail.0, tail.1, tail.2, ends_from n x tail.0 (h.0 ∷ rest) h.2 (ends_then (call_back h.0 next) (λ _ y. drained n y) unit turn.0 unit tail.0 turn.3 tail.3))

  pub drains_cut : (runs : List (List Act)) (n : ℕ) (p q : P) (x : State) (t : Filter) → length runs ≤ n → Sees p x → CutOff answers p x.filter runs q t
      → (y : State) × (y.filter ≡ t) × Sees q y × Stops (drained n x) y
  drains_cut [] n p q x t few sees h = absurd h
  drains_cut (acts ∷ []) zero p q x t few sees h = absurd (omega (arith, few))
  drains_cut (acts ∷ []) (suc n) p q x t few sees h =
      let rest = h.1 in
      let next : State = with_outbox rest x in
      let turn = plays.stops p q next h.0 acts t h.5.seen (plays.called p x rest sees) h.5.shows h.5.good h.5.keeps h.5.gives h.3 h.4 in
      (turn.0, turn.1, turn.2, stops_from n x turn.0 (h.0 ∷ rest) h.2 (stops_first (call_back h.0 next) (λ _ y. drained n y) turn.0 turn.3))
  drains_cut (acts ∷ other ∷ more) zero p q x t few sees h = absurd (omega (arith, few))
  drains_cut (acts ∷ other ∷ more) (suc n) p q x t few sees h =
      let rest = h.1 in
      let next : State = with_outbox rest x in
      let turn = plays.ends p h.6 next h.0 acts h.3 h.7.seen (plays.called p x rest sees) h.7.shows h.7.good h.7.keeps h.7.gives h.4 h.5 in
      let tail = drains_cut (other ∷ more) n h.6 q turn.0 t (omega (arith, few)) turn.2 (subst (λ (f : Filter). CutOff answers h.6 f (other ∷ more) q t) (sym turn.1) h.8) in
      (tail.0, tail.1, tail.2, stops_from n x tail.0 (h.0 ∷ rest) h.2 (stops_then (call_back h.0 next) (λ _ y. drained n y) unit turn.0 tail.0 turn.3 tail.3))

  -- a call whose callbacks have all returned
  pub ends_calling : (part : Arrow Filter Shown) (p q : P) (x : State) (a b : Shown) (m t : Filter) → Sees p (with_filter m x) → Ends (part x.filter) a m → CalledBack most answers p m q t → b ≡ result_of a t
      → (y : State) × (y.filter ≡ begin_call t) × Sees q y × Ends (calling part x) b y
  ends_calling part p q x a b m t sees first back is =
      let mid : State = with_filter m x in
      let d = drains_all back.runs most p q mid t back.few sees back.drained in
      let last : State = with_filter (begin_call d.0.filter) d.0 in (
        last,
        ap begin_call d.1,
        plays.over q d.0 d.2,
        ends_then (in_filter part x) (finish_call) a mid b last (ends_mapped (λ f. with_filter f x) (part x.filter) a m first)
            (ends_then (drained most mid) (λ _ y. in_filter (λ s. Ret (result_of a s) (begin_call s)) y) unit d.0 b last d.3 (is ∙ ap (result_of a) (sym d.1), refl)),
      )

  -- one that was stopped in a callback
  pub cut_calling : (part : Arrow Filter Shown) (p q : P) (x : State) (a : Shown) (m t : Filter) → Sees p (with_filter m x) → Ends (part x.filter) a m → CutBack most answers p m q t
      → (y : State) × (y.filter ≡ t) × Sees q y × Stops (calling part x) y
  cut_calling part p q x a m t sees first back =
      let mid : State = with_filter m x in
      let d = drains_cut back.runs most p q mid t back.few sees back.cut in (
        d.0,
        d.1,
        d.2,
        stops_then (in_filter part x) finish_call a mid d.0 (ends_mapped (λ f. with_filter f x) (part x.filter) a m first)
            (stops_first (drained most mid) (λ _ y. in_filter (λ s. Ret (result_of a s) (begin_call s)) y) d.0 d.3),
      )
