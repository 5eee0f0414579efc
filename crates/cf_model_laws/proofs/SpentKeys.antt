-- Each callback that comes spends a key.
use Rattle.std.proofs.Common.{◌≡◌, ◌≤◌, ◌+◌, ◌⊎◌, inl, inr, ℕ, zero, suc, List, [], ◌∷◌, ◌++◌, refl, sym, ◌∙◌, ap, subst, arith, length}
use Rattle.std.specs.Prelude.{true, map, ◌-◌}
use Rattle.std.proofs.lemmas.List.{length-append, length-map}
use Rattle.cf_base.specs.declared.answers.Answer.{Answer}
use Rattle.cf_base.specs.declared.events.Event.{Event}
use Rattle.cf_base.specs.declared.policies.Mode.{Mode}
use Rattle.cf_base.specs.declared.waits.Ask.{Ask}
use Rattle.cf_model.specs.Asks.{step_of}
use Rattle.cf_model.specs.Callbacks.{call_back, drain, drained, with_outbox}
use Rattle.cf_model.specs.Events.{is_of, tree_of}
use Rattle.cf_model.specs.Lawful.{Runs}
use Rattle.cf_model.specs.Numbers.{most}
use Rattle.cf_model.specs.Ports.{Act, Acts}
use Rattle.cf_model.specs.Requests.{Live}
use Rattle.cf_model.specs.State.{Filter, State, start}
use Rattle.cf_model.specs.Store.{Held}
use Rattle.cf_model.specs.Trees.{Asked, Ends, Fork, Keeps, Ret, Step, Tree, bind}
use Rattle.cf_model.proofs.TreeLaws.{kept_at_end}
use Rattle.cf_model_laws.specs.Keys.{AreBoxedGiven, AreKeysWithin, keys_left}
use Rattle.cf_model_laws.specs.Premises.{IsFresh}
use Rattle.cf_model_laws.proofs.ContentLaws.{keeps_weaker}
use Rattle.cf_model_laws.proofs.OutboxActs.{acts_keep}
use Rattle.cf_model_laws.proofs.OutboxCallbacks.{call_back_keeps}
use Rattle.cf_model_laws.proofs.OutboxFacts.{Boxing, BoxingRuns, Fact, Holds}
use Rattle.cf_model_laws.proofs.OutboxRuns.{event_holds, run_holds}

boxed_more : (o : List Ask) (made : List Live) → length (o ++ map (λ a. a.ask) made) ≡ length o + length made
boxed_more o made = length-append o (map (λ a. a.ask) made) ∙ ap (λ n. length o + n) (length-map made (λ a. a.ask))

abbrev pub Spent : ℕ → ℕ → Fact
Spent boxed given o w = length o + given ≤ boxed + w.key_count

before_boxed : (boxed given n k m : ℕ) → n + given ≤ boxed + k → n + given ≤ boxed + (k + m)
before_boxed boxed given n k m h = omega (arith, h)

after_boxed : (boxed given n k m l : ℕ) → l ≡ n + m → n + given ≤ boxed + k → l + given ≤ boxed + (k + m)
after_boxed boxed given n k m l f h = omega (arith, f, h)

fewer : (l given k : ℕ) → suc l + given ≤ k → l + given ≤ k
fewer l given k h = omega (arith, h)

pub spent_boxing : (boxed given : ℕ) → Boxing (Spent boxed given)
spent_boxing boxed given = record {
  steps = λ o w item v d h. (
    before_boxed boxed given (length o) w.key_count (length (step_of item v d w).0.made) h,
    after_boxed boxed given (length o) w.key_count (length (step_of item v d w).0.made) (length (o ++ map (λ a. a.ask) (step_of item v d w).0.made)) (boxed_more o (step_of item v d w).0.made) h,
  );
  begins = λ o w ws h. h;
  downs = λ o w h. h;
  ticks = λ o w n h. h;
  pops = λ a o w h. fewer (length o) given (boxed + w.key_count) h;
}

none_boxed_yet : (k : ℕ) → 0 + 0 ≤ 0 + k
none_boxed_yet k = omega arith

pub spent_runs : BoxingRuns (Spent 0 0)
spent_runs = record { boxing = spent_boxing 0 0; crashes = λ o w h. none_boxed_yet w.key_count; opens = λ epoch. none_boxed_yet 0 }

-- all callbacks

-- what ends a tree that goes on
pub ends_parts : {S A B : Type 0} (p : Tree S A) (g : A → S → Tree S B) (b : B) (t : S) → Ends (bind p g) b t → (a : A) × (m : S) × Ends p a m × Ends (g a m) b t
ends_parts (Ret a s) g b t h = (a, s, (refl, refl), h)
ends_parts (Step s p) g b t h = ends_parts p g b t h
ends_parts (Fork p q) g b t (inl h) = let x = ends_parts p g b t h in (x.0, x.1, inl x.2, x.3)
ends_parts (Fork p q) g b t (inr h) = let x = ends_parts q g b t h in (x.0, x.1, inr x.2, x.3)
ends_parts (Asked k) g b t h = let x = ends_parts (k h.0) g b t h.1 in (x.0, x.1, (h.0, x.2), x.3)

-- none is left, or each of n calls has spent a key
abbrev Called : ℕ → ℕ → ℕ → Filter → Type 0
Called boxed given n x = (x.outbox ≡ []) ⊎ (length x.outbox + (given + n) ≤ boxed + x.waiting.key_count)

one_called : (l given boxed k : ℕ) → suc l + given ≤ boxed + k → l + (given + 1) ≤ boxed + k
one_called l given boxed k h = omega (arith, h)

none_called : (l given boxed k : ℕ) → l + given ≤ boxed + k → l + (given + 0) ≤ boxed + k
none_called l given boxed k h = omega (arith, h)

called_more : (l given n r : ℕ) → l + (given + 1 + n) ≤ r → l + (given + suc n) ≤ r
called_more l given n r h = omega (arith, h)

pub drained_spends : (n boxed given : ℕ) (s t : State) (u : Unit {0}) → Holds (Spent boxed given) s.filter → Ends (drained n s) u t → Called boxed given n t.filter
drained_spends zero boxed given s t u h e = subst (λ (x : State). Called boxed given 0 x.filter) (sym e.1) (inr (none_called (length s.filter.outbox) given boxed s.filter.waiting.key_count h))
drained_spends (suc n) boxed given s t u h e = by (λ x k i. drained_spends n boxed (given + 1) x t u k i) s.filter.outbox refl e where
  more : Called boxed (given + 1) n t.filter → Called boxed given (suc n) t.filter
  more (inl k) = inl k
  more (inr k) = inr (called_more (length t.filter.outbox) given n (boxed + t.filter.waiting.key_count) k)

  Rest : Type 0
  Rest = (x : State) → Holds (Spent boxed (given + 1)) x.filter → Ends (drained n x) u t → Called boxed (given + 1) n t.filter

  by : Rest → (asks : List Ask) → s.filter.outbox ≡ asks → Ends (elim asks as (λ _. Tree State (Unit {0})) [ [] ↦ Ret (record {}) s | a ∷ rest ↦ bind (call_back a (with_outbox rest s)) (λ _ x. drained n x) ]) u t → Called boxed given (suc n) t.filter
  by rest_of [] k i = subst (λ (x : State). Called boxed given (suc n) x.filter) (sym i.1) (inl k)
  by rest_of (a ∷ rest) k i =
      let called : Holds (Spent boxed (given + 1)) (with_outbox rest s).filter = one_called (length rest) given boxed s.filter.waiting.key_count (subst (λ (os : List Ask). length os + given ≤ boxed + s.filter.waiting.key_count) k h) in
      let x = ends_parts (call_back a (with_outbox rest s)) (λ _ y. drained n y) u t i in
      more (rest_of x.1 (kept_at_end (λ (y : State). Holds (Spent boxed (given + 1)) y.filter) (call_back a (with_outbox rest s)) x.0 x.1 ((call_back_keeps (Spent boxed (given + 1)) (spent_boxing boxed (given + 1)) a).keeps (with_outbox rest s) called) x.2) x.3)

none_boxed : (asks : List Ask) → length asks ≤ 0 → asks ≡ []
none_boxed [] h = refl
none_boxed (a ∷ as') h = absurd (omega (arith, h))

few : (l k n : ℕ) → k ≤ n → l + (0 + n) ≤ 0 + k → l ≤ 0
few l k n within h = omega (arith, within, h)

spent_first : (l k : ℕ) → l ≤ k → l + 0 ≤ 0 + k
spent_first l k h = omega (arith, h)

-- where the epoch had keys for all
pub none_left : (s t : State) (u : Unit {0}) → AreBoxedGiven s.filter → AreKeysWithin t.filter → Ends (drain s) u t → t.filter.outbox ≡ []
none_left s t u boxed within e = by (drained_spends most 0 0 s t u (spent_first (length s.filter.outbox) s.filter.waiting.key_count boxed) e) where
  by : Called 0 0 most t.filter → t.filter.outbox ≡ []
  by (inl k) = k
  by (inr k) = none_boxed t.filter.outbox (few (length t.filter.outbox) t.filter.waiting.key_count most within k)

-- a provider

same : (m n : ℕ) → m + n ≤ m + n
same m n = omega arith

pub acts_spend : (acts : List Act) (s t : Filter) → Acts s acts t → length t.outbox + s.waiting.key_count ≤ length s.outbox + t.waiting.key_count
acts_spend acts s t a = acts_keep (Spent (length s.outbox) s.waiting.key_count) (spent_boxing (length s.outbox) s.waiting.key_count) acts s t (same (length s.outbox) s.waiting.key_count) a

left : (m k l o n : ℕ) → n ≤ m → l + k ≤ o + n → l + (m - n) ≤ o + (m - k)
left m k l o n within h = omega (arith, within, h)

pub acts_leave : (acts : List Act) (s t : Filter) → Acts s acts t → AreKeysWithin t → length t.outbox + keys_left t ≤ length s.outbox + keys_left s
acts_leave acts s t a within = left most s.waiting.key_count (length t.outbox) (length s.outbox) t.waiting.key_count within (acts_spend acts s t a)

-- runs

first_given : (n k : ℕ) → n + 0 ≤ 0 + k → n ≤ k
first_given n k h = omega (arith, h)

pub of_spent : (s : State) → Holds (Spent 0 0) s.filter → AreBoxedGiven s.filter
of_spent s h = first_given (length s.filter.outbox) s.filter.waiting.key_count h

pub run_boxed : (m : Mode) (remote : Held) (clusters : ℕ) (trace : List (Event × Answer)) (s : State) → Runs m (start m remote clusters) trace s → IsFresh remote → AreBoxedGiven s.filter
run_boxed m remote clusters trace s runs fresh = of_spent s (run_holds (Spent 0 0) spent_runs m remote clusters trace s runs fresh)

pub event_boxed : (m : Mode) (remote : Held) (clusters : ℕ) (trace : List (Event × Answer)) (s : State) (e : Event) → Runs m (start m remote clusters) trace s → IsFresh remote → is_of m e ≡ true
    → Keeps (λ t. AreBoxedGiven t.filter) (tree_of e s)
event_boxed m remote clusters trace s e runs fresh is =
    keeps_weaker (λ t. Holds (Spent 0 0) t.filter) (λ t. AreBoxedGiven t.filter) of_spent (tree_of e s) (event_holds (Spent 0 0) spent_runs m remote clusters trace s e runs fresh is)
