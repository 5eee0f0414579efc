-- Events of a run in which nothing is heard of, by their choices.
use Rattle.std.proofs.Common.{◌≡◌, ◌⊎◌, ℕ, zero, suc, Bool, true, false, List, [], ◌∷◌, refl, sym, ◌∙◌, ap, subst, inl, inr}
use Rattle.std.specs.Prelude.{Option, Some, None, not}
use Rattle.std.specs.List.{list_any}
use Rattle.cf_base.specs.declared.answers.Answer.{Answer}
use Rattle.cf_base.specs.declared.answers.Shown.{Shown}
use Rattle.cf_base.specs.declared.answers.Shown.TheVariants as shown
use Rattle.cf_base.specs.declared.events.Event.{Event}
use Rattle.cf_base.specs.declared.notices.Notice.{Notice}
use Rattle.cf_base.specs.declared.policies.Mode.TheVariants as mode
use Rattle.cf_model.specs.Events.{answer_in, answered, begun, choices_in, may_stop, needs_volume, no_volume, outcome}
use Rattle.cf_model.specs.Lawful.{IsStep, Runs}
use Rattle.cf_model.specs.Messages.{no_number}
use Rattle.cf_model.specs.Passes.{showing, unless_down}
use Rattle.cf_model.specs.Requests.{is_list_wait}
use Rattle.cf_model.specs.State.{Broken, Off, On, Power, State, start}
use Rattle.cf_model.specs.Store.{Held}
use Rattle.cf_model.specs.Trees.{AsItKeeps, Asked, Choices, Ends, Fork, Ret, Step, Telling, Tree, walk}
use Rattle.cf_model_laws.specs.Invariant.{All, Invariant}
use Rattle.cf_model_laws.specs.Premises.{IsFair, IsFresh}
use Rattle.cf_model_laws.proofs.ContentLaws.{run_sound, sound_whole}
use Rattle.cf_model_laws.proofs.Gathered.{all_weaker}
use Rattle.cf_model_laws.proofs.RightItems.{no_way}
use Rattle.cf_model_convergence.specs.Agreeing.{IsAgreed, IsKeptUp}
use Rattle.cf_model_convergence.specs.Hearing.{ArePlainWaits, IsHeard, IsPlainAsk, IsPlainWait, is_heard}
use Rattle.cf_model_convergence.specs.Tidy.{IsTidy}
use Rattle.cf_model_convergence.proofs.PlacedItems.{placed_dirs, run_placed}
use Rattle.cf_model_convergence.proofs.QuietPasses.{kept_agreed}
use Rattle.cf_model_laws.proofs.CallbacksBetween.{none_between}
use Rattle.cf_model_laws.specs.Keys.{AreKeysWithin}
use Rattle.cf_model.specs.Arrows.{Arrow}
use Rattle.cf_base.specs.declared.codes.Code.{Code}
use Rattle.cf_base.specs.declared.codes.Code.TheVariants as code
use Rattle.cf_model.specs.Events.{tree_of}
use Rattle.cf_model.specs.Passes.{connected}
use Rattle.cf_model_convergence.proofs.PassesCalm.{IsSet}
use Rattle.cf_model_convergence.proofs.FairBefore.{step_fair}

-- by choices

pub walk_ends : {S A : Type 0} → (p : Tree S A) (stop : Option ℕ) (forks : List Bool) (ts : List Telling) (a : A) (t : S) → walk stop forks ts p ≡ (Some a, t) → Ends p a t
walk_ends {S = S} {A = A} (Ret b s) stop forks ts a t e = (sym (inner (ap (λ (p : Option A × S). p.0) e)), sym (ap (λ (p : Option A × S). p.1) e)) where
  inner : ◌≡◌ {A = Option A} (Some b) (Some a) → b ≡ a
  inner z = cc
walk_ends (Step s p) None forks ts a t e = walk_ends p None forks ts a t e
walk_ends {S = S} {A = A} (Step s p) (Some zero) forks ts a t e = absurd (never (ap (λ (p : Option A × S). p.0) e)) where
  never : ◌≡◌ {A = Option A} None (Some a) → ⊥
  never z = cc
walk_ends (Step s p) (Some (suc n)) forks ts a t e = walk_ends p (Some n) forks ts a t e
walk_ends (Fork p q) stop [] ts a t e = inl (walk_ends p stop [] ts a t e)
walk_ends (Fork p q) stop (false ∷ forks) ts a t e = inl (walk_ends p stop forks ts a t e)
walk_ends (Fork p q) stop (true ∷ forks) ts a t e = inr (walk_ends q stop forks ts a t e)
walk_ends (Asked k) stop forks [] a t e = (AsItKeeps, walk_ends (k AsItKeeps) stop forks [] a t e)
walk_ends (Asked k) stop forks (x ∷ ts) a t e = (x, walk_ends (k x) stop forks ts a t e)

-- in a run

-- what is asked of the remote that was handed in, and of the state that the event begins in
abbrev pub IsBegunFairly : Held → State → Type 0
IsBegunFairly remote s = IsFresh remote × IsTidy remote × (s.link.inline ≡ true) × AreKeysWithin s.filter × ArePlainWaits s × IsKeptUp s

-- where the part of the event that needs a provider leaves what is asked for, so does the event
pub run_event_by : (f : Arrow State Shown) (ok : Shown → Bool) → ((x : Code) → ok (shown.Refused x) ≡ false) → (E : Shown → State → Type 0) (remote : Held) (clusters : ℕ) (trace : List (Event × Answer)) (s : State)
    → Runs mode.Replay (start mode.Replay remote clusters) trace s → IsBegunFairly remote s → (e : Event) (a : Answer) (t : State) → IsStep mode.Replay s e a t → IsFair t.link → tree_of e s ≡ connected f (begun s)
    → needs_volume e ≡ true → ((c : Choices) → choices_in (may_stop e) c ≡ c) → ok a.shown ≡ true → no_number t ≡ false
    → ((r : Shown) (x : State) → Invariant (begun s) → IsSet (showing (begun s)) → Ends (f (begun s)) r x → no_number x ≡ false → IsFair x.link → x.filter.notes ≡ a.notes → E r x) → E a.shown t
run_event_by f ok refuses E remote clusters trace s runs given e a t step fair is needs all counted left each = by s.power refl (subst (λ (b : Bool). answered (no_volume b s.power) step.1 s e ≡ (t, a)) needs step.2) where
  c : Choices
  c = step.1

  h : Invariant (begun s)
  h = sound_whole.begins s (run_sound remote clusters trace s runs given.0)

  was_fair : IsFair s.link
  was_fair = step_fair s e a t step (run_sound remote clusters trace s runs given.0) fair

  agreed : IsAgreed s
  agreed = kept_agreed remote clusters trace s runs given.0 given.1 was_fair (all_weaker (IsPlainWait s.filter.waiting.asks) (λ w. is_list_wait w.kind ≡ false) (λ w z. z.0) s.filter.waiting.waits given.4) given.5

  set : s.power ≡ On → s.filter.connected ≡ true → IsSet (showing (begun s))
  set on up = record {
    fair = was_fair;
    listening = record { inline = given.2; shows = refl };
    free = record { connected = up; waits = given.4; boxed = subst (All IsPlainAsk) (sym (none_between mode.Replay remote clusters trace s runs given.0 on given.3)) tt };
    dirs = placed_dirs s (run_placed remote clusters trace s runs given.0) was_fair;
    agreed = record { tidy = agreed.tidy; early = agreed.early; alone = agreed.alone; tree = agreed.tree; idle = agreed.idle; passed = agreed.passed };
  }

  never : (x : Code) → a.shown ≡ shown.Refused x → E a.shown t
  never x q = no_way (sym (refuses x) ∙ (ap ok (sym q) ∙ counted))

  over : s.power ≡ On → (r : Shown) (x : State) → walk c.stop c.forks c.tellings (connected f (begun s)) ≡ (Some r, x) → ◌≡◌ {A = State × Answer} (x, answer_in r x) (t, a) → E a.shown t
  over on r x way same = up s.filter.connected refl (walk_ends (connected f (begun s)) c.stop c.forks c.tellings r x way) where
    here : x ≡ t
    here = ap (λ (p : State × Answer). p.0) same

    told : answer_in r x ≡ a
    told = ap (λ (p : State × Answer). p.1) same

    done : E r x → E a.shown t
    done z = subst (λ (b : Answer). E b.shown t) told (subst (λ (y : State). E r y) here z)

    up : (b : Bool) → s.filter.connected ≡ b → Ends (unless_down f (not b) (begun s)) r x → E a.shown t
    up true q z = done (each r x h (set on q) z (subst (λ (y : State). no_number y ≡ false) (sym here) left) (subst (λ (y : State). IsFair y.link) (sym here) fair) (ap (λ (b : Answer). b.notes) told))
    up false q z = never code.ProviderDown (sym (ap (λ (b : Answer). b.shown) told) ∙ z.0)

  played : s.power ≡ On → (w : Option Shown × State) → walk c.stop c.forks c.tellings (connected f (begun s)) ≡ w → outcome w ≡ (t, a) → E a.shown t
  played on (Some r, x) way same = over on r x way same
  played on (None, x) way same = never code.Device (sym (ap (λ (p : State × Answer). p.1.shown) same))

  by : (p : Power) → s.power ≡ p → answered (no_volume true p) c s e ≡ (t, a) → E a.shown t
  by On q z = played q (walk c.stop c.forks c.tellings (connected f (begun s))) refl (subst (λ (y : Tree State Shown). outcome (walk c.stop c.forks c.tellings y) ≡ (t, a)) is (subst (λ (d : Choices). outcome (walk d.stop d.forks d.tellings (tree_of e s)) ≡ (t, a)) (all c) z))
  by Broken q z = never code.Broken (sym (ap (λ (p : State × Answer). p.1.shown) z))
  by Off q z = never code.Off (sym (ap (λ (p : State × Answer). p.1.shown) z))

-- where it is heard of, so it is of the event by its answer
pub run_event : (f : Arrow State Shown) (ok : Shown → Bool) → ((x : Code) → ok (shown.Refused x) ≡ false) → (E : Shown → State → Type 0) (remote : Held) (clusters : ℕ) (trace : List (Event × Answer)) (s : State)
    → ((r : Shown) (x : State) → Invariant (begun s) → IsSet (showing (begun s)) → Ends (f (begun s)) r x → no_number x ≡ false → IsHeard (begun s) x ⊎ E r x)
    → Runs mode.Replay (start mode.Replay remote clusters) trace s → IsBegunFairly remote s → (e : Event) (a : Answer) (t : State) → IsStep mode.Replay s e a t → IsFair t.link → tree_of e s ≡ connected f (begun s)
    → needs_volume e ≡ true → ((c : Choices) → choices_in (may_stop e) c ≡ c) → ok a.shown ≡ true → list_any is_heard a.notes ≡ false → no_number t ≡ false → E a.shown t
run_event f ok refuses E remote clusters trace s each runs given e a t step fair is needs all counted quiet left =
    run_event_by f ok refuses E remote clusters trace s runs given e a t step fair is needs all counted left (λ r x h set ends free kept notes. unheard r x kept notes (each r x h set ends free)) where
      unheard : (r : Shown) (x : State) → IsFair x.link → x.filter.notes ≡ a.notes → IsHeard (begun s) x ⊎ E r x → E r x
      unheard r x kept notes (inl z) = elim z.heard as (λ _. E r x) [
        | inl y ↦ no_way (sym quiet ∙ subst (λ (ns : List Notice). list_any is_heard ns ≡ true) (sym z.noted ∙ notes) y)
        | inr y ↦ no_way (sym y ∙ kept.0)
      ]
      unheard r x kept notes (inr z) = z
