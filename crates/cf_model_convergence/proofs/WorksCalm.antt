-- Events of sync and work that nothing is heard of leave a settled state.
use Rattle.std.proofs.Common.{◌≡◌, ◌⊎◌, ℕ, Bool, true, false, List, refl, sym, subst, inl, inr}
use Rattle.std.specs.List.{list_any}
use Rattle.cf_base.specs.declared.answers.Answer.{Answer}
use Rattle.cf_base.specs.declared.answers.Shown.{Shown}
use Rattle.cf_base.specs.declared.answers.Shown.TheVariants as shown
use Rattle.cf_base.specs.declared.events.EngineEvent.TheVariants as engine
use Rattle.cf_base.specs.declared.events.Event.{Event}
use Rattle.cf_base.specs.declared.events.Event.TheVariants as event
use Rattle.cf_base.specs.declared.policies.Mode.TheVariants as mode
use Rattle.cf_model.specs.Arrows.{then_do}
use Rattle.cf_model.specs.Callbacks.{drain}
use Rattle.cf_model.specs.Events.{begun}
use Rattle.cf_model.specs.Lawful.{IsStep, Runs}
use Rattle.cf_model.specs.Messages.{no_number}
use Rattle.cf_model.specs.Numbers.{most}
use Rattle.cf_model.specs.Passes.{pass, showing, sync_now}
use Rattle.cf_model.specs.Settled.{is_settled}
use Rattle.cf_model.specs.State.{State, start}
use Rattle.cf_model.specs.Store.{Held}
use Rattle.cf_model.specs.Trees.{Ends, Tree}
use Rattle.cf_model_laws.specs.Invariant.{Invariant}
use Rattle.cf_model_laws.specs.Premises.{IsFair, IsFresh}
use Rattle.cf_model_laws.proofs.CallbacksGuarded.{drain_keeps}
use Rattle.cf_model_laws.proofs.ContentLaws.{sound_whole}
use Rattle.cf_model_laws.proofs.RightItems.{no_way}
use Rattle.cf_model_convergence.specs.Agreeing.{IsHereUnlessBuried, IsPassedHere, IsKeptUp}
use Rattle.cf_model_convergence.specs.Hearing.{ArePlainWaits, IsHeard, is_heard}
use Rattle.cf_model_convergence.specs.Quiet.{is_count}
use Rattle.cf_model_convergence.specs.Tidy.{IsTidy}
use Rattle.cf_model_convergence.proofs.FetchesCalm.{IsDrained, drained_calm}
use Rattle.cf_model_convergence.proofs.HeardLines.{heard_then}
use Rattle.cf_model_convergence.proofs.PassesCalm.{IsOver, IsSet, heard_before, pass_over}
use Rattle.cf_model_convergence.proofs.PushesIdle.{adds_later, numbers_left}
use Rattle.cf_model_convergence.proofs.TurnsTold.{ends_bind}
use Rattle.cf_model_laws.specs.Keys.{AreKeysWithin}
use Rattle.cf_model.specs.Passes.{work_now}
use Rattle.cf_model.specs.Arrows.{ret}
use Rattle.cf_model.proofs.TreeLaws.{kept_at_end}
use Rattle.cf_model_laws.proofs.PassesGuarded.{pass_keeps}
use Rattle.cf_model_convergence.specs.Quiet.{is_accepted}
use Rattle.cf_model_convergence.proofs.SyncsCalm.{IsLeft, IsDone, drained_left, sync_over}
use Rattle.cf_model_convergence.proofs.EventsCalm.{run_event}
use Rattle.cf_model_convergence.proofs.SinceGuarded.{Follows}

pub work_over : (all : Bool) (s : State) (r : Shown) (t : State) → Invariant s → IsSet (showing s) → (all ≡ true → IsHereUnlessBuried (showing s)) → Ends (work_now s) r t → no_number t ≡ false → IsHeard s t ⊎ IsLeft all t
work_over all s r t h set there ends left = passed (pass_over all (showing s) k.0 k.1 hs set there k.2 left_m) where
  last : State → Tree State Shown
  last m = ret shown.Done m

  k : (v : Unit {0}) × (m : State) × Ends (pass (showing s)) v m × Ends (then_do drain (ret shown.Done) m) r t
  k = ends_bind (pass (showing s)) (λ _ m. then_do drain (ret shown.Done) m) r t ends

  d : (v : Unit {0}) × (m : State) × Ends (drain k.1) v m × Ends (ret shown.Done m) r t
  d = ends_bind (drain k.1) (λ _ m. ret shown.Done m) r t k.3

  hs : Invariant (showing s)
  hs = sound_whole.closed.keeps_showing s h

  hm : Invariant k.1
  hm = kept_at_end Invariant (pass (showing s)) k.0 k.1 ((pass_keeps Invariant sound_whole.closed sound_whole.entering).keeps (showing s) hs) k.2

  left_m : no_number k.1 ≡ false
  left_m = numbers_left drain (λ P closed entering. drain_keeps P closed) k.1 d.0 d.1 hm d.2 (subst (λ (x : State). no_number x ≡ false) d.3.1 left)

  first : Follows s k.1
  first = let w : Follows (showing s) k.1 = adds_later pass (λ P closed entering. pass_keeps P closed entering) (showing s) k.0 k.1 hs k.2 in record { adds = w.adds; unfair = w.unfair }

  second : Follows k.1 d.1
  second = adds_later drain (λ P closed entering. drain_keeps P closed) k.1 d.0 d.1 hm d.2

  ended : IsHeard s d.1 ⊎ IsLeft all d.1 → IsHeard s t ⊎ IsLeft all t
  ended (inl z) = inl (subst (IsHeard s) (sym d.3.1) z)
  ended (inr z) = inr (subst (IsLeft all) (sym d.3.1) z)

  passed : IsHeard (showing s) k.1 ⊎ IsOver all k.1 → IsHeard s t ⊎ IsLeft all t
  passed (inl z) = ended (inl (heard_then s k.1 d.1 (record { lines = z.lines; noted = z.noted; heard = z.heard }) second))
  passed (inr z) = drained (drained_calm most k.1 d.0 d.1 hm z.1.fair z.1.listening z.1.free.boxed d.2) where
    drained : IsHeard k.1 d.1 ⊎ IsDrained k.1 d.1 → IsHeard s t ⊎ IsLeft all t
    drained (inl y) = ended (inl (heard_before s k.1 d.1 first y))
    drained (inr y) = ended (inr (drained_left all k.1 d.1 y z))

-- what the event leaves, whatever it answers
abbrev IsLeftBy : Bool → Shown → State → Type 0
IsLeftBy all r t = IsLeft all t

-- in a run

pub run_silent : (remote : Held) (clusters : ℕ) (trace : List (Event × Answer)) (s : State) (a : Answer) (t : State) → Runs mode.Replay (start mode.Replay remote clusters) trace s → IsFresh remote → IsTidy remote → s.link.inline ≡ true → AreKeysWithin s.filter
    → ArePlainWaits s → IsKeptUp s → IsStep mode.Replay s (event.Engine engine.Sync) a t → IsFair t.link → is_count a.shown ≡ true → list_any is_heard a.notes ≡ false → no_number t ≡ false → (is_settled false t ≡ true) × (a.shown ≡ shown.Count 0) × IsKeptUp t
run_silent remote clusters trace s a t runs fresh tidy inline keys waits k step fair counted quiet left =
    let w : IsDone false a.shown t = run_event sync_now is_count (λ x. refl) (IsDone false) remote clusters trace s (λ r x h set e l. sync_over false (begun s) r x h set (λ z. no_way z) e l) runs (fresh, tidy, inline, keys, waits, k) (event.Engine engine.Sync) a t step fair refl refl (λ c. refl) counted quiet left in (w.0.0, w.1, w.0.1)

pub run_silent_all : (remote : Held) (clusters : ℕ) (trace : List (Event × Answer)) (s : State) (a : Answer) (t : State) → Runs mode.Replay (start mode.Replay remote clusters) trace s → IsFresh remote → IsTidy remote → s.link.inline ≡ true → AreKeysWithin s.filter
    → ArePlainWaits s → IsKeptUp s → IsHereUnlessBuried s → IsStep mode.Replay s (event.Engine engine.Sync) a t → IsFair t.link → is_count a.shown ≡ true → list_any is_heard a.notes ≡ false → no_number t ≡ false → (is_settled true t ≡ true) × IsPassedHere t
run_silent_all remote clusters trace s a t runs fresh tidy inline keys waits k there step fair counted quiet left =
    let w : IsDone true a.shown t = run_event sync_now is_count (λ x. refl) (IsDone true) remote clusters trace s (λ r x h set e l. sync_over true (begun s) r x h set (λ z none. let w : IsPassedHere s = there none in record { top = w.top; populated = w.populated; here = w.here }) e l) runs (fresh, tidy, inline, keys, waits, k) (event.Engine engine.Sync) a t step fair refl refl (λ c. refl) counted quiet left in (w.0.0, w.0.2 refl)

pub work_silent : (remote : Held) (clusters : ℕ) (trace : List (Event × Answer)) (s : State) (a : Answer) (t : State) → Runs mode.Replay (start mode.Replay remote clusters) trace s → IsFresh remote → IsTidy remote → s.link.inline ≡ true → AreKeysWithin s.filter
    → ArePlainWaits s → IsKeptUp s → IsStep mode.Replay s (event.Engine engine.Work) a t → IsFair t.link → is_accepted a.shown ≡ true → list_any is_heard a.notes ≡ false → no_number t ≡ false → (is_settled false t ≡ true) × IsKeptUp t
work_silent remote clusters trace s a t runs fresh tidy inline keys waits k step fair counted quiet left =
    let w : IsLeftBy false a.shown t = run_event work_now is_accepted (λ x. refl) (IsLeftBy false) remote clusters trace s (λ r x h set e l. work_over false (begun s) r x h set (λ z. no_way z) e l) runs (fresh, tidy, inline, keys, waits, k) (event.Engine engine.Work) a t step fair refl refl (λ c. refl) counted quiet left in (w.0, w.1)

pub work_silent_all : (remote : Held) (clusters : ℕ) (trace : List (Event × Answer)) (s : State) (a : Answer) (t : State) → Runs mode.Replay (start mode.Replay remote clusters) trace s → IsFresh remote → IsTidy remote → s.link.inline ≡ true → AreKeysWithin s.filter
    → ArePlainWaits s → IsKeptUp s → IsHereUnlessBuried s → IsStep mode.Replay s (event.Engine engine.Work) a t → IsFair t.link → is_accepted a.shown ≡ true → list_any is_heard a.notes ≡ false → no_number t ≡ false → (is_settled true t ≡ true) × IsPassedHere t
work_silent_all remote clusters trace s a t runs fresh tidy inline keys waits k there step fair counted quiet left =
    let w : IsLeftBy true a.shown t = run_event work_now is_accepted (λ x. refl) (IsLeftBy true) remote clusters trace s (λ r x h set e l. work_over true (begun s) r x h set (λ z none. let w : IsPassedHere s = there none in record { top = w.top; populated = w.populated; here = w.here }) e l) runs (fresh, tidy, inline, keys, waits, k) (event.Engine engine.Work) a t step fair refl refl (λ c. refl) counted quiet left in (w.0, w.2 refl)
