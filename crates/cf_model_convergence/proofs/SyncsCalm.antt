-- A sync that nothing is heard of leaves a settled state.
use Rattle.std.proofs.Common.{◌≡◌, ◌⊎◌, ◌<◌, ◌+◌, ℕ, zero, suc, Bool, true, false, sym, ◌∙◌, ap, subst, inl, inr, arith}
use Rattle.cf_base.specs.declared.answers.Shown.{Shown}
use Rattle.cf_base.specs.declared.answers.Shown.TheVariants as shown
use Rattle.cf_model.specs.Arrows.{choose, then_do, unit}
use Rattle.cf_model.specs.Callbacks.{drain}
use Rattle.cf_model.specs.Messages.{no_number}
use Rattle.cf_model.specs.Numbers.{most}
use Rattle.cf_model.specs.Passes.{is_last, pass, pass_anew, passes, show_unsettled, showing, sync_now, sync_passes, things, without_done}
use Rattle.cf_model.specs.Settled.{is_settled}
use Rattle.cf_model.specs.State.{Filter, State}
use Rattle.cf_model.specs.Store.{Held}
use Rattle.cf_model.specs.Trees.{Ret, Tree, Ends}
use Rattle.cf_model.proofs.TreeLaws.{kept_at_end}
use Rattle.cf_model_laws.specs.Invariant.{Invariant}
use Rattle.cf_model_laws.proofs.CallbacksGuarded.{drain_keeps}
use Rattle.cf_model_laws.proofs.ContentLaws.{sound_whole}
use Rattle.cf_model_laws.proofs.PassesGuarded.{pass_anew_keeps, passes_keeps, sync_passes_keeps}
use Rattle.cf_model_convergence.specs.Agreeing.{IsHereUnlessBuried, IsPassedHere, IsKeptUp}
use Rattle.cf_model_convergence.specs.Hearing.{IsHeard}
use Rattle.cf_model_convergence.proofs.FetchesCalm.{IsDrained, drained_calm}
use Rattle.cf_model_convergence.proofs.HeardLines.{heard_then}
use Rattle.cf_model_convergence.proofs.PassesCalm.{IsOver, IsSet, heard_before, pass_over}
use Rattle.cf_model_convergence.proofs.PushesIdle.{adds_later, numbers_left}
use Rattle.cf_model_convergence.proofs.SettledItems.{settled_none}
use Rattle.cf_model_convergence.proofs.TurnsTold.{ends_bind}
use Rattle.cf_model_convergence.proofs.SinceGuarded.{Follows}

-- one pass after another

anew_set : (s : State) → IsSet s → IsSet (without_done s)
anew_set s h = record {
  fair = h.fair;
  listening = record { inline = h.listening.inline; shows = h.listening.shows };
  free = record { connected = h.free.connected; waits = h.free.waits; boxed = h.free.boxed };
  dirs = h.dirs;
  agreed = record { tidy = h.agreed.tidy; early = h.agreed.early; alone = h.agreed.alone; tree = h.agreed.tree; idle = h.agreed.idle; passed = h.agreed.passed };
}

here_anew : (s : State) → IsPassedHere s → IsPassedHere (without_done s)
here_anew s h = record { top = h.top; populated = h.populated; here = h.here }

heard_anew : (s m : State) → IsHeard (without_done s) m → IsHeard s m
heard_anew s m k = record { lines = k.lines; noted = k.noted; heard = k.heard }

one_pass : (all : Bool) (fuel l made : ℕ) (s : State) (u : Unit {0}) (t : State) → Invariant s → IsSet s → (all ≡ true → IsHereUnlessBuried s) → Ends (passes (suc fuel) l made s) u t → no_number t ≡ false
    → ((m : State) → Invariant m → IsOver all m → Ends (passes fuel l (made + 1) m) u t → IsHeard m t ⊎ IsOver all t) → IsHeard s t ⊎ IsOver all t
one_pass all fuel l made s u t h set there ends left more = by (is_last l made s k.1) k.3 where
  k : (v : Unit {0}) × (m : State) × Ends (pass_anew s) v m × Ends (elim (is_last l made s m) as (λ _. Tree State (Unit {0})) [ true ↦ Ret unit m | false ↦ passes fuel l (made + 1) m ]) u t
  k = ends_bind (pass_anew s) (λ _ m. elim (is_last l made s m) as (λ _. Tree State (Unit {0})) [ true ↦ Ret unit m | false ↦ passes fuel l (made + 1) m ]) u t ends

  hm : Invariant k.1
  hm = kept_at_end Invariant (pass_anew s) k.0 k.1 ((pass_anew_keeps Invariant sound_whole.closed sound_whole.entering).keeps s h) k.2

  over : no_number k.1 ≡ false → IsHeard s k.1 ⊎ IsOver all k.1
  over free = here (pass_over all (without_done s) k.0 k.1 (sound_whole.closed.keeps_without_done s h) (anew_set s set) (λ e none. here_anew s (there e none)) k.2 free) where
    here : IsHeard (without_done s) k.1 ⊎ IsOver all k.1 → IsHeard s k.1 ⊎ IsOver all k.1
    here (inl z) = inl (heard_anew s k.1 z)
    here (inr z) = inr z

  by : (b : Bool) → Ends (elim b as (λ _. Tree State (Unit {0})) [ true ↦ Ret unit k.1 | false ↦ passes fuel l (made + 1) k.1 ]) u t → IsHeard s t ⊎ IsOver all t
  by true e = subst (λ (x : State). IsHeard s x ⊎ IsOver all x) (sym e.1) (over (subst (λ (x : State). no_number x ≡ false) e.1 left))
  by false e = next (over (numbers_left (passes fuel l (made + 1)) (λ P closed entering. passes_keeps P closed entering fuel l (made + 1)) k.1 u t hm e left)) where
    next : IsHeard s k.1 ⊎ IsOver all k.1 → IsHeard s t ⊎ IsOver all t
    next (inl z) = inl (heard_then s k.1 t z (adds_later (passes fuel l (made + 1)) (λ P closed entering. passes_keeps P closed entering fuel l (made + 1)) k.1 u t hm e))
    next (inr z) = later (more k.1 hm z e) where
      first : Follows s k.1
      first = adds_later pass_anew (λ P closed entering. pass_anew_keeps P closed entering) s k.0 k.1 h k.2

      later : IsHeard k.1 t ⊎ IsOver all t → IsHeard s t ⊎ IsOver all t
      later (inl y) = inl (heard_before s k.1 t first y)
      later (inr y) = inr y

passes_over : (all : Bool) (fuel l made : ℕ) (s : State) (u : Unit {0}) (t : State) → Invariant s → IsOver all s → Ends (passes fuel l made s) u t → no_number t ≡ false → IsHeard s t ⊎ IsOver all t
passes_over all zero l made s u t h over ends left = inr (subst (IsOver all) (sym ends.1) over)
passes_over all (suc n) l made s u t h over ends left = one_pass all n l made s u t h over.1 (λ e none. over.2 e) ends left (λ m hm o e. passes_over all n l (made + 1) m u t hm o e left)

some_passes : (all : Bool) (fuel : ℕ) → 0 < fuel → (l made : ℕ) (s : State) (u : Unit {0}) (t : State) → Invariant s → IsSet s → (all ≡ true → IsHereUnlessBuried s) → Ends (passes fuel l made s) u t → no_number t ≡ false → IsHeard s t ⊎ IsOver all t
some_passes all zero some l made s u t h set there ends left = absurd (never some) where
  never : 0 < zero → ⊥
  never z = omega (arith, z)
some_passes all (suc n) some l made s u t h set there ends left = one_pass all n l made s u t h set there ends left (λ m hm o e. passes_over all n l (made + 1) m u t hm o e left)

all_over : (all : Bool) (s : State) (u : Unit {0}) (t : State) → Invariant s → IsSet s → (all ≡ true → IsHereUnlessBuried s) → Ends (sync_passes s) u t → no_number t ≡ false → IsHeard s t ⊎ IsOver all t
all_over all s u t h set there ends left = some_passes all most some (things s) 0 s u t h set there (subst (λ (b : Bool). Ends (choose b (passes most (things s) 0) pass s) u t) set.listening.inline ends) left where
  some : 0 < most
  some = omega arith

-- and the rest of the sync

abbrev pub IsLeft : Bool → State → Type 0
IsLeft all s = (is_settled all s ≡ true) × IsKeptUp s × (all ≡ true → IsPassedHere s)

pub drained_left : (all : Bool) (s t : State) → IsDrained s t → IsOver all s → IsLeft all t
drained_left all s t d over =
    subst (λ (f : Filter). IsLeft all (record t { filter = f })) (sym d.filter)
    (subst (λ (r : Held). IsLeft all (record t { filter = record s.filter { notes = t.filter.notes; outbox = t.filter.outbox }; link = record t.link { remote = r } })) (sym d.remote)
    (over.0, record { passed = over.1.agreed.passed }, (λ e. let h = over.2 e in record { top = h.top; populated = h.populated; here = h.here })))

-- what the sync leaves and answers
abbrev pub IsDone : Bool → Shown → State → Type 0
IsDone all r t = IsLeft all t × (r ≡ shown.Count 0)

pub sync_over : (all : Bool) (s : State) (r : Shown) (t : State) → Invariant s → IsSet (showing s) → (all ≡ true → IsHereUnlessBuried (showing s)) → Ends (sync_now s) r t → no_number t ≡ false → IsHeard s t ⊎ IsDone all r t
sync_over all s r t h set there ends left = passed (all_over all (showing s) k.0 k.1 hs set there k.2 left_m) where
  k : (v : Unit {0}) × (m : State) × Ends (sync_passes (showing s)) v m × Ends (then_do drain show_unsettled m) r t
  k = ends_bind (sync_passes (showing s)) (λ _ m. then_do drain show_unsettled m) r t ends

  d : (v : Unit {0}) × (m : State) × Ends (drain k.1) v m × Ends (show_unsettled m) r t
  d = ends_bind (drain k.1) (λ _ m. show_unsettled m) r t k.3

  hs : Invariant (showing s)
  hs = sound_whole.closed.keeps_showing s h

  hm : Invariant k.1
  hm = kept_at_end Invariant (sync_passes (showing s)) k.0 k.1 ((sync_passes_keeps Invariant sound_whole.closed sound_whole.entering).keeps (showing s) hs) k.2

  left_m : no_number k.1 ≡ false
  left_m = numbers_left drain (λ P closed entering. drain_keeps P closed) k.1 d.0 d.1 hm d.2 (subst (λ (x : State). no_number x ≡ false) d.3.1 left)

  first : Follows s k.1
  first = let w : Follows (showing s) k.1 = adds_later sync_passes (λ P closed entering. sync_passes_keeps P closed entering) (showing s) k.0 k.1 hs k.2 in record { adds = w.adds; unfair = w.unfair }

  second : Follows k.1 d.1
  second = adds_later drain (λ P closed entering. drain_keeps P closed) k.1 d.0 d.1 hm d.2

  ended : IsHeard s d.1 ⊎ IsLeft all d.1 → IsHeard s t ⊎ IsDone all r t
  ended (inl z) = inl (subst (IsHeard s) (sym d.3.1) z)
  ended (inr z) = inr (subst (IsLeft all) (sym d.3.1) z, d.3.0 ∙ ap (λ (n : ℕ). shown.Count n) (settled_none all d.1 z.0))

  passed : IsHeard (showing s) k.1 ⊎ IsOver all k.1 → IsHeard s t ⊎ IsDone all r t
  passed (inl z) = ended (inl (heard_then s k.1 d.1 (record { lines = z.lines; noted = z.noted; heard = z.heard }) second))
  passed (inr z) = drained (drained_calm most k.1 d.0 d.1 hm z.1.fair z.1.listening z.1.free.boxed d.2) where
    drained : IsHeard k.1 d.1 ⊎ IsDrained k.1 d.1 → IsHeard s t ⊎ IsDone all r t
    drained (inl y) = ended (inl (heard_before s k.1 d.1 first y))
    drained (inr y) = ended (inr (drained_left all k.1 d.1 y z))
