-- The passes of a sync end with a whole pass.
use Rattle.std.proofs.Common.{◌≡◌, ◌<◌, ◌+◌, ℕ, zero, suc, Bool, true, false, sym, subst, arith}
use Rattle.cf_model.specs.Arrows.{choose, unit}
use Rattle.cf_model.specs.Numbers.{most}
use Rattle.cf_model.specs.Passes.{is_last, pass, pass_anew, passes, sync_passes, things, without_done}
use Rattle.cf_model.specs.State.{State}
use Rattle.cf_model.specs.Trees.{Ret, Tree, Ends}
use Rattle.cf_model.proofs.TreeLaws.{kept_at_end}
use Rattle.cf_model_laws.specs.Invariant.{Invariant}
use Rattle.cf_model_laws.proofs.ContentLaws.{sound_whole}
use Rattle.cf_model_laws.proofs.Guarded.{Entering, Guarded}
use Rattle.cf_model_laws.proofs.PassesGuarded.{pass_anew_keeps}
use Rattle.cf_model_convergence.specs.Adding.{AddsTo}
use Rattle.cf_model_convergence.proofs.AddingGuarded.{In, entering_adds, guarded_adds, itself}
use Rattle.cf_model_convergence.proofs.TurnsTold.{ends_bind}

module _ (P : State → Type 0) (closed : Guarded P) (entering : Entering P) where
  abbrev pub IsLast : State → Type 0
  IsLast t = (m : State) × (v : Unit {0}) × P m × Ends (pass m) v t

  here : (s : State) → P s → (v : Unit {0}) (m t : State) → Ends (pass_anew s) v m → t ≡ m → IsLast t
  here s h v m t z e = (without_done s, v, closed.keeps_without_done s h, subst (λ (x : State). Ends (pass (without_done s)) v x) (sym e) z)

  -- a pass is the last, or others come
  one_more : (fuel l made : ℕ) (s : State) (u : Unit {0}) (t : State) → P s → Ends (passes (suc fuel) l made s) u t
      → ((v : Unit {0}) (m : State) → Ends (pass_anew s) v m → P m → Ends (passes fuel l (made + 1) m) u t → IsLast t) → IsLast t
  one_more fuel l made s u t h ends more =
      let k = ends_bind (pass_anew s) (λ _ m. elim (is_last l made s m) as (λ _. Tree State (Unit {0})) [ true ↦ Ret unit m | false ↦ passes fuel l (made + 1) m ]) u t ends in
      by (is_last l made s k.1) k.0 k.1 k.2 k.3 where
        by : (b : Bool) (v : Unit {0}) (m : State) → Ends (pass_anew s) v m → Ends (elim b as (λ _. Tree State (Unit {0})) [ true ↦ Ret unit m | false ↦ passes fuel l (made + 1) m ]) u t → IsLast t
        by true v m z e = here s h v m t z e.1
        by false v m z e = more v m z (kept_at_end P (pass_anew s) v m ((pass_anew_keeps P closed entering).keeps s h) z) e

  last_of : (fuel l made : ℕ) (s : State) (u : Unit {0}) (t : State) → P s → Ends (passes (suc fuel) l made s) u t → IsLast t
  last_of zero l made s u t h ends = one_more zero l made s u t h ends (λ v m z j e. here s h v m t z e.1)
  last_of (suc n) l made s u t h ends = one_more (suc n) l made s u t h ends (λ v m z j e. last_of n l (made + 1) m u t j e)

  last_some : (fuel : ℕ) → 0 < fuel → (l made : ℕ) (s : State) (u : Unit {0}) (t : State) → P s → Ends (passes fuel l made s) u t → IsLast t
  last_some zero some l made s u t h ends = absurd (never some) where
    never : 0 < zero → ⊥
    never z = omega (arith, z)
  last_some (suc n) some l made s u t h ends = last_of n l made s u t h ends

  pub last_pass : (s : State) (u : Unit {0}) (t : State) → P s → Ends (sync_passes s) u t → IsLast t
  last_pass s u t h ends = by s.link.inline ends where
    some : 0 < most
    some = omega arith

    by : (b : Bool) → Ends (choose b (passes most (things s) 0) pass s) u t → IsLast t
    by true z = last_some most some (things s) 0 s u t h z
    by false z = (s, u, h, z)

pub sync_ends : (s : State) (u : Unit {0}) (t : State) → Invariant s → Ends (sync_passes s) u t → (m : State) × (v : Unit {0}) × Invariant m × AddsTo s m × Ends (pass m) v t
sync_ends s u t h ends =
    let k = last_pass (λ x. Invariant x × In s.filter x.filter) (guarded_adds s.filter Invariant sound_whole.closed) (entering_adds s.filter Invariant sound_whole.entering) s u t (h, itself s.filter) ends in
    (k.0, k.1, k.2.0, k.2.1, k.3)
