-- A sync makes few passes.
use Rattle.std.proofs.Common.{◌≡◌, ◌<◌, ◌≤◌, ◌+◌, ◌*◌, ℕ, zero, suc, Bool, true, false, refl, subst, arith}
use Rattle.std.specs.Prelude.{min, nat_le, unwrap_or, ◌||◌}
use Rattle.std.proofs.lemmas.Bool.Decides.{nat_tests}
use Rattle.cf_model.specs.Arrows.{choose, unit}
use Rattle.cf_model.specs.Numbers.{most}
use Rattle.cf_model.specs.Passes.{did_nothing, is_last, most_passes, pass, pass_anew, passes, sync_passes, things}
use Rattle.cf_model.specs.State.{State}
use Rattle.cf_model.specs.Trees.{Ret, Tree, Ends}
use Rattle.cf_model_laws.proofs.RightItems.{no_way_back}
use Rattle.cf_model_convergence.specs.Counting.{ArePasses}
use Rattle.cf_model_convergence.proofs.TurnsTold.{ends_bind}

abbrev most_made : ℕ → ℕ
most_made l = 16 * (l + 100000 + 4)

-- another pass comes only while fewer were made
fewer : (l made : ℕ) (s m : State) → is_last l made s m ≡ false → made + 1 < most_made l
fewer l made s m e = below (unwrap_or m.running.first_clock 0) (second (did_nothing s m) (nat_le (most_passes l m) (made + 1)) e) where
  second : (a b : Bool) → (a || b) ≡ false → b ≡ false
  second true b z = no_way_back z
  second false b z = z

  over : (n k : ℕ) → nat_le n k ≡ false → k < n
  over n k z = grind (arith, nat_tests, z)

  under : (c k : ℕ) → k < 16 * (l + min 100000 c + 4) → k < 16 * (l + 100000 + 4)
  under c k z = omega (arith, z)

  below : (c : ℕ) → nat_le (16 * (l + min 100000 c + 4)) (made + 1) ≡ false → made + 1 < most_made l
  below c z = under c (made + 1) (over (16 * (l + min 100000 c + 4)) (made + 1) z)

abbrev AreFew : ℕ → ℕ → State → State → Type 0
AreFew l made s t = (n : ℕ) × ArePasses n s t × (made + n ≤ most_made l)

few_passes : (fuel l made : ℕ) (s : State) (u : Unit {0}) (t : State) → made < most_made l → Ends (passes fuel l made s) u t → AreFew l made s t
few_passes zero l made s u t small ends = (0, ends.1, none made (most_made l) small) where
  none : (a b : ℕ) → a < b → a + 0 ≤ b
  none a b z = omega (arith, z)
few_passes (suc fuel) l made s u t small ends =
    let k = ends_bind (pass_anew s) (λ _ m. elim (is_last l made s m) as (λ _. Tree State (Unit {0})) [ true ↦ Ret unit m | false ↦ passes fuel l (made + 1) m ]) u t ends in
    by k.0 k.1 k.2 (is_last l made s k.1) refl k.3 (λ few e. few_passes fuel l (made + 1) k.1 u t few e) where
      one : (a b : ℕ) → a < b → a + 1 ≤ b
      one a b z = omega (arith, z)

      more : (a n b : ℕ) → a + 1 + n ≤ b → a + suc n ≤ b
      more a n b z = omega (arith, z)

      by : (v : Unit {0}) (m : State) → Ends (pass_anew s) v m → (b : Bool) → is_last l made s m ≡ b → Ends (elim b as (λ _. Tree State (Unit {0})) [ true ↦ Ret unit m | false ↦ passes fuel l (made + 1) m ]) u t
          → (made + 1 < most_made l → Ends (passes fuel l (made + 1) m) u t → AreFew l (made + 1) m t) → AreFew l made s t
      by v m z true q e rest = (1, (m, v, z, e.1), one made (most_made l) small)
      by v m z false q e rest = let w = rest (fewer l made s m q) e in (suc w.0, (m, v, z, w.1), more made w.0 (most_made l) w.2)

pub sync_few : (s : State) (u : Unit {0}) (t : State) → s.link.inline ≡ true → Ends (sync_passes s) u t → (n : ℕ) × ArePasses n s t × (n ≤ 16 * (things s + 100000 + 4))
sync_few s u t inline ends =
    let w = few_passes most (things s) 0 s u t (some (things s)) (subst (λ (b : Bool). Ends (choose b (passes most (things s) 0) pass s) u t) inline ends) in (w.0, w.1, all w.0 (most_made (things s)) w.2) where
      some : (l : ℕ) → 0 < 16 * (l + 100000 + 4)
      some l = omega arith

      all : (n b : ℕ) → 0 + n ≤ b → n ≤ b
      all n b z = omega (arith, z)
