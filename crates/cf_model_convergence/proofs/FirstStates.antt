-- A new volume agrees with its remote: it has only the root, and all is ahead of its cursor.
use Rattle.std.proofs.Common.{◌≡◌, ◌≤◌, ℕ, Bool, true, false, refl, sym, ap, arith}
use Rattle.std.specs.Prelude.{Option, Some, None, cond, ◌==◌}
use Rattle.cf_base.specs.declared.policies.Mode.TheVariants as mode
use Rattle.cf_model.specs.Identities.{has_target}
use Rattle.cf_model.specs.Items.{Item, root}
use Rattle.cf_model.specs.State.{items_now, start}
use Rattle.cf_model.specs.Store.{Held}
use Rattle.cf_model_laws.proofs.Gathered.{all_weaker}
use Rattle.cf_model_laws.proofs.RightItems.{no_way_back}
use Rattle.cf_model_convergence.specs.Agreeing.{IsAgreed, IsPassedHere}
use Rattle.cf_model_convergence.specs.Matching.{IsBelow}
use Rattle.cf_model_convergence.specs.Telling.{AreWhole}
use Rattle.cf_model_convergence.specs.Tidy.{IsLower, IsTidy, IsTidyItem}
use Rattle.cf_model_laws.specs.Invariant.{Among}

none_below : (remote : Held) (clusters : ℕ) (i : Item) → IsBelow (start mode.Replay remote clusters) i → ⊥
none_below remote clusters i b = by (1 == i.id.0) b.0 where
  by : (c : Bool) → cond c (Some root) None ≡ Some i → ⊥
  by true z = b.1 (ap (λ (x : Item). x.id.0) (sym (one z))) where
    one : Some root ≡ Some i → root ≡ i
    one z = cc
  by false z = never z where
    never : ◌≡◌ {A = Option Item} None (Some i) → ⊥
    never z = cc

least : (n : ℕ) → 0 ≤ n
least n = omega arith

pub first_agrees : (remote : Held) (clusters : ℕ) → IsTidy remote → IsAgreed (start mode.Replay remote clusters)
first_agrees remote clusters tidy = record {
  tidy = tidy;
  early = least remote.clock;
  alone = (tt, tt);
  tree = λ i b. absurd (none_below remote clusters i b);
  idle = λ i p b up. absurd (none_below remote clusters i b);
  passed = λ i r b target early. absurd (none_below remote clusters i b);
}

pub first_whole : (remote : Held) (clusters : ℕ) → AreWhole (start mode.Replay remote clusters)
first_whole remote clusters = ((λ file. no_way_back file), tt)

pub first_here : (remote : Held) (clusters : ℕ) → IsTidy remote → IsPassedHere (start mode.Replay remote clusters)
first_here remote clusters tidy = record {
  top = (root, refl);
  populated = ((λ dir. refl), tt);
  here = all_weaker (IsTidyItem remote) (λ r. IsLower r → r.live ≡ true → r.changed ≤ 0 → (i : Item) × Among i (items_now (start mode.Replay remote clusters)) × (has_target i r.rid ≡ true)) (λ r k lower live early. absurd (never r.changed (k.placed lower).late early)) remote.items tidy.items;
}
  where
    never : (n : ℕ) → 1 ≤ n → n ≤ 0 → ⊥
    never n a b = omega (arith, a, b)
