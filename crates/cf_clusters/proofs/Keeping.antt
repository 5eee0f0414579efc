-- How calls on the clusters follow one another.
use Rattle.std.proofs.Common.{◌≡◌, ℕ, ◌<◌, zero, suc, [], ◌∷◌, true, false, List, Option, Some, None, length, set, sym, subst, ◌∙◌, ap, eqb, inl, inr, get_or-set_other}
use Rattle.std.proofs.lemmas.Bool.{cases_Bool, eqb-true, eq-eqb}
use Rattle.cf_disk.specs.Disk.{State, Leaves}
use Rattle.cf_disk.specs.Leaving.{leaves_then}
use Rattle.cf_clusters.specs.declared.uses.Use.{Use}
use Rattle.cf_clusters.specs.declared.uses.Use.TheVariants.{Free, Held, Staged, Dropped}
use Rattle.cf_clusters.specs.Area.{SameWhere, KeepsWhere}
use Rattle.cf_clusters.specs.Roles.{use_of, dropped, dropped_at, staged_at, IsCommitted}

pub same_weaker : (P Q : Use → Type 0) (uses : List Use) (old new : List ℕ) → ((u : Use) → Q u → P u) → SameWhere P uses old new → SameWhere Q uses old new
same_weaker P Q uses old new f same = record { size = same.size; halves = same.halves; clusters = λ k lt q. same.clusters k lt (f (use_of uses k) q) }

pub same_then : (P : Use → Type 0) (uses next : List Use) (a b c : List ℕ) → length next ≡ length uses → ((k : ℕ) → P (use_of uses k) → P (use_of next k)) → SameWhere P uses a b → SameWhere P next b c → SameWhere P uses a c
same_then P uses next a b c size on p q = record {
  size = q.size ∙ p.size;
  halves = q.halves ∙ p.halves;
  clusters = λ k lt is. q.clusters k (subst (λ (n : ℕ). k < n) (sym size) lt) (on k is) ∙ p.clusters k lt is;
}

-- a second call after a first one: what the uses before kept is kept
pub keeps_then : (P : Use → Type 0) (uses next : List Use) (a b c : State) → length next ≡ length uses → ((k : ℕ) → P (use_of uses k) → P (use_of next k)) → Leaves a b (KeepsWhere P uses a) → Leaves b c (KeepsWhere P next b) → Leaves a c (KeepsWhere P uses a)
keeps_then P uses next a b c size on p q = leaves_then a b c (KeepsWhere P uses a) (KeepsWhere P next b) p q
    (λ d near. let was = p.now near.0 near.1 in (was.0, was.1, same_then P uses next was.0 near.0 d size on was.2 near.2))

pub committed_drops : (uses : List Use) (j k : ℕ) → IsCommitted (use_of uses k) → IsCommitted (use_of (dropped_at j uses) k)
committed_drops uses j k is = elim (cases_Bool (eqb k j)) [
  | inl e ↦ at_same (eqb-true k j e)
  | inr e ↦ subst IsCommitted (sym (get_or-set_other uses j k (dropped (use_of uses j)) Held (λ (h : k ≡ j). let z : true ≡ false = sym (eq-eqb k j h) ∙ e in cc))) is
] where
  still : (u : Use) → IsCommitted u → IsCommitted (dropped u)
  still Free is = is
  still Held is = tt
  still Staged is = is
  still Dropped is = tt

  within : (us : List Use) (k : ℕ) → IsCommitted (use_of us k) → IsCommitted (use_of (dropped_at k us) k)
  within [] k is = is
  within (u ∷ us) zero is = still u is
  within (u ∷ us) (suc k) is = within us k is

  at_same : k ≡ j → IsCommitted (use_of (dropped_at j uses) k)
  at_same e = subst (λ (n : ℕ). IsCommitted (use_of (dropped_at j uses) n)) (sym e) (within uses j (subst (λ (n : ℕ). IsCommitted (use_of uses n)) e is))

-- what the last commit holds it holds after a stage
pub committed_stays : (uses : List Use) (j : ℕ) (old : Option ℕ) (k : ℕ) → use_of uses j ≡ Free → IsCommitted (use_of uses k) → IsCommitted (use_of (staged_at j old uses) k)
committed_stays uses j None k free is = staged uses j k free is where
  staged : (uses : List Use) (j k : ℕ) → use_of uses j ≡ Free → IsCommitted (use_of uses k) → IsCommitted (use_of (set uses j Staged) k)
  staged uses j k free is = subst IsCommitted (sym (get_or-set_other uses j k Staged Held (λ (h : k ≡ j). subst IsCommitted (ap (use_of uses) h ∙ free) is))) is
committed_stays uses j (Some o) k free is = committed_drops (set uses j Staged) o k (staged uses j k free is) where
  staged : (uses : List Use) (j k : ℕ) → use_of uses j ≡ Free → IsCommitted (use_of uses k) → IsCommitted (use_of (set uses j Staged) k)
  staged uses j k free is = subst IsCommitted (sym (get_or-set_other uses j k Staged Held (λ (h : k ≡ j). subst IsCommitted (ap (use_of uses) h ∙ free) is))) is
