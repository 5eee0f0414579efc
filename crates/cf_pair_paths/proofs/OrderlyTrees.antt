-- Items that form a tree are orderly: each is found by its id, and leads up to the root.
use Rattle.std.proofs.Common.{◌≡◌, ℕ, zero, suc, ◌+◌, ◌≤◌, Bool, true, false, cond, List, [], ◌∷◌, eqb, refl, sym, subst, arith}
use Rattle.std.specs.Prelude.{Some}
use Rattle.std.proofs.lemmas.Bool.{cond-true, eq-eqb, eqb-false, ne_eqb}
use Rattle.cf_base.specs.declared.ids.ItemId.{ItemId}
use Rattle.cf_model.specs.Items.{Item, item_of}
use Rattle.cf_model.specs.Numbers.{root_id}
use Rattle.cf_model.specs.Soundness.{AllSound}
use Rattle.cf_model.specs.State.{State, items_now}
use Rattle.cf_model_laws.proofs.FoundItems.{found_id}
use Rattle.cf_model_laws.proofs.Gathered.{all_both, all_weaker}
use Rattle.cf_model_laws.proofs.SoundSettles.{same_item}
use Rattle.cf_model_laws.specs.Invariant.{All}
use Rattle.cf_model_convergence.specs.Trees as trees
use Rattle.cf_model_convergence.specs.Trees.{AreTrees, Climbs}
use Rattle.cf_pair_identities.specs.Named.{AreNamed}
use Rattle.cf_pair_paths.proofs.ApartRows.{apart}
use Rattle.cf_pair_settled.specs.Settled.{IsOrderly}
use Rattle.cf_table.specs.Tables.{MeansAll}
use Rattle.cf_table.specs.declared.rows.Row.{Row}
use Rattle.cf_tree.proofs.Depths.{some_of}
use Rattle.cf_tree.specs.Trees.{AreOpen, BeginWithRoot, HaveNames, IsTree, IsUnder, RiseFrom}

-- ids that rise

above : (low : ℕ) (items : List Item) → RiseFrom low items → All (λ i. low ≤ i.id.0) items
above low [] h = tt
above low (i ∷ is) h = (h.0, all_weaker (λ j. i.id.0 + 1 ≤ j.id.0) (λ j. low ≤ j.id.0) (λ j k. lower low i.id.0 j.id.0 h.0 k) is (above (i.id.0 + 1) is h.1)) where
  lower : (a b c : ℕ) → a ≤ b → b + 1 ≤ c → a ≤ c
  lower a b c x y = omega (arith, x, y)

all_found : (low : ℕ) (items : List Item) → RiseFrom low items → All (λ i. item_of items i.id ≡ Some i) items
all_found low [] h = tt
all_found low (i ∷ is) h = (
  cond-true (eqb i.id.0 i.id.0) _ _ (eq-eqb i.id.0 i.id.0 refl),
  all_both (λ j. i.id.0 + 1 ≤ j.id.0) (λ j. item_of is j.id ≡ Some j) (λ j. item_of (i ∷ is) j.id ≡ Some j) (λ j k e. past j k e) is (above (i.id.0 + 1) is h.1) (all_found (i.id.0 + 1) is h.1),
) where
  other : (a b : ℕ) → a + 1 ≤ b → a ≡ b → ⊥
  other a b k e = omega (arith, k, e)

  past : (j : Item) → i.id.0 + 1 ≤ j.id.0 → item_of is j.id ≡ Some j → item_of (i ∷ is) j.id ≡ Some j
  past j k e = subst (λ (b : Bool). cond b (Some i) (item_of is j.id) ≡ Some j) (sym (ne_eqb i.id.0 j.id.0 (other i.id.0 j.id.0 k))) e

-- trees

module _ (items : List Item) (t : IsTree items) where
  abbrev Stands : Item → Type 0
  Stands i = item_of items i.id ≡ Some i

  parent_there : (i p : Item) → item_of items i.parent ≡ Some p → Stands p
  parent_there i p e = subst (λ (id : ItemId). item_of items id ≡ Some p) (sym (same_item p.id i.parent (found_id i.parent items p e))) e

  climbs : (n : ℕ) (i : Item) → Stands i → IsUnder n items i → Climbs items n i.id
  climbs zero i there u = u
  climbs (suc n) i there u =
      let p = some_of (item_of items i.parent) (λ p. (p.directory ≡ true) × IsUnder n items p) u.1 in
      (λ top. eqb-false i.id.0 1 u.0 top, i, there, subst (Climbs items n) (same_item p.0.id i.parent (found_id i.parent items p.0 p.1)) (climbs n p.0 (parent_there i p.0 p.1) p.2.1))

  under : (n : ℕ) (i : Item) → IsUnder n items i → trees.IsUnder items i
  under zero i u = λ below. absurd (below u)
  under (suc n) i u = λ below.
      let p = some_of (item_of items i.parent) (λ p. (p.directory ≡ true) × IsUnder n items p) u.1 in
      (p.0, p.1, p.2.0)

  found : All Stands items
  found = all_found 1 items t.order

top_of : (items : List Item) → BeginWithRoot items → (i : Item) × (item_of items root_id ≡ Some i) × (i.directory ≡ true) × (i.parent.0 ≡ 0)
top_of [] h = absurd h
top_of (i ∷ is) h = (i, cond-true (eqb i.id.0 1) _ _ (eq-eqb i.id.0 1 h.0), h.1, h.2)

are_trees : (items : List Item) → IsTree items → AreTrees items
are_trees items t = record {
  top = top_of items t.root;
  under = all_weaker (λ i. item_of items i.id ≡ Some i) (trees.IsUnder items) (λ i e. let s = t.places i.id i e in under items t s.depth i s.under) items (found items t);
  reached = all_weaker (λ i. item_of items i.id ≡ Some i) (λ i. (n : ℕ) × Climbs items n i.id) (λ i e. let s = t.places i.id i e in (s.depth, climbs items t s.depth i e s.under)) items (found items t);
}

all_plain : (items : List Item) → AllSound items → All (λ i. i.placeholder ≡ false → i.identity ≡ []) items
all_plain [] h = tt
all_plain (i ∷ is) h = ((λ e. (h.0.plain e).0), all_plain is h.1)

pub orderly : (rows : List Row) (s : State) → MeansAll rows (items_now s) → IsTree (items_now s) → AreOpen (items_now s) → HaveNames rows → AllSound (items_now s) → AreNamed false (items_now s) → IsOrderly s
orderly rows s m t o names sound named = record {
  found = found (items_now s) t;
  trees = are_trees (items_now s) t;
  apart = apart rows s m t o names;
  plain = all_plain (items_now s) sound;
  named = named;
}
