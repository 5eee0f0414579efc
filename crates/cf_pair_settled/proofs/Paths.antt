-- The path of an item is made of the names from it up to the root.
use Rattle.std.proofs.Common.{◌≡◌, ℕ, zero, suc, Bool, true, false, List, [], ◌∷◌, ◌++◌, refl, sym, ◌∙◌, ap, subst, length, map, eq-eqb}
use Rattle.std.specs.Prelude.{Option, Some, cond, ◌==◌}
use Rattle.std.proofs.lemmas.Bool.{eqb-true}
use Rattle.cf_base.specs.declared.ids.ItemId.{ItemId}
use Rattle.cf_base.specs.declared.ids.Rid.{Rid}
use Rattle.cf_model.specs.Items.{Item, item_of}
use Rattle.cf_model.specs.LookUp.{line_up}
use Rattle.cf_model.specs.Settled.{local_names, remote_names, same_names}
use Rattle.cf_model.specs.Store.{Held, Stored, ancestors, stored_at}
use Rattle.cf_model.specs.Words.{part, same}
use Rattle.cf_model_laws.specs.Invariant.{All}
use Rattle.cf_model_laws.proofs.FeedMovesGuarded.{root_first}
use Rattle.cf_model_laws.proofs.FoundItems.{found_id}
use Rattle.cf_model_laws.proofs.Gathered.{all_found}
use Rattle.cf_model_laws.proofs.RightItems.{no_way}
use Rattle.cf_model_laws.proofs.SoundSettles.{left_true, right_true, same_item}
use Rattle.cf_model_convergence.specs.Trees.{AreTrees, Climbs, IsUnder}
use Rattle.cf_model_convergence.proofs.ClimbLaws.{line_parent}
use Rattle.cf_model_convergence.proofs.Lines.{no_line}
use Rattle.cf_model_convergence.proofs.TakenKnown.{same_is}
use Rattle.cf_model.specs.Numbers.{root_id}
use Rattle.cf_pair_traces.specs.Pairs.{path_in}

-- the path that names make, the last first, so many at most
abbrev pub joined : ℕ → List (List ℕ) → List ℕ
joined zero names = []
joined (suc n) [] = []
joined (suc n) (m ∷ ms) = joined n ms ++ 47 ∷ m

pub same_list : (ms ns : List (List ℕ)) → same_names ms ns ≡ true → ms ≡ ns
same_list [] [] e = refl
same_list [] (n ∷ ns) e = no_way e
same_list (m ∷ ms) [] e = no_way e
same_list (m ∷ ms) (n ∷ ns) e =
    ap (λ (x : List ℕ). x ∷ ms) (same_is m n (left_true (same m n) (same_names ms ns) e))
    ∙ ap (λ (xs : List (List ℕ)). n ∷ xs) (same_list ms ns (right_true (same m n) (same_names ms ns) e))

-- the root of the remote has no names, and names are those of the items alone
pub no_names : (held : Held) (rid : Rid) → rid.0 ≡ 1 → remote_names held rid ≡ []
no_names held rid top = ap (λ (l : List ℕ). map (λ r. part (λ (i : Stored). i.name) [] (stored_at held.items (record { 0 = r }))) l) (no_line (length held.items) held.items rid top)

pub names_alike : (a b : Held) (rid : Rid) → a.items ≡ b.items → remote_names a rid ≡ remote_names b rid
names_alike a b rid e = ap (λ (items : List Stored). map (λ r. part (λ (i : Stored). i.name) [] (stored_at items (record { 0 = r }))) (ancestors (length items) items (stored_at items rid))) e

module _ (items : List Item) (found : All (λ i. item_of items i.id ≡ Some i) items) (trees : AreTrees items) where
  abbrev Stands : Item → Type 0
  Stands i = item_of items i.id ≡ Some i

  root_names : (i : Item) → i.id.0 ≡ 1 → local_names items i.id ≡ []
  root_names i top = ap (λ (l : List ℕ). map (λ k. part (λ (j : Item). j.name) [] (item_of items (record { 0 = k }))) l)
      (subst (λ (id : ItemId). line_up (length items) items (item_of items id) ≡ []) (sym (same_item i.id root_id top)) (root_first (length items) items))

  -- the names of an item are its own and those of its parent
  abbrev IsNext : Item → Item → Type 0
  IsNext i p = (item_of items i.parent ≡ Some p) × Stands p × (local_names items i.id ≡ i.name ∷ local_names items p.id)

  pub next_names : (i : Item) → Stands i → (i.id.0 ≡ 1 → ⊥) → (p : Item) × IsNext i p
  next_names i there below =
      let u = (all_found (IsUnder items) (λ j. j.id.0 == i.id.0) items i there trees.under).0 below in
      let r = (all_found (λ j. (n : ℕ) × Climbs items n j.id) (λ j. j.id.0 == i.id.0) items i there trees.reached).0 in
      let own : u.0.id.0 ≡ i.parent.0 = found_id i.parent items u.0 u.1 in
      let stands : item_of items u.0.id ≡ Some u.0 = subst (λ (id : ItemId). item_of items id ≡ Some u.0) (sym (same_item u.0.id i.parent own)) u.1 in (
        u.0,
        (
          u.1,
          stands,
          ap (λ (l : List ℕ). map (λ k. part (λ (j : Item). j.name) [] (item_of items (record { 0 = k }))) l) (line_parent items r.0 i u.0 there below u.1 r.1)
              ∙ ap (λ (o : Option Item). part (λ (j : Item). j.name) [] o ∷ local_names items u.0.id) there,
        ),
      )

  pub path_joined : (n : ℕ) (i : Item) → Stands i → path_in n items (Some i) ≡ joined n (local_names items i.id)
  path_joined zero i there = refl
  path_joined (suc n) i there = by (i.id.0 == 1) refl (λ p stands. path_joined n p stands) where
    up : (p : Item) → IsNext i p → path_in n items (Some p) ≡ joined n (local_names items p.id) → path_in n items (item_of items i.parent) ++ 47 ∷ i.name ≡ joined (suc n) (local_names items i.id)
    up p next h =
        ap (λ (o : Option Item). path_in n items o ++ 47 ∷ i.name) next.0 ∙ ap (λ (path : List ℕ). path ++ 47 ∷ i.name) h
        ∙ ap (λ (names : List (List ℕ)). joined (suc n) names) (sym next.2)

    other : (i.id.0 == 1) ≡ false → i.id.0 ≡ 1 → ⊥
    other q z = no_way (sym q ∙ eq-eqb i.id.0 1 z)

    by : (b : Bool) → (i.id.0 == 1) ≡ b → ((p : Item) → Stands p → path_in n items (Some p) ≡ joined n (local_names items p.id)) → path_in (suc n) items (Some i) ≡ joined (suc n) (local_names items i.id)
    by true q rest = ap (λ (b : Bool). cond b [] (path_in n items (item_of items i.parent) ++ 47 ∷ i.name)) q ∙ ap (λ (names : List (List ℕ)). joined (suc n) names) (sym (root_names i (eqb-true i.id.0 1 q)))
    by false q rest =
        let p = next_names i there (other q) in
        ap (λ (b : Bool). cond b [] (path_in n items (item_of items i.parent) ++ 47 ∷ i.name)) q ∙ up p.0 p.1 (rest p.0 p.1.1)
