-- A tree with one more item, or one fewer, is a tree.
use Rattle.std.proofs.Common.{◌≡◌, ℕ, zero, suc, ◌+◌, ◌<◌, Bool, true, false, cond, List, [], ◌∷◌, ◌++◌, refl, sym, ap, subst, ◌∙◌, arith, eqb, Some, None, Option}
use Rattle.std.specs.Prelude.{All, MatchOption, filter}
use Rattle.std.proofs.lemmas.Bool.{and_from, cond-true, eq-eqb, eqb-false, ne_eqb, not_from_false}
use Rattle.std.proofs.lemmas.List.{append-nil}
use Rattle.cf_base.specs.declared.ids.ItemId.{ItemId}
use Rattle.cf_base.specs.declared.ids.Usn.{Usn}
use Rattle.cf_base.specs.declared.items.Pin.{Pin}
use Rattle.cf_model.specs.Effects.{copied, copies, without}
use Rattle.cf_model.specs.Items.{Item, item_of, root}
use Rattle.cf_model.specs.LookUp.{children, depth_at, is_child, is_child_named}
use Rattle.cf_model.specs.Words.{same}
use Rattle.cf_tree.specs.Trees.{BeginWithRoot, IsTree, IsUnder, MayCome, Stands}
use Rattle.cf_tree.proofs.Depths.{only, some_of}
use Rattle.cf_tree.proofs.FoundLater.{fewer_rise, find_before, find_kept, filter_passes, find_past, is_not, new_rises, none_pass, was_there}
use Rattle.cf_tree.proofs.Heights.{depth_is}
use Rattle.cf_tree.proofs.Walks.{own_id}

pub same_own : (xs : List ℕ) → same xs xs ≡ true
same_own [] = refl
same_own (x ∷ xs) = and_from _ _ (eq-eqb x x refl) (same_own xs)

pub own_child : (i : Item) → is_child_named i.parent i.name i ≡ true
own_child i = and_from _ _ (eq-eqb i.parent.0 i.parent.0 refl) (same_own i.name)

-- the root alone

pub root_tree : IsTree (root ∷ [])
root_tree = record {
  order = (omega arith, tt);
  root = (refl, refl, refl);
  places = λ id i e. alone i (which (eqb 1 id.0) i e);
} where
  which : (b : Bool) (i : Item) → cond b (Some root) None ≡ Some i → root ≡ i
  which true i e = only root i e
  which false i e = let z : ◌≡◌ {A = Option Item} None (Some i) = e in absurd cc

  alone : (i : Item) → root ≡ i → Stands (root ∷ []) i
  alone i e = subst (λ v. Stands (root ∷ []) v) e (record { depth = 0; few = omega arith; under = refl; alone = refl })

-- one more item

under_more : (d : ℕ) (items more : List Item) (j : Item) → IsUnder d items j → IsUnder d (items ++ more) j
under_more zero items more j h = h
under_more (suc d) items more j h =
    let p = some_of (item_of items j.parent) (λ p. (p.directory ≡ true) × IsUnder d items p) h.1 in
    (h.0, subst (λ o. MatchOption o ⊥ (λ q. (q.directory ≡ true) × IsUnder d (items ++ more) q)) (sym (find_before (λ k. eqb k.id.0 j.parent.0) items more p.0 p.1)) (p.2.0, under_more d items more p.0 p.2.1))

stands_more : (items more : List Item) (j : Item) → Stands items j → Stands (items ++ more) j
stands_more items more j s = record { depth = s.depth; few = s.few; under = under_more s.depth items more j s.under; alone = find_before (is_child_named j.parent j.name) items more j s.alone }

begins_more : (items more : List Item) → BeginWithRoot items → BeginWithRoot (items ++ more)
begins_more [] more h = absurd h
begins_more (r ∷ is) more h = h

past_root : (items : List Item) (new : Item) → BeginWithRoot items → All (λ i. i.id.0 < new.id.0) items → 1 < new.id.0
past_root [] new h last = absurd h
past_root (r ∷ is) new h last = let lt = last 0 r (omega arith) in omega (arith, h.0)

pub grown : (items : List Item) (new : Item) → IsTree items → MayCome items new.id new.parent new.name → IsTree (items ++ new ∷ [])
grown items new t may = record {
  order = new_rises 1 items new t.order may.last (omega (arith, past_root items new t.root may.last));
  root = begins_more items (new ∷ []) t.root;
  places = λ id i e. cases id i (item_of items id) refl e;
} where
  stands_new : Stands (items ++ new ∷ []) new
  stands_new =
      let above = t.places new.parent may.room.above may.room.there in
      let deep : depth_at items new.parent ≡ above.depth = depth_is items new.parent may.room.above above.depth may.room.there above.under in
      record {
        depth = suc above.depth;
        few = omega (arith, may.room.few, deep);
        under = (
          ne_eqb new.id.0 1 (λ one. omega (arith, past_root items new t.root may.last, one)),
          subst (λ o. MatchOption o ⊥ (λ q. (q.directory ≡ true) × IsUnder above.depth (items ++ new ∷ []) q)) (sym (find_before (λ k. eqb k.id.0 new.parent.0) items (new ∷ []) may.room.above may.room.there))
              (may.room.directory, under_more above.depth items (new ∷ []) may.room.above above.under),
        );
        alone = find_past (is_child_named new.parent new.name) items (new ∷ []) may.free ∙ cond-true (is_child_named new.parent new.name new) _ _ (own_child new);
      }

  last_one : (b : Bool) (i : Item) → cond b (Some new) None ≡ Some i → Stands (items ++ new ∷ []) i
  last_one true i e = subst (λ v. Stands (items ++ new ∷ []) v) (only new i e) stands_new
  last_one false i e = let z : ◌≡◌ {A = Option Item} None (Some i) = e in absurd cc

  cases : (id : ItemId) (i : Item) (o : Option Item) → item_of items id ≡ o → item_of (items ++ new ∷ []) id ≡ Some i → Stands (items ++ new ∷ []) i
  cases id i (Some j) f e =
      let was : j ≡ i = only j i (sym (find_before (λ k. eqb k.id.0 id.0) items (new ∷ []) j f) ∙ e) in
      subst (λ v. Stands (items ++ new ∷ []) v) was (stands_more items (new ∷ []) j (t.places id j f))
  cases id i None f e = last_one (eqb new.id.0 id.0) i (sym (find_past (λ k. eqb k.id.0 id.0) items (new ∷ []) f) ∙ e)

pub copy_grown : (items : List Item) (item parent : ItemId) (name : List ℕ) (pin : Pin) (n : Usn) (source : Option Item) → IsTree items → MayCome items item parent name → IsTree (items ++ copies item parent name pin n source)
copy_grown items item parent name pin n None t may = subst IsTree (sym (append-nil items)) t
copy_grown items item parent name pin n (Some i) t may = grown items (copied item parent name pin n i) t may

-- one item fewer, which had no children

module _ (items : List Item) (key : ItemId) (bare : children items key ≡ []) where
  parent_stays : (id : ItemId) (j : Item) → item_of items id ≡ Some j → eqb j.parent.0 key.0 ≡ false
  parent_stays id j e = none_pass (λ k. eqb k.id.0 id.0) (is_child key) items j bare e

  under_fewer : (d : ℕ) (id : ItemId) (j : Item) → item_of items id ≡ Some j → IsUnder d items j → IsUnder d (without key items) j
  under_fewer zero id j e h = h
  under_fewer (suc d) id j e h =
      let p = some_of (item_of items j.parent) (λ p. (p.directory ≡ true) × IsUnder d items p) h.1 in
      let stays : is_not key p.0 ≡ true = not_from_false _ (ap (λ (v : ItemId). eqb v.0 key.0) (sym (own_id items j.parent p.0 p.1)) ∙ parent_stays id j e) in
      (h.0, subst (λ o. MatchOption o ⊥ (λ q. (q.directory ≡ true) × IsUnder d (without key items) q)) (sym (find_kept (λ k. eqb k.id.0 j.parent.0) (is_not key) items p.0 p.1 stays)) (p.2.0, under_fewer d j.parent p.0 p.1 p.2.1))

  pub shrunk : eqb key.0 1 ≡ false → IsTree items → IsTree (without key items)
  shrunk other t = record {
    order = fewer_rise (is_not key) 1 items t.order;
    root = begins items t.root;
    places = λ id i e.
        let was : item_of items id ≡ Some i = was_there items id key i e in
        let s = t.places id i was in
        record {
          depth = s.depth;
          few = s.few;
          under = under_fewer s.depth id i was s.under;
          alone = find_kept (is_child_named i.parent i.name) (is_not key) items i s.alone (remains i id e);
        };
  } where
    remains : (i : Item) (id : ItemId) → item_of (without key items) id ≡ Some i → is_not key i ≡ true
    remains i id e = filter_passes (λ k. eqb k.id.0 id.0) (is_not key) items i e

    begins : (list : List Item) → BeginWithRoot list → BeginWithRoot (filter (is_not key) list)
    begins [] h = absurd h
    begins (r ∷ is) h = subst BeginWithRoot (sym (cond-true (is_not key r) (r ∷ filter (is_not key) is) _ (not_from_false _ (ne_eqb r.id.0 key.0 (λ e. eqb-false key.0 1 other (sym e ∙ h.0)))))) h
