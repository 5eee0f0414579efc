-- What a move of one item leaves of the others.
use Rattle.std.proofs.Common.{◌≡◌, ℕ, zero, suc, ◌+◌, Bool, true, false, cond, List, [], ◌∷◌, length, refl, sym, ◌∙◌, ap, subst, eqb, Some, None, Option}
use Rattle.std.specs.Prelude.{find, is_some, option_map, ◌&&◌, ◌||◌}
use Rattle.std.specs.List.{list_any}
use Rattle.std.proofs.lemmas.Bool.{and_parts, eqb-true}
use Rattle.cf_base.specs.declared.ids.ItemId.{ItemId}
use Rattle.cf_base.specs.declared.ids.Usn.{Usn}
use Rattle.cf_base.specs.declared.items.Pin.{Pin}
use Rattle.cf_model.specs.ConflictNames.{conflict_name, first_free, with_number}
use Rattle.cf_model.specs.Effects.{changed, moved}
use Rattle.cf_model.specs.Feeds.{is_under, name_in_root}
use Rattle.cf_model.specs.Items.{Item, item_of}
use Rattle.cf_model.specs.LookUp.{child_of, item_line, line_up}
use Rattle.cf_model.specs.Numbers.{root_id}
use Rattle.cf_model.specs.Words.{same}
use Rattle.cf_tree.proofs.Depths.{only}
use Rattle.cf_tree.proofs.Walks.{by_own_id, found_passes, own_id, same_item_id}
use Rattle.cf_tree.specs.Trees.{RiseFrom}

pub length_changed : (k : ItemId) (f : Item → Item) (items : List Item) → length (changed k f items) ≡ length items
length_changed k f [] = refl
length_changed k f (i ∷ is) = ap suc (length_changed k f is)

-- what is found of an id afterwards
pub found_changed : (k x : ItemId) (f : Item → Item) → ((j : Item) → (f j).id ≡ j.id) → (items : List Item) → item_of (changed k f items) x ≡ option_map (λ j. cond (eqb j.id.0 k.0) (f j) j) (item_of items x)
found_changed k x f own [] = refl
found_changed k x f own (i ∷ is) =
    ap (λ (v : ItemId). cond (eqb v.0 x.0) (Some (cond (eqb i.id.0 k.0) (f i) i)) (item_of (changed k f is) x)) (same_id (eqb i.id.0 k.0))
    ∙ three (eqb i.id.0 x.0) (found_changed k x f own is) where
      same_id : (b : Bool) → (cond b (f i) i).id ≡ i.id
      same_id true = own i
      same_id false = refl

      three : (c : Bool) → item_of (changed k f is) x ≡ option_map (λ j. cond (eqb j.id.0 k.0) (f j) j) (item_of is x) → cond c (Some (cond (eqb i.id.0 k.0) (f i) i)) (item_of (changed k f is) x) ≡ option_map (λ j. cond (eqb j.id.0 k.0) (f j) j) (cond c (Some i) (item_of is x))
      three true rest = refl
      three false rest = rest

-- another item is as it was
pub other_stays : (k : ItemId) (f : Item → Item) → ((j : Item) → (f j).id ≡ j.id) → (items : List Item) (i : Item) → eqb i.id.0 k.0 ≡ false → item_of items i.id ≡ Some i → item_of (changed k f items) i.id ≡ Some i
other_stays k f own items i apart e =
    found_changed k i.id f own items ∙ ap (λ o. option_map (λ j. cond (eqb j.id.0 k.0) (f j) j) o) e ∙ ap (λ (b : Bool). Some (cond b (f i) i)) apart

-- the way up

abbrev BothUp : Option Item → Option Item → Type 0
BothUp None None = Unit {0}
BothUp None (Some j) = ⊥
BothUp (Some i) None = ⊥
BothUp (Some i) (Some j) = (j.id ≡ i.id) × (j.parent ≡ i.parent)

up_same : (n : ℕ) (a b : List Item) → ((x : ItemId) → BothUp (item_of a x) (item_of b x)) → (o p : Option Item) → BothUp o p → line_up n b p ≡ line_up n a o
up_same zero a b all o p h = refl
up_same (suc n) a b all None None h = refl
up_same (suc n) a b all None (Some j) h = absurd h
up_same (suc n) a b all (Some i) None h = absurd h
up_same (suc n) a b all (Some i) (Some j) h =
    ap (λ (v : ItemId). cond (eqb v.0 1) [] (v.0 ∷ line_up n b (item_of b j.parent))) h.0
    ∙ ap (λ (v : ItemId). cond (eqb i.id.0 1) [] (i.id.0 ∷ line_up n b (item_of b v))) h.1
    ∙ ap (λ (l : List ℕ). cond (eqb i.id.0 1) [] (i.id.0 ∷ l)) (up_same n a b all (item_of a i.parent) (item_of b i.parent) (all i.parent))

-- an item moves within its directory
ups_stay : (items : List Item) (o : Item) (f : Item → Item) → ((j : Item) → (f j).id ≡ j.id) → ((j : Item) → (f j).parent ≡ o.parent) → item_of items o.id ≡ Some o → (x : ItemId) → BothUp (item_of items x) (item_of (changed o.id f items) x)
ups_stay items o f own stays there x = subst (λ (v : Option Item). BothUp (item_of items x) v) (sym (found_changed o.id x f own items)) (cases (item_of items x) refl) where
  cases : (v : Option Item) → item_of items x ≡ v → BothUp v (option_map (λ j. cond (eqb j.id.0 o.id.0) (f j) j) v)
  cases None e = tt
  cases (Some j) e = two (eqb j.id.0 o.id.0) refl where
    two : (b : Bool) → eqb j.id.0 o.id.0 ≡ b → BothUp (Some j) (Some (cond b (f j) j))
    two true h =
        let ids : j.id ≡ o.id = same_item_id j.id o.id (eqb-true j.id.0 o.id.0 h) in
        let one : j ≡ o = only j o (sym e ∙ ap (λ (v : ItemId). item_of items v) (own_id items x j e ∙ ids) ∙ there) in
        (own j, stays j ∙ ap (λ (v : Item). v.parent) (sym one))
    two false h = (refl, refl)

line_stays : (items : List Item) (o : Item) (f : Item → Item) → ((j : Item) → (f j).id ≡ j.id) → ((j : Item) → (f j).parent ≡ o.parent) → item_of items o.id ≡ Some o → (id : ItemId) → item_line (changed o.id f items) id ≡ item_line items id
line_stays items o f own stays there id =
    ap (λ (n : ℕ). line_up n (changed o.id f items) (item_of (changed o.id f items) id)) (length_changed o.id f items)
    ∙ up_same (length items) items (changed o.id f items) (ups_stay items o f own stays there) (item_of items id) (item_of (changed o.id f items) id) (ups_stay items o f own stays there id)

pub under_stays : (items : List Item) (o : Item) (name : List ℕ) (pin : Pin) (n : Usn) (id top : ItemId) → item_of items o.id ≡ Some o → is_under (changed o.id (moved o.parent name pin n) items) id top ≡ is_under items id top
under_stays items o name pin n id top there = ap (λ (l : List ℕ). eqb id.0 top.0 || list_any (λ k. eqb k top.0) l) (line_stays items o (moved o.parent name pin n) (λ j. refl) (λ j. refl) there id)

-- the names of another directory

none_false : (c : Bool) (i : Item) (o : Option Item) → cond c (Some i) o ≡ None → (c ≡ false) × (o ≡ None)
none_false true i o e = let z : ◌≡◌ {A = Option Item} (Some i) None = e in absurd cc
none_false false i o e = (refl, e)

names_apart : (k top : ItemId) (f : Item → Item) → ((j : Item) → eqb (f j).parent.0 top.0 ≡ false) → (q : List ℕ) (items : List Item) → find (λ j. eqb j.id.0 k.0 && eqb j.parent.0 top.0) items ≡ None → is_some (child_of (changed k f items) top q) ≡ is_some (child_of items top q)
names_apart k top f away q [] h = refl
names_apart k top f away q (i ∷ is) h = two (eqb i.id.0 k.0) h (λ r. names_apart k top f away q is r) where
  two : (b : Bool) → cond (b && eqb i.parent.0 top.0) (Some i) (find (λ j. eqb j.id.0 k.0 && eqb j.parent.0 top.0) is) ≡ None → (find (λ j. eqb j.id.0 k.0 && eqb j.parent.0 top.0) is ≡ None → is_some (child_of (changed k f is) top q) ≡ is_some (child_of is top q)) →
      is_some (cond (eqb (cond b (f i) i).parent.0 top.0 && same (cond b (f i) i).name q) (Some (cond b (f i) i)) (child_of (changed k f is) top q)) ≡ is_some (cond (eqb i.parent.0 top.0 && same i.name q) (Some i) (child_of is top q))
  two true g rest =
      let z = none_false (eqb i.parent.0 top.0) i (find (λ j. eqb j.id.0 k.0 && eqb j.parent.0 top.0) is) g in
      ap (λ (d : Bool). is_some (cond (d && same (f i).name q) (Some (f i)) (child_of (changed k f is) top q))) (away i) ∙ rest z.1
      ∙ sym (ap (λ (d : Bool). is_some (cond (d && same i.name q) (Some i) (child_of is top q))) z.0)
  two false g rest = three (eqb i.parent.0 top.0 && same i.name q) where
    three : (d : Bool) → is_some (cond d (Some i) (child_of (changed k f is) top q)) ≡ is_some (cond d (Some i) (child_of is top q))
    three true = refl
    three false = rest g

either_name : (u v w : List ℕ) (p o : Option Item) → is_some p ≡ is_some o → u ≡ v → elim p as (λ _. List ℕ) [ None ↦ w | Some i ↦ u ] ≡ elim o as (λ _. List ℕ) [ None ↦ w | Some i ↦ v ]
either_name u v w None None h e = refl
either_name u v w None (Some o) h e = let z : false ≡ true = h in absurd cc
either_name u v w (Some p) None h e = let z : true ≡ false = h in absurd cc
either_name u v w (Some p) (Some o) h e = e

free_same : (n : ℕ) (a b : List Item) (top : ItemId) (name : List ℕ) (from : ℕ) → ((q : List ℕ) → is_some (child_of b top q) ≡ is_some (child_of a top q)) → first_free n b top name from ≡ first_free n a top name from
free_same zero a b top name from h = refl
free_same (suc n) a b top name from h = either_name (first_free n b top name (from + 1)) (first_free n a top name (from + 1)) (with_number name from) (child_of b top (with_number name from)) (child_of a top (with_number name from)) (h (with_number name from)) (free_same n a b top name (from + 1) h)

-- an item that moves within another directory than the root takes no name of the root
pub root_name_stays : (items : List Item) (o p : Item) (name : List ℕ) (pin : Pin) (n : Usn) → RiseFrom 1 items → item_of items o.id ≡ Some o → eqb o.parent.0 1 ≡ false → name_in_root (changed o.id (moved o.parent name pin n) items) p ≡ name_in_root items p
root_name_stays items o p name pin n rises there away =
    let all : (q : List ℕ) → is_some (child_of (changed o.id (moved o.parent name pin n) items) root_id q) ≡ is_some (child_of items root_id q) =
    λ q. names_apart o.id root_id (moved o.parent name pin n) (λ j. away) q items (none (find (λ j. eqb j.id.0 o.id.0 && eqb j.parent.0 root_id.0) items) refl) in
    either_name (conflict_name (changed o.id (moved o.parent name pin n) items) root_id p.name) (conflict_name items root_id p.name) p.name (child_of (changed o.id (moved o.parent name pin n) items) root_id p.name) (child_of items root_id p.name) (all p.name)
    (ap (λ (m : ℕ). first_free m (changed o.id (moved o.parent name pin n) items) root_id p.name 1) (length_changed o.id (moved o.parent name pin n) items) ∙ free_same (length items) items (changed o.id (moved o.parent name pin n) items) root_id p.name 1 all) where
      none : (v : Option Item) → find (λ j. eqb j.id.0 o.id.0 && eqb j.parent.0 root_id.0) items ≡ v → v ≡ None
      none None e = refl
      none (Some j) e =
          let passes = and_parts (eqb j.id.0 o.id.0) (eqb j.parent.0 1) (found_passes (λ j. eqb j.id.0 o.id.0 && eqb j.parent.0 root_id.0) items j e) in
          let ids : j.id ≡ o.id = same_item_id j.id o.id (eqb-true j.id.0 o.id.0 passes.0) in
          let one : j ≡ o = only j o (sym (by_own_id 1 (λ j. eqb j.id.0 o.id.0 && eqb j.parent.0 root_id.0) items j rises e) ∙ ap (λ (v : ItemId). item_of items v) ids ∙ there) in
          let z : true ≡ false = sym passes.1 ∙ ap (λ (v : Item). eqb v.parent.0 1) one ∙ away in
          absurd cc
