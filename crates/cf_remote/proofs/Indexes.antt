-- The index beside the items after a change.
use Rattle.std.proofs.Common.{◌≡◌, ◌⊎◌, inl, inr, ℕ, ◌+◌, ◌<◌, ◌≤◌, Bool, true, false, not, cond, List, [], ◌∷◌, ◌++◌, length, refl, sym, ap, ◌∙◌, subst, arith, ◌==◌, ◌&&◌}
use Rattle.std.specs.Prelude.{Option, Some, None}
use Rattle.std.specs.List.{insert, list_any}
use Rattle.std.specs.declared.cmp.Ordering.TheVariants.{Equal}
use Rattle.std.specs.Ordering.{is_eq}
use Rattle.std.proofs.lemmas.Bool.{cases_lt, ne_eqb, true≢false}
use Rattle.cf_base.specs.declared.ids.Rid.{Rid}
use Rattle.cf_model.specs.Growth.{CountsFrom}
use Rattle.cf_model.specs.Store.{Stored, at_rid, stored_at}
use Rattle.cf_model.specs.Words.{same, says}
use Rattle.cf_remote.specs.Order.{Has, IsFree, IsGap, IsIndex, IsIndexed, IsOrder, IsPart, against, placed, rids_of, without}
use Rattle.cf_remote.proofs.Counted.{none_is}
use Rattle.cf_remote.proofs.Members.{any_from, from_low, has_stored}
use Rattle.cf_remote.proofs.Orders.{counts_map, counts_more, left_has, order_dead, order_moved, order_more, part_left}
use Rattle.cf_remote.proofs.Placing.{inserted}
use Rattle.cf_remote.proofs.Taken.{same_place, takes, whole}

-- a live item is there
pub live_in : (items : List Stored) (rid : Rid) → CountsFrom 1 items → says (λ s. s.live) (stored_at items rid) ≡ true → (1 ≤ rid.0) × (rid.0 ≤ length items)
live_in items rid h live = elim (cases_lt 0 rid.0) [
  | inl low ↦ elim (cases_lt (length items) rid.0) [ inl above ↦ absurd (none (inr above)) | inr le ↦ (omega arith, le) ]
  | inr zero' ↦ absurd (none (inl (omega arith)))
] where
  none : (rid.0 ≡ 0) ⊎ (length items < rid.0) → ⊥
  none k = let e : false ≡ true = ap (says (λ s. s.live)) (sym (none_is items rid h k)) ∙ live in cc

-- a name that no other has is free
pub free_from : (parent : Rid) (name : List ℕ) (but : Rid) (items ordered : List Stored) → IsOrder items ordered → list_any (takes parent name but) items ≡ false
    → (s : Stored) → Has ordered s → (s.rid.0 == but.0) ≡ false → against parent name s ≡ Equal → ⊥
free_from parent name but items ordered is none s h other e =
    let there = is.stands s h in
    let place : ((s.parent.0 == parent.0) && same s.name name) ≡ true = sym (same_place parent name s) ∙ ap is_eq e in
    true≢false (sym (any_from (takes parent name but) items s there.0 (whole parent name but s.live (s.parent.0 == parent.0) (same s.name name) (not (s.rid.0 == but.0)) there.1 place (ap not other))) ∙ none)

module _ (items : List Stored) (index : List Rid) (ordered : List Stored) (is : IsIndex items index ordered) where
  pub index_more : (t : Stored) (place : ℕ) (rid : Rid) → t.rid.0 ≡ 1 + length items → t.live ≡ true → rid ≡ t.rid
      → list_any (λ s. s.live && (s.parent.0 == t.parent.0) && same s.name t.name && not (s.rid.0 == 0)) items ≡ false
      → (IsFree t.parent t.name ordered → IsGap t.parent t.name ordered place) → IsIndex (items ++ t ∷ []) (insert index place rid) (placed t ordered)
  index_more t place rid next live e none gap =
      let free : IsFree t.parent t.name ordered = λ s h k. free_from t.parent t.name (record { 0 = 0 }) items ordered is.order none s h
      (ne_eqb s.rid.0 0 (λ (z : s.rid.0 ≡ 0). absurd (omega (arith, from_low 1 items is.counted s (is.order.stands s h).0)))) k in
      let g = gap free in
      record {
        counted = counts_more 1 items t next is.counted;
        order = order_more items ordered t is.order live free;
        rids = (λ i. insert (is.rids i) place (e i)) ∙ inserted t ordered place g.in_range g.before g.after;
      }

  pub index_dead : (rid : Rid) (f : Stored → Stored) (left : List Rid) → ((s : Stored) → (f s).live ≡ false) → ((s : Stored) → (f s).rid ≡ s.rid) → left ≡ rids_of (without rid ordered)
      → IsIndex (at_rid rid f items) left (without rid ordered)
  index_dead rid f left dead keeps e = record {
    counted = counts_map (λ s. cond (s.rid.0 == rid.0) (f s) s) (λ s. one s (s.rid.0 == rid.0)) 1 items is.counted;
    order = order_dead items ordered rid f dead is.order;
    rids = e;
  } where
    one : (s : Stored) (b : Bool) → (cond b (f s) s).rid ≡ s.rid
    one s true = keeps s
    one s false = refl

  pub index_moved : (rid : Rid) (f : Stored → Stored) (parent : Rid) (name : List ℕ) (left : List Rid) (place : ℕ) → says (λ s. s.live) (stored_at items rid) ≡ true
      → ((s : Stored) → (f s).parent ≡ parent) → ((s : Stored) → (f s).name ≡ name) → ((s : Stored) → (f s).live ≡ s.live) → ((s : Stored) → (f s).rid ≡ s.rid)
      → list_any (takes parent name rid) items ≡ false → left ≡ rids_of (without rid ordered)
      → (IsPart items left (without rid ordered) → IsFree parent name (without rid ordered) → IsGap parent name (without rid ordered) place)
      → IsIndexed (at_rid rid f items) (insert left place rid)
  index_moved rid f parent name left place live parents names lives rids none e gap = one (stored_at items rid) refl live where
    others : IsFree parent name (without rid ordered)
    others s h k = let l = left_has rid ordered s h in free_from parent name rid items ordered is.order none s l.0 l.1 k

    keeps : (s : Stored) (b : Bool) → (cond b (f s) s).rid ≡ s.rid
    keeps s true = rids s
    keeps s false = refl

    rid_from : (a b : Rid) → a.0 ≡ b.0 → a ≡ b
    rid_from a b e = λ i. record { 0 = e i }

    one : (o : Option Stored) → stored_at items rid ≡ o → says (λ s. s.live) o ≡ true → IsIndexed (at_rid rid f items) (insert left place rid)
    one None h l = cc
    one (Some s) h l =
        let there = has_stored items rid s h in
        let same_rid : s.rid ≡ rid = rid_from s.rid rid there.1 in
        let g = gap (part_left items index ordered rid left is e) others in
        let at : (n : Rid) (m : List ℕ) → n ≡ parent → m ≡ name → IsGap n m (without rid ordered) place = λ n m i j.
        subst (λ (y : List ℕ). IsGap n y (without rid ordered) place) (sym j) (subst (λ (x : Rid). IsGap x name (without rid ordered) place) (sym i) g) in
        let here = at (f s).parent (f s).name (parents s) (names s) in
        record {
          ordered = placed (f s) (without rid ordered);
          is = record {
            counted = counts_map (λ t. cond (t.rid.0 == rid.0) (f t) t) (λ t. keeps t (t.rid.0 == rid.0)) 1 items is.counted;
            order = order_moved items ordered rid f s is.counted there.0 same_rid (lives s ∙ l)
                (λ t k m. others t k (ap (λ (y : List ℕ). against parent y t) (sym (names s)) ∙ ap (λ (x : Rid). against x (f s).name t) (sym (parents s)) ∙ m)) is.order;
            rids = (λ i. insert (e i) place ((sym (rids s ∙ same_rid)) i)) ∙ inserted (f s) (without rid ordered) place here.in_range here.before here.after;
          };
        }
