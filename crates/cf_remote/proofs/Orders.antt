-- The live items in order after a change of the items.
use Rattle.std.proofs.Common.{◌≡◌, ◌⊎◌, inl, inr, ℕ, zero, suc, ◌+◌, ◌-◌, ◌<◌, ◌≤◌, Bool, true, false, not, cond, List, [], ◌∷◌, ◌++◌, length, map, take, drop, set, get_or, refl, sym, ap, ◌∙◌, subst, arith, ◌==◌}
use Rattle.std.specs.Prelude.{Option, Some, None}
use Rattle.std.specs.List.{AllByRecursion, remove}
use Rattle.std.specs.declared.cmp.Ordering.{Ordering}
use Rattle.std.specs.declared.cmp.Ordering.TheVariants.{Less, Equal, Greater}
use Rattle.std.proofs.lemmas.Bool.{eq-eqb, eqb-true, ne_eqb, not-true}
use Rattle.std.proofs.lemmas.Cmp.{tied_itself}
use Rattle.cf_base.specs.declared.ids.Rid.{Rid}
use Rattle.cf_model.specs.Growth.{CountsFrom}
use Rattle.cf_model.specs.Store.{Stored, at_rid}
use Rattle.cf_remote.specs.Order.{Has, IsAt, IsFree, IsIndex, IsOrder, IsPart, comes, placed, rids_of, without}
use Rattle.cf_remote.proofs.Members.{all_from, all_has, filter_has, has_filter, has_get, has_last, has_map, has_more, map_has, more_has, same_item}
use Rattle.cf_remote.proofs.Placing.{KeepsPlace, comes_total, filter_rises, has_new, has_placed, map_rises, placed_has, placed_rises}
use Rattle.cf_model.specs.Words.{says}
use Rattle.cf_remote.proofs.Taken.{only_at}

-- a change of one item

pub counts_map : (f : Stored → Stored) → ((s : Stored) → (f s).rid ≡ s.rid) → (n : ℕ) (ss : List Stored) → CountsFrom n ss → CountsFrom n (map f ss)
counts_map f k n [] h = tt
counts_map f k n (s ∷ ss) h = (ap (λ (r : Rid). r.0) (k s) ∙ h.0, counts_map f k (n + 1) ss h.1)

pub counts_more : (n : ℕ) (ss : List Stored) (s : Stored) → s.rid.0 ≡ n + length ss → CountsFrom n ss → CountsFrom n (ss ++ s ∷ [])
counts_more n [] s e h = (omega arith, tt)
counts_more n (t ∷ ts) s e h = (h.0, counts_more (n + 1) ts s (omega arith) h.1)

at_others : (n : ℕ) (ss : List Stored) (rid : Rid) (f : Stored → Stored) → CountsFrom n ss → rid.0 < n → at_rid rid f ss ≡ ss
at_others n [] rid f h lt = refl
at_others n (s ∷ ss) rid f h lt = rw (ne_eqb s.rid.0 rid.0 (λ (e : s.rid.0 ≡ rid.0). absurd (omega (arith, h.0)))) (ap (λ (ts : List Stored). s ∷ ts) (at_others (n + 1) ss rid f h.1 (omega arith)))

at_from : (n k : ℕ) (ss : List Stored) (rid : Rid) (f : Stored → Stored) (d : Stored) → CountsFrom n ss → rid.0 ≡ n + k → k < length ss → set ss k (f (get_or ss k d)) ≡ at_rid rid f ss
at_from n k [] rid f d h e lt = absurd (omega arith)
at_from n zero (s ∷ ss) rid f d h e lt =
    rw (eq-eqb s.rid.0 rid.0 (omega (arith, h.0))) (ap (λ (ts : List Stored). f s ∷ ts) (sym (at_others (n + 1) ss rid f h.1 (omega arith))))
at_from n (suc k) (s ∷ ss) rid f d h e lt =
    rw (ne_eqb s.rid.0 rid.0 (λ (i : s.rid.0 ≡ rid.0). absurd (omega (arith, h.0)))) (ap (λ (ts : List Stored). s ∷ ts) (at_from (n + 1) k ss rid f d h.1 (omega arith) (omega arith)))

-- the change by rid is one by place
pub at_is : (ss : List Stored) (rid : Rid) (f : Stored → Stored) (d : Stored) → CountsFrom 1 ss → 1 ≤ rid.0 → rid.0 ≤ length ss → set ss (rid.0 - 1) (f (get_or ss (rid.0 - 1) d)) ≡ at_rid rid f ss
at_is ss rid f d h one le = at_from 1 (rid.0 - 1) ss rid f d h (omega arith) (omega arith)

pub changed : Rid → (Stored → Stored) → Stored → Stored
changed rid f s = cond (s.rid.0 == rid.0) (f s) s

-- one more item
pub order_more : (items ordered : List Stored) (t : Stored) → IsOrder items ordered → t.live ≡ true → ((s : Stored) → Has ordered s → comes s t ≡ Equal → ⊥) → IsOrder (items ++ t ∷ []) (placed t ordered)
order_more items ordered t is live apart = record {
  rises = placed_rises t ordered is.rises (all_from (λ s. comes s t ≡ Equal → ⊥) ordered apart);
  stands = λ s h. elim (placed_has t ordered s h) [
    | inl k ↦ (has_more items t s (is.stands s k).0, (is.stands s k).1)
    | inr e ↦ (subst (Has (items ++ t ∷ [])) (sym e) (has_last items t), ap (λ (x : Stored). x.live) e ∙ live)
  ];
  complete = λ s h l. elim (more_has items t s h) [
    | inl k ↦ has_placed t ordered s (is.complete s k l)
    | inr e ↦ subst (Has (placed t ordered)) (sym e) (has_new t ordered)
  ];
}

-- a change that keeps places
pub order_kept : (f : Stored → Stored) → KeepsPlace f → (items ordered : List Stored) → IsOrder items ordered → IsOrder (map f items) (map f ordered)
order_kept f k items ordered is = record {
  rises = map_rises f k ordered is.rises;
  stands = λ s h. let t = map_has f ordered s h in let r = is.stands t.0 t.1 in
      (subst (Has (map f items)) (sym t.2) (has_map f items t.0 r.0), ap (λ (x : Stored). x.live) t.2 ∙ k.live t.0 ∙ r.1);
  complete = λ s h l. let t = map_has f items s h in
      subst (Has (map f ordered)) (sym t.2) (has_map f ordered t.0 (is.complete t.0 t.1 (sym (k.live t.0) ∙ ap (λ (x : Stored). x.live) (sym t.2) ∙ l)));
}

pub one_keeps : (rid : Rid) (f : Stored → Stored) → KeepsPlace f → KeepsPlace (λ s. cond (s.rid.0 == rid.0) (f s) s)
one_keeps rid f k = record {
  parent = λ s. parents s (s.rid.0 == rid.0);
  name = λ s. names s (s.rid.0 == rid.0);
  rid = λ s. rids s (s.rid.0 == rid.0);
  live = λ s. lives s (s.rid.0 == rid.0);
} where
  parents : (s : Stored) (b : Bool) → (cond b (f s) s).parent ≡ s.parent
  parents s true = k.parent s
  parents s false = refl

  names : (s : Stored) (b : Bool) → (cond b (f s) s).name ≡ s.name
  names s true = k.name s
  names s false = refl

  rids : (s : Stored) (b : Bool) → (cond b (f s) s).rid ≡ s.rid
  rids s true = k.rid s
  rids s false = refl

  lives : (s : Stored) (b : Bool) → (cond b (f s) s).live ≡ s.live
  lives s true = k.live s
  lives s false = refl

-- another item by its rid, or the same one
at_has : (items : List Stored) (rid : Rid) (f : Stored → Stored) (s : Stored) → Has (at_rid rid f items) s
    → ((t : Stored) × Has items t × (t.rid.0 ≡ rid.0) × (s ≡ f t)) ⊎ (Has items s × ((s.rid.0 == rid.0) ≡ false))
at_has items rid f s h = let t = map_has (λ x. cond (x.rid.0 == rid.0) (f x) x) items s h in one t.0 t.1 (t.0.rid.0 == rid.0) refl t.2 where
  one : (t : Stored) → Has items t → (b : Bool) → (t.rid.0 == rid.0) ≡ b → s ≡ cond b (f t) t
      → ((t : Stored) × Has items t × (t.rid.0 ≡ rid.0) × (s ≡ f t)) ⊎ (Has items s × ((s.rid.0 == rid.0) ≡ false))
  one t k true e i = inl (t, k, eqb-true t.rid.0 rid.0 e, i)
  one t k false e i = inr (subst (Has items) (sym i) k, ap (λ (x : Stored). x.rid.0 == rid.0) i ∙ e)

has_at : (items : List Stored) (rid : Rid) (f : Stored → Stored) (s : Stored) → Has items s → (s.rid.0 == rid.0) ≡ false → Has (at_rid rid f items) s
has_at items rid f s h e = subst (Has (at_rid rid f items)) (ap (λ (b : Bool). cond b (f s) s) e) (has_map (λ x. cond (x.rid.0 == rid.0) (f x) x) items s h)

has_there : (items : List Stored) (rid : Rid) (f : Stored → Stored) (s : Stored) → Has items s → s.rid.0 ≡ rid.0 → Has (at_rid rid f items) (f s)
has_there items rid f s h e = subst (Has (at_rid rid f items)) (ap (λ (b : Bool). cond b (f s) s) (eq-eqb s.rid.0 rid.0 e)) (has_map (λ x. cond (x.rid.0 == rid.0) (f x) x) items s h)

pub left_has : (rid : Rid) (ordered : List Stored) (s : Stored) → Has (without rid ordered) s → Has ordered s × ((s.rid.0 == rid.0) ≡ false)
left_has rid ordered s h = let k = filter_has (λ x. not (x.rid.0 == rid.0)) ordered s h in (k.0, not-true (s.rid.0 == rid.0) k.1)

has_left : (rid : Rid) (ordered : List Stored) (s : Stored) → Has ordered s → (s.rid.0 == rid.0) ≡ false → Has (without rid ordered) s
has_left rid ordered s h e = has_filter (λ x. not (x.rid.0 == rid.0)) ordered s h (ap not e)

-- one item no longer live
pub order_dead : (items ordered : List Stored) (rid : Rid) (f : Stored → Stored) → ((s : Stored) → (f s).live ≡ false) → IsOrder items ordered → IsOrder (at_rid rid f items) (without rid ordered)
order_dead items ordered rid f dead is = record {
  rises = filter_rises (λ x. not (x.rid.0 == rid.0)) ordered is.rises;
  stands = λ s h. let k = left_has rid ordered s h in let l = is.stands s k.0 in (has_at items rid f s l.0 k.1, l.1);
  complete = λ s h l. elim (at_has items rid f s h) [
    | inl t ↦ absurd (let e : true ≡ false = sym l ∙ ap (λ (x : Stored). x.live) t.3 ∙ dead t.0 in cc)
    | inr k ↦ has_left rid ordered s (is.complete s k.0 l) k.1
  ];
}

-- one live item at another place
pub order_moved : (items ordered : List Stored) (rid : Rid) (f : Stored → Stored) (s : Stored) → CountsFrom 1 items → Has items s → s.rid ≡ rid → (f s).live ≡ true
    → ((t : Stored) → Has (without rid ordered) t → comes t (f s) ≡ Equal → ⊥) → IsOrder items ordered → IsOrder (at_rid rid f items) (placed (f s) (without rid ordered))
order_moved items ordered rid f s counted h e live apart is = record {
  rises = placed_rises (f s) (without rid ordered) (filter_rises (λ x. not (x.rid.0 == rid.0)) ordered is.rises) (all_from (λ x. comes x (f s) ≡ Equal → ⊥) (without rid ordered) apart);
  stands = λ t k. elim (placed_has (f s) (without rid ordered) t k) [
    | inl l ↦ (let m = left_has rid ordered t l in let n = is.stands t m.0 in (has_at items rid f t n.0 m.1, n.1))
    | inr i ↦ (subst (Has (at_rid rid f items)) (sym i) (has_there items rid f s h (ap (λ (r : Rid). r.0) e)), ap (λ (x : Stored). x.live) i ∙ live)
  ];
  complete = λ t k l. elim (at_has items rid f t k) [
    | inl m ↦ (let same : m.0 ≡ s = same_item 1 items counted m.0 s m.1 h (rid_from m.0.rid rid m.2 ∙ sym e) in
        subst (Has (placed (f s) (without rid ordered))) (sym (m.3 ∙ ap f same)) (has_new (f s) (without rid ordered)))
    | inr m ↦ has_placed (f s) (without rid ordered) t (has_left rid ordered t (is.complete t m.0 l) m.1)
  ];
} where
  rid_from : (a b : Rid) → a.0 ≡ b.0 → a ≡ b
  rid_from a b e = λ i. record { 0 = e i }

-- the index without an item
removed : (rid : Rid) (ss : List Stored) (i : ℕ) → i < length ss → ((d : Stored) → (get_or ss i d).rid.0 ≡ rid.0)
    → AllByRecursion (λ s. (s.rid.0 == rid.0) ≡ false) (take i ss) → AllByRecursion (λ s. (s.rid.0 == rid.0) ≡ false) (drop (suc i) ss)
    → remove (rids_of ss) i ≡ rids_of (without rid ss)
removed rid [] i lt at before after = absurd (omega arith)
removed rid (s ∷ ss) zero lt at before after = rw (eq-eqb s.rid.0 rid.0 (at s)) (all_left ss after) where
  all_left : (ts : List Stored) → AllByRecursion (λ t. (t.rid.0 == rid.0) ≡ false) ts → rids_of ts ≡ rids_of (without rid ts)
  all_left [] h = refl
  all_left (t ∷ ts) h = rw h.0 (ap (λ (rs : List Rid). t.rid ∷ rs) (all_left ts h.1))
removed rid (s ∷ ss) (suc i) lt at before after = rw before.0 (ap (λ (rs : List Rid). s.rid ∷ rs) (removed rid ss i (omega arith) at before.1 after))

has_take : (i : ℕ) (ss : List Stored) (s : Stored) → Has (take i ss) s → Has ss s
has_take zero ss s h = absurd h
has_take (suc i) [] s h = h
has_take (suc i) (t ∷ ts) s (inl e) = inl e
has_take (suc i) (t ∷ ts) s (inr k) = inr (has_take i ts s k)

has_drop : (i : ℕ) (ss : List Stored) (s : Stored) → Has (drop i ss) s → Has ss s
has_drop zero ss s h = h
has_drop (suc i) [] s h = h
has_drop (suc i) (t ∷ ts) s h = inr (has_drop i ts s h)

pub left_at : (items : List Stored) (index : List Rid) (ordered : List Stored) (s : Stored) (i : ℕ) → IsIndex items index ordered → Has items s → s.live ≡ true
    → IsAt s.parent s.name ordered i → remove index i ≡ rids_of (without s.rid ordered)
left_at items index ordered s i is h live at =
    let there : Has ordered s = is.order.complete s h live in
    let same : (d : Stored) → get_or ordered i d ≡ s = λ d. sym (only_at s.parent s.name ordered i d s at there (tied_itself comes_total s)) in
    ap (λ (rs : List Rid). remove rs i) is.rids
    ∙ removed s.rid ordered i at.in_range (λ d. ap (λ (x : Stored). x.rid.0) (same d))
    (all_from _ (take i ordered) (λ t k. ne_eqb t.rid.0 s.rid.0 (λ (e : t.rid.0 ≡ s.rid.0). other t (has_take i ordered t k) e Less (all_has (λ x. comes x s ≡ Less) (take i ordered) at.before t k) (λ (l : Less ≡ Equal). cc))))
    (all_from _ (drop (suc i) ordered) (λ t k. ne_eqb t.rid.0 s.rid.0 (λ (e : t.rid.0 ≡ s.rid.0). other t (has_drop (suc i) ordered t k) e Greater (all_has (λ x. comes x s ≡ Greater) (drop (suc i) ordered) at.after t k) (λ (l : Greater ≡ Equal). cc)))) where
      rid_from : (a b : Rid) → a.0 ≡ b.0 → a ≡ b
      rid_from a b e = λ i. record { 0 = e i }

      other : (t : Stored) → Has ordered t → t.rid.0 ≡ s.rid.0 → (o : Ordering) → comes t s ≡ o → (o ≡ Equal → ⊥) → ⊥
      other t k e o l unless =
          let same : t ≡ s = same_item 1 items is.counted t s (is.order.stands t k).0 h (rid_from t.rid s.rid e) in
          unless (sym l ∙ ap (λ (x : Stored). comes x s) same ∙ tied_itself comes_total s)

pub live_from : (o : Option Stored) (s : Stored) → Some s ≡ o → says (λ x. x.live) o ≡ true → s.live ≡ true
live_from None s e h = cc
live_from (Some t) s e h = let i : s ≡ t = cc in ap (λ (x : Stored). x.live) i ∙ h

pub free_gap : (parent : Rid) (name : List ℕ) (ordered : List Stored) (i : ℕ) → IsFree parent name ordered → IsAt parent name ordered i → ⊥
free_gap parent name [] i free at = absurd (omega (arith, at.in_range))
free_gap parent name (s ∷ ss) i free at = free (get_or (s ∷ ss) i s) (has_get (s ∷ ss) i s at.in_range) (at.at s)

pub part_left : (items : List Stored) (index : List Rid) (ordered : List Stored) (rid : Rid) (left : List Rid) → IsIndex items index ordered → left ≡ rids_of (without rid ordered)
    → IsPart items left (without rid ordered)
part_left items index ordered rid left is e = record {
  counted = is.counted;
  rises = filter_rises (λ x. not (x.rid.0 == rid.0)) ordered is.order.rises;
  stands = λ s h. (is.order.stands s (left_has rid ordered s h).0).0;
  rids = e;
}
