-- What a change of items makes of the sums over them, and of the index.
use Rattle.std.proofs.Common.{◌≡◌, ℕ, ◌+◌, ◌<◌, ◌≤◌, Bool, true, false, cond, List, [], ◌∷◌, ◌++◌, ◌-◌, length, map, refl, sym, ap, ◌∙◌, subst, arith, ◌==◌}
use Rattle.std.specs.Prelude.{Option, Some, None, count_by, max, sum_by}
use Rattle.std.proofs.lemmas.Bool.{eqb-true, ne_eqb}
use Rattle.std.proofs.lemmas.List.Sums.{sum_by-cons}
use Rattle.cf_base.specs.declared.ids.Rid.{Rid}
use Rattle.cf_model.specs.Growth.{CountsFrom}
use Rattle.cf_model.specs.Store.{Stored, at_rid, stored_at, trimmed}
use Rattle.cf_remote.specs.Held.{grown}
use Rattle.cf_remote.specs.Order.{IsIndexed, rids_of}
use Rattle.cf_remote.proofs.Orders.{counts_map, order_kept}
use Rattle.cf_remote.proofs.Placing.{KeepsPlace}

-- the index

kept_rids : (f : Stored → Stored) → KeepsPlace f → (ss : List Stored) → rids_of ss ≡ rids_of (map f ss)
kept_rids f k [] = refl
kept_rids f k (s ∷ ss) = λ i. sym (k.rid s) i ∷ kept_rids f k ss i

pub index_kept : (f : Stored → Stored) → KeepsPlace f → (items : List Stored) (index : List Rid) → IsIndexed items index → IsIndexed (map f items) index
index_kept f k items index is = record {
  ordered = map f is.ordered;
  is = record {
    counted = counts_map f k.rid 1 items is.is.counted;
    order = order_kept f k items is.ordered is.is.order;
    rids = is.is.rids ∙ kept_rids f k is.ordered;
  };
}

-- holding fewer versions keeps the place
least_keeps : (n : ℕ) (s : Stored) (d : Bool) → ((cond d s (record s { least = n })).parent ≡ s.parent) × ((cond d s (record s { least = n })).name ≡ s.name)
    × ((cond d s (record s { least = n })).rid ≡ s.rid) × ((cond d s (record s { least = n })).live ≡ s.live)
least_keeps n s true = (refl, refl, refl, refl)
least_keeps n s false = (refl, refl, refl, refl)

pub trimmed_keeps : (keep : Option ℕ) → KeepsPlace (trimmed keep)
trimmed_keeps None = record { parent = λ s. refl; name = λ s. refl; rid = λ s. refl; live = λ s. refl }
trimmed_keeps (Some count) = record {
  parent = λ s. (least_keeps (max s.least (length s.versions + 1 - count)) s s.directory).0;
  name = λ s. (least_keeps (max s.least (length s.versions + 1 - count)) s s.directory).1;
  rid = λ s. (least_keeps (max s.least (length s.versions + 1 - count)) s s.directory).2;
  live = λ s. (least_keeps (max s.least (length s.versions + 1 - count)) s s.directory).3;
}

pub grown_keeps : (keep : Option ℕ) (bytes : List ℕ) (clock : ℕ) → KeepsPlace (grown keep bytes clock)
grown_keeps keep bytes clock = record {
  parent = λ s. k.parent (record s { versions = s.versions ++ bytes ∷ []; changed = clock });
  name = λ s. k.name (record s { versions = s.versions ++ bytes ∷ []; changed = clock });
  rid = λ s. k.rid (record s { versions = s.versions ++ bytes ∷ []; changed = clock });
  live = λ s. k.live (record s { versions = s.versions ++ bytes ∷ []; changed = clock });
} where
  k : KeepsPlace (trimmed keep)
  k = trimmed_keeps keep

-- sums

pub sum_map : (g : Stored → ℕ) (f : Stored → Stored) → ((s : Stored) → g (f s) ≡ g s) → (ss : List Stored) → sum_by g (map f ss) ≡ sum_by g ss
sum_map g f e [] = refl
sum_map g f e (s ∷ ss) = sum_by-cons g (f s) (map f ss) ∙ (λ i. e s i + sum_map g f e ss i) ∙ sym (sum_by-cons g s ss)

-- as many live as before
pub live_kept : (f : Stored → Stored) → KeepsPlace f → (ss : List Stored) → count_by (λ s. s.live) (map f ss) ≡ count_by (λ s. s.live) ss
live_kept f k ss = sum_map (λ s. cond s.live 1 0) f (λ s. ap {B = ℕ} (λ (b : Bool). cond b 1 0) (k.live s)) ss

sum_others : (g : Stored → ℕ) (rid : Rid) (f : Stored → Stored) (n : ℕ) (ss : List Stored) → CountsFrom n ss → rid.0 < n → sum_by g (at_rid rid f ss) ≡ sum_by g ss
sum_others g rid f n [] h lt = refl
sum_others g rid f n (s ∷ ss) h lt =
    rw (ne_eqb s.rid.0 rid.0 (λ (e : s.rid.0 ≡ rid.0). absurd (omega (arith, h.0))))
    (sum_by-cons g s (at_rid rid f ss) ∙ ap (λ (k : ℕ). g s + k) (sum_others g rid f (n + 1) ss h.1 (omega arith)) ∙ sym (sum_by-cons g s ss))

sum_from : (g : Stored → ℕ) (rid : Rid) (f : Stored → Stored) (n : ℕ) (ss : List Stored) → CountsFrom n ss → (s : Stored) → stored_at ss rid ≡ Some s
    → sum_by g (at_rid rid f ss) + g s ≡ sum_by g ss + g (f s)
sum_from g rid f n [] h s e = cc
sum_from g rid f n (t ∷ ts) h s e = one (t.rid.0 == rid.0) refl e (sum_from g rid f (n + 1) ts h.1 s) where
  one : (b : Bool) → (t.rid.0 == rid.0) ≡ b → cond b (Some t) (stored_at ts rid) ≡ Some s → (stored_at ts rid ≡ Some s → sum_by g (at_rid rid f ts) + g s ≡ sum_by g ts + g (f s))
      → sum_by g (cond b (f t) t ∷ at_rid rid f ts) + g s ≡ sum_by g (t ∷ ts) + g (f s)
  one true k i rest =
      let same : t ≡ s = cc in
      let here : t.rid.0 ≡ rid.0 = eqb-true t.rid.0 rid.0 k in
      subst (λ (x : Stored). sum_by g (f t ∷ at_rid rid f ts) + g x ≡ sum_by g (t ∷ ts) + g (f x)) same
      (omega (arith, sum_by-cons g (f t) (at_rid rid f ts), sum_by-cons g t ts, sum_others g rid f (n + 1) ts h.1 (omega (arith, h.0, here))))
  one false k i rest = omega (arith, rest i, sum_by-cons g t (at_rid rid f ts), sum_by-cons g t ts)

-- a change of one item changes the sum by that item
pub sum_at : (g : Stored → ℕ) (rid : Rid) (f : Stored → Stored) (ss : List Stored) (s : Stored) → CountsFrom 1 ss → Some s ≡ stored_at ss rid
    → sum_by g (at_rid rid f ss) + g s ≡ sum_by g ss + g (f s)
sum_at g rid f ss s h e = sum_from g rid f 1 ss h s (sym e)

pub sum_none : (g : Stored → ℕ) (rid : Rid) (f : Stored → Stored) (ss : List Stored) → None ≡ stored_at ss rid → sum_by g (at_rid rid f ss) ≡ sum_by g ss
sum_none g rid f [] e = refl
sum_none g rid f (t ∷ ts) e = one (t.rid.0 == rid.0) e (sum_none g rid f ts) where
  one : (b : Bool) → None ≡ cond b (Some t) (stored_at ts rid) → (None ≡ stored_at ts rid → sum_by g (at_rid rid f ts) ≡ sum_by g ts) → sum_by g (cond b (f t) t ∷ at_rid rid f ts) ≡ sum_by g (t ∷ ts)
  one true i rest = cc
  one false i rest = sum_by-cons g t (at_rid rid f ts) ∙ ap (λ (k : ℕ). g t + k) (rest i) ∙ sym (sum_by-cons g t ts)

-- one item has no more than all
pub sum_has : (g : Stored → ℕ) (rid : Rid) (ss : List Stored) (s : Stored) → Some s ≡ stored_at ss rid → g s ≤ sum_by g ss
sum_has g rid [] s e = cc
sum_has g rid (t ∷ ts) s e = one (t.rid.0 == rid.0) e (sum_has g rid ts s) where
  one : (b : Bool) → Some s ≡ cond b (Some t) (stored_at ts rid) → (Some s ≡ stored_at ts rid → g s ≤ sum_by g ts) → g s ≤ sum_by g (t ∷ ts)
  one true i rest = let same : s ≡ t = cc in omega (arith, ap g same, sum_by-cons g t ts)
  one false i rest = omega (arith, rest i, sum_by-cons g t ts)
