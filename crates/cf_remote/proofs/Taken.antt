-- Whether a name is taken, by what a search finds.
use Rattle.std.proofs.Common.{◌≡◌, ◌⊎◌, inl, inr, ℕ, zero, suc, Bool, true, false, not, List, [], ◌∷◌, take, drop, get_or, refl, sym, ap, ◌∙◌, arith, ◌==◌, ◌&&◌}
use Rattle.std.specs.Prelude.{Option, Some, None}
use Rattle.std.specs.List.{list_any}
use Rattle.std.specs.Cmp.Lexicographic.{slice_cmp}
use Rattle.std.specs.declared.cmp.Ordering.{Ordering}
use Rattle.std.specs.declared.cmp.Ordering.TheVariants.{Less, Equal, Greater}
use Rattle.std.specs.Ordering.{is_eq, nat_cmp, ordering_then}
use Rattle.std.proofs.lemmas.Bool.{false_from_ne_true, true≢false}
use Rattle.std.proofs.lemmas.Bool.Decides.{nat_tests}
use Rattle.cf_base.specs.declared.ids.Rid.{Rid}
use Rattle.cf_model.specs.Store.{Stored}
use Rattle.cf_model.specs.Words.{same}
use Rattle.cf_remote.specs.Order.{Has, IsAt, IsFound, IsGap, IsIndex, against}
use Rattle.cf_remote.proofs.Members.{all_has, any_from, any_none, has_get}

both_same : (x y : ℕ) (o : Ordering) (b : Bool) → is_eq o ≡ b → is_eq (ordering_then (nat_cmp x y) o) ≡ ((x == y) && b)
both_same x y o b h = grind (arith, nat_tests)

pub same_names : (xs ys : List ℕ) → is_eq (slice_cmp nat_cmp xs ys) ≡ same xs ys
same_names [] [] = refl
same_names [] (y ∷ ys) = refl
same_names (x ∷ xs) [] = refl
same_names (x ∷ xs) (y ∷ ys) = both_same x y (slice_cmp nat_cmp xs ys) (same xs ys) (same_names xs ys)

both_equal : (o p : Ordering) → is_eq (ordering_then o p) ≡ (is_eq o && is_eq p)
both_equal Less p = refl
both_equal Equal p = refl
both_equal Greater p = refl

is_number : (x y : ℕ) → is_eq (nat_cmp x y) ≡ (x == y)
is_number x y = grind (arith, nat_tests)

-- the same place
pub same_place : (parent : Rid) (name : List ℕ) (s : Stored) → is_eq (against parent name s) ≡ ((s.parent.0 == parent.0) && same s.name name)
same_place parent name s = both_equal (nat_cmp s.parent.0 parent.0) (slice_cmp nat_cmp s.name name) ∙ (λ i. is_number s.parent.0 parent.0 i && same_names s.name name i)

pub eq_from : (o : Ordering) → is_eq o ≡ true → o ≡ Equal
eq_from Less e = cc
eq_from Equal e = refl
eq_from Greater e = cc

-- where an item of a list stands
pub split_has : (ss : List Stored) (i : ℕ) (d s : Stored) → Has ss s → Has (take i ss) s ⊎ ((s ≡ get_or ss i d) ⊎ Has (drop (suc i) ss) s)
split_has [] i d s h = absurd h
split_has (t ∷ ts) zero d s (inl e) = inr (inl e)
split_has (t ∷ ts) zero d s (inr k) = inr (inr k)
split_has (t ∷ ts) (suc i) d s (inl e) = inl (inl e)
split_has (t ∷ ts) (suc i) d s (inr k) = elim (split_has ts i d s k) [ inl h ↦ inl (inr h) | inr h ↦ inr h ]

pub split_gap : (ss : List Stored) (i : ℕ) (s : Stored) → Has ss s → Has (take i ss) s ⊎ Has (drop i ss) s
split_gap [] i s h = absurd h
split_gap (t ∷ ts) zero s h = inr h
split_gap (t ∷ ts) (suc i) s (inl e) = inl (inl e)
split_gap (t ∷ ts) (suc i) s (inr k) = elim (split_gap ts i s k) [ inl h ↦ inl (inr h) | inr h ↦ inr h ]

-- only the item that was found is at the place
pub only_at : (parent : Rid) (name : List ℕ) (ordered : List Stored) (i : ℕ) (d s : Stored) → IsAt parent name ordered i → Has ordered s → against parent name s ≡ Equal → s ≡ get_or ordered i d
only_at parent name ordered i d s at h e = elim (split_has ordered i d s h) [
  | inl k ↦ absurd (let l : Less ≡ Equal = sym (all_has (λ x. against parent name x ≡ Less) (take i ordered) at.before s k) ∙ e in cc)
  | inr (inl k) ↦ k
  | inr (inr k) ↦ absurd (let l : Greater ≡ Equal = sym (all_has (λ x. against parent name x ≡ Greater) (drop (suc i) ordered) at.after s k) ∙ e in cc)
]

pub none_at : (parent : Rid) (name : List ℕ) (ordered : List Stored) (i : ℕ) (s : Stored) → IsGap parent name ordered i → Has ordered s → against parent name s ≡ Equal → ⊥
none_at parent name ordered i s gap h e = elim (split_gap ordered i s h) [
  | inl k ↦ (let l : Less ≡ Equal = sym (all_has (λ x. against parent name x ≡ Less) (take i ordered) gap.before s k) ∙ e in cc)
  | inr k ↦ (let l : Greater ≡ Equal = sym (all_has (λ x. against parent name x ≡ Greater) (drop i ordered) gap.after s k) ∙ e in cc)
]

module _ (parent : Rid) (name : List ℕ) (but : Rid) where
  abbrev pub takes : Stored → Bool
  takes s = s.live && (s.parent.0 == parent.0) && same s.name name && not (s.rid.0 == but.0)

  parts : (a b c e : Bool) → (a && b && c && e) ≡ true → (a ≡ true) × ((b && c) ≡ true) × (e ≡ true)
  parts true true true true h = (refl, refl, refl)
  parts true true true false h = cc
  parts true true false e h = cc
  parts true false c e h = cc
  parts false b c e h = cc

  pub whole : (a b c e : Bool) → a ≡ true → (b && c) ≡ true → e ≡ true → (a && b && c && e) ≡ true
  whole true true true true h k l = refl
  whole true true true false h k l = cc
  whole true true false e h k l = cc
  whole true false c e h k l = cc
  whole false b c e h k l = cc

  module _ (items : List Stored) (index : List Rid) (ordered : List Stored) (is : IsIndex items index ordered) (i : ℕ) where
    taken_at : (t : Stored) → IsAt parent name ordered i → ((d : Stored) → get_or ordered i d ≡ t) → list_any takes items ≡ not (t.rid.0 == but.0)
    taken_at t at it =
        let s : Stored = get_or ordered i t in
        let there = is.order.stands s (has_get ordered i t at.in_range) in
        let place : ((s.parent.0 == parent.0) && same s.name name) ≡ true = sym (same_place parent name s) ∙ ap is_eq (at.at t) in
        let only : (t : Stored) → Has items t → t.live ≡ true → ((t.parent.0 == parent.0) && same t.name name) ≡ true → t ≡ s =
        λ u h live p. only_at parent name ordered i t u at (is.order.complete u h live) (eq_from (against parent name u) (same_place parent name u ∙ p)) in
        one s there.0 there.1 place only (not (s.rid.0 == but.0)) refl ∙ ap (λ (x : Stored). not (x.rid.0 == but.0)) (it t) where
          one : (s : Stored) → Has items s → s.live ≡ true → ((s.parent.0 == parent.0) && same s.name name) ≡ true
              → ((t : Stored) → Has items t → t.live ≡ true → ((t.parent.0 == parent.0) && same t.name name) ≡ true → t ≡ s) → (b : Bool) → not (s.rid.0 == but.0) ≡ b → list_any takes items ≡ b
          one s h live place only true e = any_from takes items s h (whole s.live (s.parent.0 == parent.0) (same s.name name) (not (s.rid.0 == but.0)) live place e)
          one s h live place only false e = any_none takes items (λ t k. false_from_ne_true (takes t) (λ yes'.
              let p = parts t.live (t.parent.0 == parent.0) (same t.name name) (not (t.rid.0 == but.0)) yes' in
              let same_rid : not (t.rid.0 == but.0) ≡ not (s.rid.0 == but.0) = ap (λ (x : Stored). not (x.rid.0 == but.0)) (only t k p.0 p.1) in
              true≢false (sym p.2 ∙ same_rid ∙ e)))

    taken_gap : IsGap parent name ordered i → list_any takes items ≡ false
    taken_gap gap = any_none takes items (λ s h. false_from_ne_true (takes s) (λ t.
        let p = parts s.live (s.parent.0 == parent.0) (same s.name name) (not (s.rid.0 == but.0)) t in
        none_at parent name ordered i s gap (is.order.complete s h p.0) (eq_from (against parent name s) (same_place parent name s ∙ p.1))))

  -- by the item that was found
  pub taken_found : (items : List Stored) (index : List Rid) (ordered : List Stored) → IsIndex items index ordered → (o : Option Stored) → IsFound parent name ordered o
      → list_any takes items ≡ elim o as (λ _. Bool) [ Some s ↦ not (s.rid.0 == but.0) | None ↦ false ]
  taken_found items index ordered is None f = taken_gap items index ordered is f.0 f.1
  taken_found items index ordered is (Some s) f = taken_at items index ordered is f.0 s f.1 f.2
