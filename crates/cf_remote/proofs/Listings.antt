-- The children of a directory in order of name: two lists in order with the same members are one list.
use Rattle.std.proofs.Common.{◌≡◌, ◌⊎◌, inl, inr, ℕ, Bool, true, false, not, cond, List, [], ◌∷◌, length, map, refl, sym, ap, ◌∙◌, subst, arith, ◌==◌, ◌&&◌, ◌||◌, ◌+◌}
use Rattle.std.specs.Prelude.{filter, nat_lt}
use lib.Dec.{eqb}
use Rattle.std.specs.List.{AllByRecursion, filter_map, list_any}
use Rattle.std.specs.Cmp.Lexicographic.{slice_cmp}
use Rattle.std.specs.declared.cmp.Ordering.{Ordering}
use Rattle.std.specs.declared.cmp.Ordering.TheVariants.{Less, Equal, Greater}
use Rattle.std.specs.Ordering.{is_lt, nat_cmp, ordering_reverse, ordering_then}
use Rattle.std.proofs.lemmas.Bool.{and_from, and_parts, eqb-true, false_from_ne_true, ne_eqb}
use Rattle.std.proofs.lemmas.Bool.Decides.{nat_tests}
use Rattle.std.proofs.lemmas.Cmp.{nat_list_cmp_total, tied_itself}
use Rattle.cf_base.specs.declared.ids.Rid.{Rid}
use Rattle.cf_base.specs.declared.messages.Entry.{Entry}
use Rattle.cf_model.specs.Growth.{CountsFrom}
use Rattle.cf_model.specs.Store.{Stored, entry_told}
use Rattle.cf_model.specs.Words.{comes_before, put_in, sorted}
use Rattle.cf_remote.specs.Order.{Has, IsIndex, IsOrder, Rises, children, comes, rids_of, told_at}
use Rattle.cf_remote.proofs.Members.{all_has, any_from, any_none, filter_has, from_low, has_filter, stored_has}
use Rattle.cf_remote.proofs.Placing.{comes_total, filter_rises}

-- names in order

both_before : (x y : ℕ) (o : Ordering) (b : Bool) → is_lt o ≡ b → is_lt (ordering_then (nat_cmp x y) o) ≡ (nat_lt x y || ((x == y) && b))
both_before x y o b h = grind (arith, nat_tests)

pub before_is : (xs ys : List ℕ) → is_lt (slice_cmp nat_cmp xs ys) ≡ comes_before xs ys
before_is [] [] = refl
before_is [] (y ∷ ys) = refl
before_is (x ∷ xs) [] = refl
before_is (x ∷ xs) (y ∷ ys) = both_before x y (slice_cmp nat_cmp xs ys) (comes_before xs ys) (before_is xs ys)

pub lt_from : (o : Ordering) → is_lt o ≡ true → o ≡ Less
lt_from Less e = refl
lt_from Equal e = cc
lt_from Greater e = cc

before_trans : (xs ys zs : List ℕ) → comes_before xs ys ≡ true → comes_before ys zs ≡ true → comes_before xs zs ≡ true
before_trans xs ys zs h k =
    sym (before_is xs zs) ∙ ap is_lt (nat_list_cmp_total.trans xs ys zs (lt_from (slice_cmp nat_cmp xs ys) (before_is xs ys ∙ h)) (lt_from (slice_cmp nat_cmp ys zs) (before_is ys zs ∙ k)))

pub before_itself : (xs : List ℕ) → comes_before xs xs ≡ true → ⊥
before_itself xs h = let e : Less ≡ Equal = sym (lt_from (slice_cmp nat_cmp xs xs) (before_is xs xs ∙ h)) ∙ tied_itself nat_list_cmp_total xs in cc

-- names that are not one come in order one way
before_other : (xs ys : List ℕ) → comes_before ys xs ≡ false → (slice_cmp nat_cmp xs ys ≡ Equal → ⊥) → comes_before xs ys ≡ true
before_other xs ys h k = one (slice_cmp nat_cmp xs ys) refl where
  one : (o : Ordering) → slice_cmp nat_cmp xs ys ≡ o → comes_before xs ys ≡ true
  one Less e = sym (before_is xs ys) ∙ ap is_lt e
  one Equal e = absurd (k e)
  one Greater e =
      let back : slice_cmp nat_cmp ys xs ≡ Less = nat_list_cmp_total.antisymm ys xs ∙ ap ordering_reverse e in
      let no : true ≡ false = sym (ap is_lt back) ∙ before_is ys xs ∙ h in cc

-- entries in order of name

abbrev pub Before : Entry → List Entry → Type 0
Before e es = AllByRecursion (λ f. comes_before e.name f.name ≡ true) es

abbrev pub Ascends : List Entry → Type 0
Ascends [] = Unit {0}
Ascends (e ∷ es) = Before e es × Ascends es

abbrev pub In : List Entry → Entry → Type 0
In [] e = ⊥
In (f ∷ fs) e = (e ≡ f) ⊎ In fs e

pub before_in : (e f : Entry) (es : List Entry) → Before e es → In es f → comes_before e.name f.name ≡ true
before_in e f [] h k = absurd k
before_in e f (g ∷ gs) h (inl i) = subst (λ (x : Entry). comes_before e.name x.name ≡ true) (sym i) h.0
before_in e f (g ∷ gs) h (inr k) = before_in e f gs h.1 k

one_list : (es fs : List Entry) → Ascends es → Ascends fs → ((e : Entry) → In es e → In fs e) → ((e : Entry) → In fs e → In es e) → es ≡ fs
one_list [] [] a b there back = refl
one_list [] (f ∷ fs) a b there back = absurd (back f (inl refl))
one_list (e ∷ es) [] a b there back = absurd (there e (inl refl))
one_list (e ∷ es) (f ∷ fs) a b there back =
    let same : e ≡ f = heads (there e (inl refl)) (back f (inl refl)) in
    let rest : es ≡ fs = one_list es fs a.1 b.1
    (λ x k. elim (there x (inr k)) [ inl i ↦ absurd (before_itself e.name (subst (λ (y : Entry). comes_before e.name y.name ≡ true) (i ∙ sym same) (before_in e x es a.0 k))) | inr h ↦ h ])
    (λ x k. elim (back x (inr k)) [ inl i ↦ absurd (before_itself f.name (subst (λ (y : Entry). comes_before f.name y.name ≡ true) (i ∙ same) (before_in f x fs b.0 k))) | inr h ↦ h ]) in
    λ i. same i ∷ rest i where
      heads : (e ≡ f) ⊎ In fs e → (f ≡ e) ⊎ In es f → e ≡ f
      heads (inl i) k = i
      heads (inr h) (inl i) = sym i
      heads (inr h) (inr k) = absurd (before_itself e.name (before_trans e.name f.name e.name (before_in e f es a.0 k) (before_in f e fs b.0 h)))

-- a list sorted

abbrev by_name : Entry → Entry → Bool
by_name e f = comes_before e.name f.name

in_put : (e x : Entry) (es : List Entry) → In (put_in by_name e es) x → (x ≡ e) ⊎ In es x
in_put e x [] (inl i) = inl i
in_put e x [] (inr k) = inr k
in_put e x (f ∷ fs) h = one (by_name f e) (in_put e x fs) h where
  one : (b : Bool) → (In (put_in by_name e fs) x → (x ≡ e) ⊎ In fs x) → In (cond b (f ∷ put_in by_name e fs) (e ∷ f ∷ fs)) x → (x ≡ e) ⊎ In (f ∷ fs) x
  one true rest (inl i) = inr (inl i)
  one true rest (inr k) = elim (rest k) [ inl i ↦ inl i | inr h ↦ inr (inr h) ]
  one false rest (inl i) = inl i
  one false rest (inr k) = inr k

put_has : (e x : Entry) (es : List Entry) → (x ≡ e) ⊎ In es x → In (put_in by_name e es) x
put_has e x [] h = h
put_has e x (f ∷ fs) h = one (by_name f e) (put_has e x fs) h where
  one : (b : Bool) → ((x ≡ e) ⊎ In fs x → In (put_in by_name e fs) x) → (x ≡ e) ⊎ In (f ∷ fs) x → In (cond b (f ∷ put_in by_name e fs) (e ∷ f ∷ fs)) x
  one true rest (inl i) = inr (rest (inl i))
  one true rest (inr (inl i)) = inl i
  one true rest (inr (inr k)) = inr (rest (inr k))
  one false rest k = k

pub in_sorted : (x : Entry) (es : List Entry) → In (sorted by_name es) x → In es x
in_sorted x [] h = h
in_sorted x (e ∷ es) h = elim (in_put e x (sorted by_name es) h) [ inl i ↦ inl i | inr k ↦ inr (in_sorted x es k) ]

sorted_has : (x : Entry) (es : List Entry) → In es x → In (sorted by_name es) x
sorted_has x [] h = h
sorted_has x (e ∷ es) (inl i) = put_has e x (sorted by_name es) (inl i)
sorted_has x (e ∷ es) (inr k) = put_has e x (sorted by_name es) (inr (sorted_has x es k))

-- no two with one name
abbrev Apart : List Entry → Type 0
Apart [] = Unit {0}
Apart (e ∷ es) = ((f : Entry) → In es f → slice_cmp nat_cmp e.name f.name ≡ Equal → ⊥) × Apart es

all_in : (P : Entry → Type 0) (es : List Entry) → ((f : Entry) → In es f → P f) → AllByRecursion P es
all_in P [] h = tt
all_in P (e ∷ es) h = (h e (inl refl), all_in P es (λ f k. h f (inr k)))

put_ascends : (e : Entry) (es : List Entry) → Ascends es → ((f : Entry) → In es f → slice_cmp nat_cmp e.name f.name ≡ Equal → ⊥) → Ascends (put_in by_name e es)
put_ascends e [] a apart = (tt, tt)
put_ascends e (f ∷ fs) a apart = one (by_name f e) refl (put_ascends e fs a.1 (λ x k. apart x (inr k))) where
  one : (b : Bool) → by_name f e ≡ b → Ascends (put_in by_name e fs) → Ascends (cond b (f ∷ put_in by_name e fs) (e ∷ f ∷ fs))
  one true h rest = (
    all_in (λ x. comes_before f.name x.name ≡ true) (put_in by_name e fs) (λ x k. elim (in_put e x fs k) [
      | inl i ↦ subst (λ (y : Entry). comes_before f.name y.name ≡ true) (sym i) h
      | inr l ↦ before_in f x fs a.0 l
    ]),
    rest,
  )
  one false h rest =
      let first : comes_before e.name f.name ≡ true = before_other e.name f.name h (apart f (inl refl)) in
      ((first, all_in (λ x. comes_before e.name x.name ≡ true) fs (λ x k. before_trans e.name f.name x.name first (before_in f x fs a.0 k))), a)

sorted_ascends : (es : List Entry) → Apart es → Ascends (sorted by_name es)
sorted_ascends [] h = tt
sorted_ascends (e ∷ es) h = put_ascends e (sorted by_name es) (sorted_ascends es h.1) (λ f k. h.0 f (in_sorted f es k))

-- what is told of items

pub told_has : (ss : List Stored) (s : Stored) → Has ss s → In (map entry_told ss) (entry_told s)
told_has [] s h = absurd h
told_has (t ∷ ts) s (inl e) = inl (ap entry_told e)
told_has (t ∷ ts) s (inr k) = inr (told_has ts s k)

pub has_told : (ss : List Stored) (e : Entry) → In (map entry_told ss) e → (s : Stored) × Has ss s × (e ≡ entry_told s)
has_told [] e h = absurd h
has_told (t ∷ ts) e (inl i) = (t, inl refl, i)
has_told (t ∷ ts) e (inr k) = let h = has_told ts e k in (h.0, inr h.1, h.2)

-- items of one directory
names_order : (s t : Stored) → s.parent.0 ≡ t.parent.0 → comes s t ≡ slice_cmp nat_cmp s.name t.name
names_order s t e = rw (numbers s.parent.0 t.parent.0 e) refl where
  numbers : (x y : ℕ) → x ≡ y → nat_cmp x y ≡ Equal
  numbers x y e = grind (arith, nat_tests)

pub told_ascends : (rid : Rid) (ss : List Stored) → Rises ss → ((s : Stored) → Has ss s → s.parent.0 ≡ rid.0) → Ascends (map entry_told ss)
told_ascends rid [] h p = tt
told_ascends rid (s ∷ ss) h p = (
  all_in (λ f. comes_before s.name f.name ≡ true) (map entry_told ss) (λ f k.
      let t = has_told ss f k in
      subst (λ (x : Entry). comes_before s.name x.name ≡ true) (sym t.2)
      (sym (before_is s.name t.0.name) ∙ ap is_lt (sym (names_order s t.0 (p s (inl refl) ∙ sym (p t.0 (inr t.1)))) ∙ all_has (λ x. comes s x ≡ Less) ss h.0 t.0 t.1))),
  told_ascends rid ss h.1 (λ t k. p t (inr k)),
)

-- two that are at one place are one
pub rises_one : (ss : List Stored) → Rises ss → (s t : Stored) → Has ss s → Has ss t → comes s t ≡ Equal → s ≡ t
rises_one [] h s t hs ht e = absurd hs
rises_one (r ∷ rs) h s t (inl i) (inl j) e = i ∙ sym j
rises_one (r ∷ rs) h s t (inl i) (inr k) e =
    let l : Less ≡ Equal = sym (all_has (λ x. comes r x ≡ Less) rs h.0 t k) ∙ ap (λ (x : Stored). comes x t) (sym i) ∙ e in cc
rises_one (r ∷ rs) h s t (inr k) (inl j) e =
    let l : Less ≡ Equal = sym (all_has (λ x. comes r x ≡ Less) rs h.0 s k) ∙ ap (λ (x : Stored). comes x s) (sym j) ∙ comes_total.antisymm t s ∙ ap ordering_reverse e in cc
rises_one (r ∷ rs) h s t (inr k) (inr l) e = rises_one rs h.1 s t k l e

told_apart : (p : Stored → Bool) (n : ℕ) (ss : List Stored) → CountsFrom n ss
    → ((s t : Stored) → Has ss s → p s ≡ true → Has ss t → p t ≡ true → slice_cmp nat_cmp s.name t.name ≡ Equal → s.rid.0 ≡ t.rid.0) → Apart (map entry_told (filter p ss))
told_apart p n [] h one = tt
told_apart p n (s ∷ ss) h one = cases (p s) refl (told_apart p (n + 1) ss h.1 (λ t r ht pt hr pr e. one t r (inr ht) pt (inr hr) pr e)) where
  cases : (b : Bool) → p s ≡ b → Apart (map entry_told (filter p ss)) → Apart (map entry_told (cond b (s ∷ filter p ss) (filter p ss)))
  cases true e rest = (
    (λ f k i.
        let t = has_told (filter p ss) f k in
        let there = filter_has p ss t.0 t.1 in
        let same : s.rid.0 ≡ t.0.rid.0 = one s t.0 (inl refl) e (inr there.0) there.1 (ap (λ (x : Entry). slice_cmp nat_cmp s.name x.name) (sym t.2) ∙ i) in
        absurd (omega (arith, same, h.0, from_low (n + 1) ss h.1 t.0 there.0))),
    rest,
  )
  cases false e rest = rest

module _ (items ordered : List Stored) (counted : CountsFrom 1 items) (is : IsOrder items ordered) (rid : Rid) where
  abbrev is_child : Stored → Bool
  is_child s = s.live && (s.parent.0 == rid.0)

  there : (e : Entry) → In (map entry_told (children rid ordered)) e → In (map entry_told (filter is_child items)) e
  there e h =
      let s = has_told (children rid ordered) e h in
      let k = filter_has (λ x. x.parent.0 == rid.0) ordered s.0 s.1 in
      let l = is.stands s.0 k.0 in
      subst (In (map entry_told (filter is_child items))) (sym s.2) (told_has (filter is_child items) s.0 (has_filter is_child items s.0 l.0 (and_from s.0.live (s.0.parent.0 == rid.0) l.1 k.1)))

  back : (e : Entry) → In (map entry_told (filter is_child items)) e → In (map entry_told (children rid ordered)) e
  back e h =
      let s = has_told (filter is_child items) e h in
      let k = filter_has is_child items s.0 s.1 in
      let l = and_parts s.0.live (s.0.parent.0 == rid.0) k.1 in
      subst (In (map entry_told (children rid ordered))) (sym s.2) (told_has (children rid ordered) s.0 (has_filter (λ x. x.parent.0 == rid.0) ordered s.0 (is.complete s.0 k.0 l.0) l.1))

  parents : (s : Stored) → Has (children rid ordered) s → s.parent.0 ≡ rid.0
  parents s h = eqb-true s.parent.0 rid.0 (filter_has (λ x. x.parent.0 == rid.0) ordered s h).1

  one_rid : (s t : Stored) → Has items s → is_child s ≡ true → Has items t → is_child t ≡ true → slice_cmp nat_cmp s.name t.name ≡ Equal → s.rid.0 ≡ t.rid.0
  one_rid s t hs ps ht pt e =
      let a = and_parts s.live (s.parent.0 == rid.0) ps in
      let b = and_parts t.live (t.parent.0 == rid.0) pt in
      let same : s.parent.0 ≡ t.parent.0 = eqb-true s.parent.0 rid.0 a.1 ∙ sym (eqb-true t.parent.0 rid.0 b.1) in
      ap (λ (x : Stored). x.rid.0) (rises_one ordered is.rises s t (is.complete s hs a.0) (is.complete t ht b.0) (names_order s t same ∙ e))

  pub listing_is : map entry_told (children rid ordered) ≡ sorted (λ e f. comes_before e.name f.name) (map entry_told (filter (λ s. s.live && (s.parent.0 == rid.0)) items))
  listing_is = one_list (map entry_told (children rid ordered)) (sorted by_name (map entry_told (filter is_child items)))
      (told_ascends rid (children rid ordered) (filter_rises (λ x. x.parent.0 == rid.0) ordered is.rises) parents)
      (sorted_ascends (map entry_told (filter is_child items)) (told_apart is_child 1 items counted one_rid))
      (λ e h. sorted_has e (map entry_told (filter is_child items)) (there e h))
      (λ e h. back e (in_sorted e (map entry_told (filter is_child items)) h))

-- what is told of items by their rids
entries_are : (items : List Stored) → CountsFrom 1 items → (some : List Stored) → ((s : Stored) → Has some s → Has items s)
    → filter_map (told_at items) (rids_of some) ≡ map entry_told some
entries_are items counted [] h = refl
entries_are items counted (s ∷ ss) h =
    rw (stored_has 1 items counted s (h s (inl refl))) (ap (λ (es : List Entry). entry_told s ∷ es) (entries_are items counted ss (λ t k. h t (inr k))))

pub listing_told : (items : List Stored) (index : List Rid) (ordered : List Stored) (rid : Rid) (rids : List Rid) → IsIndex items index ordered → rids ≡ rids_of (children rid ordered)
    → filter_map (told_at items) rids ≡ sorted (λ e f. comes_before e.name f.name) (map entry_told (filter (λ s. s.live && (s.parent.0 == rid.0)) items))
listing_told items index ordered rid rids is e =
    ap (filter_map (told_at items)) e
    ∙ entries_are items is.counted (children rid ordered) (λ s h. (is.order.stands s (filter_has (λ x. x.parent.0 == rid.0) ordered s h).0).0)
    ∙ listing_is items ordered is.counted is.order rid

-- whether there is one
pub any_child : (items : List Stored) (index : List Rid) (ordered : List Stored) (rid : Rid) (rids : List Rid) → IsIndex items index ordered → rids ≡ rids_of (children rid ordered)
    → list_any (λ s. s.live && (s.parent.0 == rid.0)) items ≡ not (eqb (length rids) 0)
any_child items index ordered rid rids is e = one (children rid ordered) refl ∙ ap (λ (rs : List Rid). not (eqb (length rs) 0)) (sym e) where
  one : (ss : List Stored) → children rid ordered ≡ ss → list_any (λ s. s.live && (s.parent.0 == rid.0)) items ≡ not (eqb (length (rids_of ss)) 0)
  one [] f = any_none (λ s. s.live && (s.parent.0 == rid.0)) items (λ s h. false_from_ne_true (s.live && (s.parent.0 == rid.0)) (λ yes'.
      let l = and_parts s.live (s.parent.0 == rid.0) yes' in
      subst (λ (xs : List Stored). Has xs s) f (has_filter (λ x. x.parent.0 == rid.0) ordered s (is.order.complete s h l.0) l.1)))
  one (s ∷ ss) f =
      let k = filter_has (λ x. x.parent.0 == rid.0) ordered s (subst (λ (xs : List Stored). Has xs s) (sym f) (inl refl)) in
      let l = is.order.stands s k.0 in
      any_from (λ s. s.live && (s.parent.0 == rid.0)) items s l.0 (and_from s.live (s.parent.0 == rid.0) l.1 k.1)
      ∙ ap not (sym (ne_eqb (length (rids_of (s ∷ ss))) 0 (λ (z : length (rids_of (s ∷ ss)) ≡ 0). absurd (omega (arith, z)))))
