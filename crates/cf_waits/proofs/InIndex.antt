-- The place of an entry in an index, and what goes in and out of it.
use Rattle.std.proofs.Common.{◌≡◌, ℕ, zero, suc, ◌+◌, ◌-◌, ◌<◌, ◌≤◌, true, false, not, List, [], ◌∷◌, length, get_or, take, drop, refl, sym, ap, subst, ◌∙◌, arith, eqb, ltb, leb, length-drop, inl, inr}
use Rattle.std.specs.Prelude.{filter, insert, remove}
use Rattle.std.specs.Cmp.{IsTotalOrder}
use Rattle.std.specs.List.Sorted.{IsNonDecreasingBy, IsPartitionPoint, IsPartitionedBy}
use Rattle.std.specs.Ordering.{is_lt, is_eq, nat_cmp, ordering_reverse, ordering_then}
use Rattle.std.specs.declared.cmp.Ordering.{Ordering}
use Rattle.std.specs.declared.cmp.Ordering.TheVariants.{Less, Equal, Greater}
use Rattle.std.proofs.lemmas.Bool.{cond-true, cond-false, cases_lt, leb-false, leb-true, ltb-false, ltb-true}
use Rattle.std.proofs.lemmas.Bool.Decides.{nat_tests}
use Rattle.std.proofs.lemmas.List.Sorted.{IsPartitionedBy-leb, IsPartitionedBy-ltb}
use Rattle.std.proofs.lemmas.Cmp.{nat_cmp_total, on_total, then_total}
use Rattle.cf_base.specs.declared.ids.ItemId.{ItemId}
use Rattle.cf_model.specs.Words.{put_in}
use Rattle.cf_lists.specs.Ordered.{AllAfter, InOrder}
use Rattle.cf_waits.specs.Books.{IsPlaceOf, compared, is_entry_on, stands_before, without_entry}
use Rattle.cf_waits.specs.declared.entries.Entry.{Entry}
use Rattle.cf_lists.proofs.Ordered as ordered

pub compared_total : IsTotalOrder compared
compared_total = then_total (on_total (λ (e : Entry). e.item.0) nat_cmp_total) (on_total (λ (e : Entry). e.number) nat_cmp_total)

-- the place of an entry

pub parted : (key : Entry) (es : List Entry) → InOrder stands_before es → IsPartitionedBy (λ e. stands_before e key) es
parted key es h i j d le lt at = elim (cases_lt i j) [
  | inl less ↦ ordered.goes_on compared compared_total (get_or es i d) (get_or es j d) key (ordered.rise compared compared_total es i j d h less lt) at
  | inr more ↦ let e : i ≡ j = omega arith in ap (λ k. stands_before (get_or es k d) key) e ∙ at
]

pub place_is : (key : Entry) (es : List Entry) (n : ℕ) → n ≤ length es → IsPartitionPoint (λ e. stands_before e key ≡ true) (λ e. stands_before e key ≡ false) es n → IsPlaceOf key es n
place_is key es n le h = record { in_range = le; before = λ k d lt. h.0 k d (omega arith) lt; from = λ k d ge lt. h.1 k d ge lt }

place_tail : (key e : Entry) (es : List Entry) (n : ℕ) → IsPlaceOf key (e ∷ es) (suc n) → IsPlaceOf key es n
place_tail key e es n p = record {
  in_range = omega (arith, p.in_range);
  before = λ k d lt. p.before (suc k) d (omega arith);
  from = λ k d ge lt. p.from (suc k) d (omega arith) (omega arith);
}

pub insert_is_put : (key : Entry) (es : List Entry) (n : ℕ) → IsPlaceOf key es n → insert es n key ≡ put_in stands_before key es
insert_is_put key [] zero p = refl
insert_is_put key [] (suc n) p = absurd (omega (arith, p.in_range))
insert_is_put key (e ∷ es) zero p = sym (cond-false (stands_before e key) _ _ (p.from 0 e (omega arith) (omega arith)))
insert_is_put key (e ∷ es) (suc n) p =
    ap (λ l. e ∷ l) (insert_is_put key es n (place_tail key e es n p)) ∙ sym (cond-true (stands_before e key) _ _ (p.before 0 e (omega arith)))

-- what comes before another, or after it, is not it

other : (o : Ordering) → is_lt o ≡ true → is_eq o ≡ false
other Less h = refl
other Equal h = let z : false ≡ true = h in cc
other Greater h = refl

other_back : (a b : Ordering) → a ≡ ordering_reverse b → is_lt b ≡ true → is_eq a ≡ false
other_back a Less e h = ap is_eq e
other_back a Equal e h = let z : false ≡ true = h in cc
other_back a Greater e h = let z : false ≡ true = h in cc

untouched : (key : Entry) (es : List Entry) → AllAfter stands_before key es → without_entry key es ≡ es
untouched key [] h = refl
untouched key (e ∷ es) h =
    cond-true (not (is_eq (compared e key))) _ _ (ap not (other_back (compared e key) (compared key e) (compared_total.antisymm e key) h.0)) ∙ ap (λ l. e ∷ l) (untouched key es h.1)

-- an entry that goes

equal_is : (o : Ordering) → is_eq o ≡ true → o ≡ Equal
equal_is Less h = let z : false ≡ true = h in cc
equal_is Equal h = refl
equal_is Greater h = let z : false ≡ true = h in cc

all_after_equal : (e key : Entry) (es : List Entry) → compared e key ≡ Equal → AllAfter stands_before e es → AllAfter stands_before key es
all_after_equal e key [] h a = tt
all_after_equal e key (f ∷ fs) h a = (ap is_lt (sym (compared_total.congr e key f h)) ∙ a.0, all_after_equal e key fs h a.1)

pub entry_removed : (key : Entry) (es : List Entry) (n : ℕ) (d : Entry) → InOrder stands_before es → IsPlaceOf key es n → n < length es → is_eq (compared (get_or es n d) key) ≡ true → remove es n ≡ without_entry key es
entry_removed key [] n d o p lt h = absurd (omega arith)
entry_removed key (e ∷ es) zero d o p lt h =
    sym (cond-false (not (is_eq (compared e key))) _ _ (ap not h) ∙ untouched key es (all_after_equal e key es (equal_is (compared e key) h) o.0))
entry_removed key (e ∷ es) (suc n) d o p lt h =
    ap (λ l. e ∷ l) (entry_removed key es n d o.1 (place_tail key e es n p) (omega arith) h)
    ∙ sym (cond-true (not (is_eq (compared e key))) _ _ (ap not (other (compared e key) (p.before 0 e (omega arith)))))

not_equal : (o : Ordering) → is_eq o ≡ false → o ≡ Equal → ⊥
not_equal o h e = let z : true ≡ false = sym (ap is_eq e) ∙ h in cc

pub none_removed : (key : Entry) (es : List Entry) (n : ℕ) (d : Entry) → InOrder stands_before es → IsPlaceOf key es n → (n < length es → is_eq (compared (get_or es n d) key) ≡ false) → without_entry key es ≡ es
none_removed key [] n d o p h = refl
none_removed key (e ∷ es) zero d o p h =
    let first : stands_before key e ≡ true = ordered.other_way compared compared_total e key (not_equal (compared e key) (h (omega arith))) ∙ ap not (p.from 0 e (omega arith) (omega arith)) in
    untouched key (e ∷ es) (first, ordered.all_goes_on compared compared_total key e es first o.0)
none_removed key (e ∷ es) (suc n) d o p h =
    cond-true (not (is_eq (compared e key))) _ _ (ap not (other (compared e key) (p.before 0 e (omega arith))))
    ∙ ap (λ l. e ∷ l) (none_removed key es n d o.1 (place_tail key e es n p) (λ lt. h (omega arith)))

-- the entries of an item

no_less : (a b c d : ℕ) → is_lt (ordering_then (nat_cmp a c) (nat_cmp b d)) ≡ true → a ≤ c
no_less a b c d h = grind (arith, nat_tests)

items_rise : (es : List Entry) → InOrder stands_before es → IsNonDecreasingBy (λ (e : Entry). e.item.0) es
items_rise es h i j d le lt = elim (cases_lt i j) [
  | inl less ↦ no_less (get_or es i d).item.0 (get_or es i d).number (get_or es j d).item.0 (get_or es j d).number (ordered.rise compared compared_total es i j d h less lt)
  | inr more ↦ let e : i ≡ j = omega arith in subst (λ (k : ℕ). (get_or es i d).item.0 ≤ (get_or es k d).item.0) e (omega arith)
]

none_on : (item : ItemId) (es : List Entry) → ((k : ℕ) (d : Entry) → k < length es → item.0 < (get_or es k d).item.0) → filter (is_entry_on item) es ≡ []
none_on item [] h = refl
none_on item (e ∷ es) h = cond-false (eqb e.item.0 item.0) _ _ (above e.item.0 item.0 (h 0 e (omega arith))) ∙ none_on item es (λ k d lt. h (suc k) d (omega arith)) where
  above : (m n : ℕ) → n < m → eqb m n ≡ false
  above m n l = grind (arith, nat_tests)

between : (item : ItemId) (es : List Entry) (n m : ℕ) → n + m ≤ length es → ((k : ℕ) (d : Entry) → k < n → (get_or es k d).item.0 < item.0) → ((k : ℕ) (d : Entry) → n ≤ k → k < n + m → (get_or es k d).item.0 ≡ item.0)
    → ((k : ℕ) (d : Entry) → n + m ≤ k → k < length es → item.0 < (get_or es k d).item.0) → take m (drop n es) ≡ filter (is_entry_on item) es
between item [] zero zero le below at above = refl
between item [] zero (suc m) le below at above = absurd (omega arith)
between item [] (suc n) m le below at above = absurd (omega arith)
between item (e ∷ es) zero zero le below at above = sym (none_on item (e ∷ es) (λ k d l. above k d (omega arith) l))
between item (e ∷ es) zero (suc m) le below at above =
    ap (λ l. e ∷ l) (between item es zero m (omega arith) (λ k d l. absurd (omega arith)) (λ k d l u. at (suc k) d (omega arith) (omega arith)) (λ k d l u. above (suc k) d (omega arith) (omega arith)))
    ∙ sym (cond-true (eqb e.item.0 item.0) _ _ (same e.item.0 item.0 (at 0 e (omega arith) (omega arith)))) where
      same : (m n : ℕ) → m ≡ n → eqb m n ≡ true
      same m n h = grind (arith, nat_tests)
between item (e ∷ es) (suc n) m le below at above =
    between item es n m (omega arith) (λ k d l. below (suc k) d (omega arith)) (λ k d l u. at (suc k) d (omega arith) (omega arith)) (λ k d l u. above (suc k) d (omega arith) (omega arith))
    ∙ sym (cond-false (eqb e.item.0 item.0) _ _ (under e.item.0 item.0 (below 0 e (omega arith)))) where
      under : (m n : ℕ) → m < n → eqb m n ≡ false
      under m n l = grind (arith, nat_tests)

pub parted_below : (item : ItemId) (es : List Entry) → InOrder stands_before es → IsPartitionedBy (λ (e : Entry). ltb e.item.0 item.0) es
parted_below item es h = IsPartitionedBy-ltb (λ (e : Entry). e.item.0) es item.0 (items_rise es h)

after_drop : (es : List Entry) (n i k : ℕ) (d : Entry) → n + i ≡ k → get_or (drop n es) i d ≡ get_or es k d
after_drop es zero i k d h = ap (λ j. get_or es j d) (omega arith)
after_drop [] (suc n) i k d h = nothing i ∙ sym (nothing k) where
  nothing : (j : ℕ) → get_or [] j d ≡ d
  nothing zero = refl
  nothing (suc j) = refl
after_drop (e ∷ es) (suc n) i zero d h = absurd (omega arith)
after_drop (e ∷ es) (suc n) i (suc k) d h = after_drop es n i k d (omega arith)

dropped_rise : (es : List Entry) (n : ℕ) → IsNonDecreasingBy (λ (e : Entry). e.item.0) es → IsNonDecreasingBy (λ (e : Entry). e.item.0) (drop n es)
dropped_rise es n h i j d le lt = subst (λ (e : Entry). e.item.0 ≤ (get_or (drop n es) j d).item.0) (sym (after_drop es n i (n + i) d refl)) (subst (λ (e : Entry). (get_or es (n + i) d).item.0 ≤ e.item.0) (sym (after_drop es n j (n + j) d refl)) (h (n + i) (n + j) d (omega arith) (omega (arith, length-drop n es))))

pub parted_up_to : (item : ItemId) (es rest : List Entry) (n : ℕ) → InOrder stands_before es → rest ≡ drop n es → IsPartitionedBy (λ (e : Entry). leb e.item.0 item.0) rest
parted_up_to item es rest n h e = IsPartitionedBy-leb (λ (e : Entry). e.item.0) rest item.0 (subst (λ (l : List Entry). IsNonDecreasingBy (λ (e : Entry). e.item.0) l) (sym e) (dropped_rise es n (items_rise es h)))

pub on_item : (item : ItemId) (es rest : List Entry) (n m : ℕ) → rest ≡ drop n es → n ≤ length es → m ≤ length rest
    → IsPartitionPoint (λ (e : Entry). ltb e.item.0 item.0 ≡ true) (λ (e : Entry). ltb e.item.0 item.0 ≡ false) es n → IsPartitionPoint (λ (e : Entry). leb e.item.0 item.0 ≡ true) (λ (e : Entry). leb e.item.0 item.0 ≡ false) rest m
    → take m rest ≡ filter (is_entry_on item) es
on_item item es rest n m e le lt p q =
    let len : length rest ≡ length es - n = ap length e ∙ length-drop n es in
    ap (take m) e ∙ between item es n m (omega arith)
    (λ k d l. ltb-true _ _ (p.0 k d (omega arith) l))
    (λ k d l u. both (get_or es k d).item.0 item.0 (ltb-false _ _ (p.1 k d l (omega arith))) (subst (λ (x : Entry). x.item.0 ≤ item.0) (ap (λ l. get_or l (k - n) d) e ∙ after_drop es n (k - n) k d (omega arith)) (leb-true _ _ (q.0 (k - n) d (omega arith) (omega arith)))))
    (λ k d l u. subst (λ (x : Entry). item.0 < x.item.0) (ap (λ l. get_or l (k - n) d) e ∙ after_drop es n (k - n) k d (omega arith)) (leb-false _ _ (q.1 (k - n) d (omega arith) (omega arith))))
  where
    both : (a b : ℕ) → b ≤ a → a ≤ b → a ≡ b
    both a b h g = omega arith

pub whole_rest : (es : List Entry) (n : ℕ) → take (length es - n) (drop n es) ≡ drop n es
whole_rest es n = take-all (length es - n) (drop n es) (omega (arith, length-drop n es)) where
  take-all : (m : ℕ) (xs : List Entry) → length xs ≤ m → take m xs ≡ xs
  take-all zero [] h = refl
  take-all zero (x ∷ xs) h = absurd (omega arith)
  take-all (suc m) [] h = refl
  take-all (suc m) (x ∷ xs) h = ap (λ l. x ∷ l) (take-all m xs (omega arith))
