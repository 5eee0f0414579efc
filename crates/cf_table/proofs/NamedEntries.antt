-- The entries of a directory, and the one with a name, where they stand in order.
use Rattle.std.proofs.Common.{◌≡◌, ℕ, zero, suc, ◌+◌, ◌-◌, ◌<◌, ◌≤◌, Bool, true, false, ◌&&◌, not, cond, List, [], ◌∷◌, ◌++◌, length, drop, get_or, refl, sym, take, length-drop, ap, ◌∙◌, arith, eqb, ltb, Some, None, inl, inr}
use Rattle.std.specs.Prelude.{filter, find}
use Rattle.std.specs.Cmp.Lexicographic.{slice_cmp}
use Rattle.std.specs.Ordering.{is_lt, is_eq, nat_cmp, ordering_then}
use Rattle.std.specs.declared.cmp.Ordering.{Ordering}
use Rattle.std.specs.declared.cmp.Ordering.TheVariants.{Less, Equal, Greater}
use Rattle.std.proofs.lemmas.Bool.{cond-false, cases_lt, eq-eqb, ne_eqb}
use Rattle.std.proofs.lemmas.Bool.Decides.{nat_tests}
use Rattle.std.proofs.lemmas.Cmp.{nat_cmp_total, nat_list_cmp_total, tied_itself}
use Rattle.std.proofs.lemmas.Map.Text.{is_eq-slice_cmp}
use Rattle.cf_base.specs.declared.ids.ItemId.{ItemId}
use Rattle.cf_model.specs.Words.{same}
use Rattle.cf_lists.specs.Ordered.{AllAfter, InOrder}
use Rattle.cf_table.specs.Index.{IsPlaceOf, entry_at, entry_id, is_entry_in, is_entry_of, stands_before}
use Rattle.cf_table.specs.declared.entries.Entry.{Entry}
use Rattle.cf_table.proofs.Finds.{same_bytes}
use Rattle.cf_table.proofs.Indexed.{number_is, place_tail}

-- tests

pub first_of_both : (a b : Bool) → (a && b) ≡ true → a ≡ true
first_of_both true b h = refl
first_of_both false b h = h

pub second_of_both : (a b : Bool) → (a && b) ≡ true → b ≡ true
second_of_both true b h = h
second_of_both false b h = let z : false ≡ true = h in cc

pub same_is : (xs ys : List ℕ) → same xs ys ≡ true → xs ≡ ys
same_is [] [] h = refl
same_is [] (y ∷ ys) h = let z : false ≡ true = h in cc
same_is (x ∷ xs) [] h = let z : false ≡ true = h in cc
same_is (x ∷ xs) (y ∷ ys) h = ap (λ v. v ∷ xs) (number_is x y (first_of_both (eqb x y) (same xs ys) h)) ∙ ap (λ v. y ∷ v) (same_is xs ys (second_of_both (eqb x y) (same xs ys) h))

pub same_itself : (xs : List ℕ) → same xs xs ≡ true
same_itself [] = refl
same_itself (x ∷ xs) = both (eqb x x) (same xs xs) (eq-eqb x x refl) (same_itself xs) where
  both : (a b : Bool) → a ≡ true → b ≡ true → (a && b) ≡ true
  both a b h k = ap (λ v. v && b) h ∙ k

pub equal_names : (xs ys : List ℕ) → slice_cmp nat_cmp xs ys ≡ Equal → xs ≡ ys
equal_names xs ys h = same_is xs ys (sym (same_bytes xs ys) ∙ sym (is_eq-slice_cmp xs ys) ∙ ap is_eq h)

pub equal_numbers : (m n : ℕ) → nat_cmp m n ≡ Equal → m ≡ n
equal_numbers m n h = by (ltb m n) (eqb m n) refl h where
  by : (a b : Bool) → eqb m n ≡ b → cond a Less (cond b Equal Greater) ≡ Equal → m ≡ n
  by true b e k = let z : Less ≡ Equal = k in cc
  by false true e k = number_is m n e
  by false false e k = let z : Greater ≡ Equal = k in cc

-- an entry with that parent and name stands by its id

third : (a b c : Ordering) → a ≡ Equal → b ≡ Equal → is_lt (ordering_then a (ordering_then b c)) ≡ is_lt c
third a b c h k = ap (λ o. is_lt (ordering_then o (ordering_then b c))) h ∙ ap (λ o. is_lt (ordering_then o c)) k

pub less_is : (m n : ℕ) → is_lt (nat_cmp m n) ≡ ltb m n
less_is m n = by (ltb m n) (eqb m n) where
  by : (a b : Bool) → is_lt (cond a Less (cond b Equal Greater)) ≡ a
  by true b = refl
  by false true = refl
  by false false = refl

pub by_id : (e f : Entry) → e.parent.0 ≡ f.parent.0 → e.name ≡ f.name → stands_before e f ≡ ltb e.id.0 f.id.0
by_id e f h k =
    third (nat_cmp e.parent.0 f.parent.0) (slice_cmp nat_cmp e.name f.name) (nat_cmp e.id.0 f.id.0) (ap (λ n. nat_cmp n f.parent.0) h ∙ tied_itself nat_cmp_total f.parent.0)
    (ap (λ n. slice_cmp nat_cmp n f.name) k ∙ tied_itself nat_list_cmp_total f.name)
    ∙ less_is e.id.0 f.id.0

no_less : (n : ℕ) → ltb n 0 ≡ false
no_less n = grind (arith, nat_tests)

not_so : (b : Bool) → (b ≡ true → ⊥) → b ≡ false
not_so true h = absurd (h refl)
not_so false h = refl

contrary : (b : Bool) → b ≡ true → b ≡ false → ⊥
contrary b h k = let z : true ≡ false = sym h ∙ k in cc

-- before the first place of a name there is no entry of it
pub not_named_before : (parent : ItemId) (name : List ℕ) (zero_id : ItemId) (e : Entry) → zero_id.0 ≡ 0 → stands_before e (entry_at parent name zero_id) ≡ true → is_entry_of parent name e ≡ false
not_named_before parent name zero_id e z h = not_so (is_entry_of parent name e) (λ named.
    contrary (stands_before e (entry_at parent name zero_id)) h
    (by_id e (entry_at parent name zero_id) (number_is e.parent.0 parent.0 (first_of_both (eqb e.parent.0 parent.0) (same e.name name) named))
    (same_is e.name name (second_of_both (eqb e.parent.0 parent.0) (same e.name name) named))
    ∙ ap (λ n. ltb e.id.0 n) z ∙ no_less e.id.0))

-- nor after one that is of another name, and does not come before
same_place : (a b c d : Ordering) → is_lt (ordering_then a (ordering_then b c)) ≡ false → is_lt (ordering_then a (ordering_then b d)) ≡ true → record { parent : a ≡ Equal; name : b ≡ Equal }
same_place Less b c d h k = let z : true ≡ false = h in absurd cc
same_place Equal Less c d h k = let z : true ≡ false = h in absurd cc
same_place Equal Equal c d h k = record { parent = refl; name = refl }
same_place Equal Greater c d h k = let z : false ≡ true = k in absurd cc
same_place Greater b c d h k = let z : false ≡ true = k in absurd cc

not_named_after : (parent : ItemId) (name : List ℕ) (zero_id : ItemId) (e w : Entry) → stands_before e (entry_at parent name zero_id) ≡ false → is_entry_of parent name e ≡ false → stands_before e w ≡ true → is_entry_of parent name w ≡ false
not_named_after parent name zero_id e w h k l = not_so (is_entry_of parent name w) (λ named.
    let p : w.parent.0 ≡ parent.0 = number_is w.parent.0 parent.0 (first_of_both (eqb w.parent.0 parent.0) (same w.name name) named) in
    let n : w.name ≡ name = same_is w.name name (second_of_both (eqb w.parent.0 parent.0) (same w.name name) named) in
    let at = same_place (nat_cmp e.parent.0 parent.0) (slice_cmp nat_cmp e.name name) (nat_cmp e.id.0 zero_id.0) (nat_cmp e.id.0 w.id.0) h
    (ap (λ m. is_lt (ordering_then (nat_cmp e.parent.0 m) (ordering_then (slice_cmp nat_cmp e.name name) (nat_cmp e.id.0 w.id.0)))) (sym p)
    ∙ ap (λ m. is_lt (ordering_then (nat_cmp e.parent.0 w.parent.0) (ordering_then (slice_cmp nat_cmp e.name m) (nat_cmp e.id.0 w.id.0)))) (sym n) ∙ l) in
    contrary (is_entry_of parent name e) (both (eqb e.parent.0 parent.0) (same e.name name) (eq-eqb e.parent.0 parent.0 (equal_numbers e.parent.0 parent.0 at.parent))
    (ap (λ m. same m name) (equal_names e.name name at.name) ∙ same_itself name)) k) where
      both : (a b : Bool) → a ≡ true → b ≡ true → (a && b) ≡ true
      both a b h k = ap (λ v. v && b) h ∙ k

pub none_named_after : (parent : ItemId) (name : List ℕ) (zero_id : ItemId) (e : Entry) (es : List Entry) → stands_before e (entry_at parent name zero_id) ≡ false → is_entry_of parent name e ≡ false → AllAfter stands_before e es → find (is_entry_of parent name) es ≡ None
none_named_after parent name zero_id e [] h k a = refl
none_named_after parent name zero_id e (w ∷ ws) h k a =
    cond-false (is_entry_of parent name w) _ _ (not_named_after parent name zero_id e w h k a.0) ∙ none_named_after parent name zero_id e ws h k a.1

-- the item with that name is the one at that place, if any is

pub named_at : (parent : ItemId) (name : List ℕ) (zero_id : ItemId) (es : List Entry) (n : ℕ) (d : Entry) → zero_id.0 ≡ 0 → InOrder stands_before es → IsPlaceOf (entry_at parent name zero_id) es n → n < length es →
    cond (is_entry_of parent name (get_or es n d)) (Some (get_or es n d).id) None ≡ entry_id (find (is_entry_of parent name) es)
named_at parent name zero_id [] n d z o p lt = absurd (omega arith)
named_at parent name zero_id (e ∷ es) zero d z o p lt = by (is_entry_of parent name e) refl where
  by : (b : Bool) → is_entry_of parent name e ≡ b → cond b (Some e.id) None ≡ entry_id (cond b (Some e) (find (is_entry_of parent name) es))
  by true h = refl
  by false h = ap entry_id (sym (none_named_after parent name zero_id e es (p.from 0 e (omega arith) (omega arith)) h o.0))
named_at parent name zero_id (e ∷ es) (suc n) d z o p lt =
    named_at parent name zero_id es n d z o.1 (place_tail (entry_at parent name zero_id) e es n p) (omega arith)
    ∙ ap entry_id (sym (cond-false (is_entry_of parent name e) _ _ (not_named_before parent name zero_id e z (p.before 0 e (omega arith)))))

pub named_nowhere : (parent : ItemId) (name : List ℕ) (zero_id : ItemId) (es : List Entry) (n : ℕ) → zero_id.0 ≡ 0 → IsPlaceOf (entry_at parent name zero_id) es n → length es ≤ n → find (is_entry_of parent name) es ≡ None
named_nowhere parent name zero_id [] n z p ge = refl
named_nowhere parent name zero_id (e ∷ es) zero z p ge = absurd (omega arith)
named_nowhere parent name zero_id (e ∷ es) (suc n) z p ge =
    cond-false (is_entry_of parent name e) _ _ (not_named_before parent name zero_id e z (p.before 0 e (omega arith)))
    ∙ named_nowhere parent name zero_id es n z (place_tail (entry_at parent name zero_id) e es n p) (omega arith)

-- the entries of a directory

not_before_first : (a b c : Ordering) → a ≡ Equal → is_lt b ≡ false → is_lt c ≡ false → is_lt (ordering_then a (ordering_then b c)) ≡ false
not_before_first a Less c h k l = let z : true ≡ false = k in cc
not_before_first a Equal c h k l = ap (λ o. is_lt (ordering_then o c)) h ∙ l
not_before_first a Greater c h k l = ap (λ o. is_lt (ordering_then o Greater)) h

no_name_less : (n : List ℕ) → is_lt (slice_cmp nat_cmp n []) ≡ false
no_name_less [] = refl
no_name_less (x ∷ xs) = refl

-- before the first place of a directory there is no entry of it
pub not_in_before : (parent zero_id : ItemId) (e : Entry) → zero_id.0 ≡ 0 → stands_before e (entry_at parent [] zero_id) ≡ true → is_entry_in parent e ≡ false
not_in_before parent zero_id e z h = not_so (is_entry_in parent e) (λ here.
    contrary (stands_before e (entry_at parent [] zero_id)) h
    (not_before_first (nat_cmp e.parent.0 parent.0) (slice_cmp nat_cmp e.name []) (nat_cmp e.id.0 zero_id.0)
    (ap (λ n. nat_cmp n parent.0) (number_is e.parent.0 parent.0 here) ∙ tied_itself nat_cmp_total parent.0) (no_name_less e.name) (less_is e.id.0 zero_id.0 ∙ ap (λ n. ltb e.id.0 n) z ∙ no_less e.id.0)))

-- nor after one that is of another directory, and does not come before

pub higher : (m n : ℕ) (b c : Ordering) → is_lt (ordering_then (nat_cmp m n) (ordering_then b c)) ≡ false → eqb m n ≡ false → n < m
higher m n b c h k = elim (cases_lt n m) [ inl lt ↦ lt | inr ge ↦ absurd (by (ltb m n) (eqb m n) refl k h ge) ] where
  by : (l e : Bool) → ltb m n ≡ l → e ≡ false → is_lt (ordering_then (cond l Less (cond e Equal Greater)) (ordering_then b c)) ≡ false → m ≤ n → ⊥
  by true e f g j le = let z : true ≡ false = j in absurd cc
  by false e f g j le = grind (arith, nat_tests)

no_lower : (m n : ℕ) (b c : Ordering) → is_lt (ordering_then (nat_cmp m n) (ordering_then b c)) ≡ true → m ≤ n
no_lower m n b c h = by (ltb m n) (eqb m n) refl refl h where
  by : (l e : Bool) → ltb m n ≡ l → eqb m n ≡ e → is_lt (ordering_then (cond l Less (cond e Equal Greater)) (ordering_then b c)) ≡ true → m ≤ n
  by true e f g j = grind (arith, nat_tests)
  by false true f g j = grind (arith, nat_tests)
  by false false f g j = let z : false ≡ true = j in absurd cc

not_in_after : (parent : ItemId) (e w : Entry) → parent.0 < e.parent.0 → stands_before e w ≡ true → is_entry_in parent w ≡ false
not_in_after parent e w h k = ne_eqb w.parent.0 parent.0 (λ same. omega (arith, no_lower e.parent.0 w.parent.0 (slice_cmp nat_cmp e.name w.name) (nat_cmp e.id.0 w.id.0) k))

pub none_in_after : (parent : ItemId) (e : Entry) (es : List Entry) → parent.0 < e.parent.0 → AllAfter stands_before e es → filter (is_entry_in parent) es ≡ []
none_in_after parent e [] h a = refl
none_in_after parent e (w ∷ ws) h a = cond-false (is_entry_in parent w) _ _ (not_in_after parent e w h a.0) ∙ none_in_after parent e ws h a.1

pub children_from : (parent zero_id : ItemId) (es : List Entry) (n : ℕ) → zero_id.0 ≡ 0 → IsPlaceOf (entry_at parent [] zero_id) es n → filter (is_entry_in parent) (drop n es) ≡ filter (is_entry_in parent) es
children_from parent zero_id es zero z p = refl
children_from parent zero_id [] (suc n) z p = refl
children_from parent zero_id (e ∷ es) (suc n) z p =
    children_from parent zero_id es n z (place_tail (entry_at parent [] zero_id) e es n p) ∙ sym (cond-false (is_entry_in parent e) _ _ (not_in_before parent zero_id e z (p.before 0 e (omega arith))))

rest_none : (parent zero_id : ItemId) (es : List Entry) (k : ℕ) (d : Entry) → InOrder stands_before es → k < length es → stands_before (get_or es k d) (entry_at parent [] zero_id) ≡ false → is_entry_in parent (get_or es k d) ≡ false →
    filter (is_entry_in parent) (drop k es) ≡ []
rest_none parent zero_id [] k d o lt h i = absurd (omega arith)
rest_none parent zero_id (e ∷ es) zero d o lt h i =
    cond-false (is_entry_in parent e) _ _ i ∙ none_in_after parent e es (higher e.parent.0 parent.0 (slice_cmp nat_cmp e.name []) (nat_cmp e.id.0 zero_id.0) h i) o.0
rest_none parent zero_id (e ∷ es) (suc k) d o lt h i = rest_none parent zero_id es k d o.1 (omega arith) h i

pub no_more_children : (parent zero_id : ItemId) (es : List Entry) (n k : ℕ) (d : Entry) → InOrder stands_before es → IsPlaceOf (entry_at parent [] zero_id) es n → n + k < length es → is_entry_in parent (get_or (drop n es) k d) ≡ false →
    filter (is_entry_in parent) (drop k (drop n es)) ≡ []
no_more_children parent zero_id es zero k d o p lt h = rest_none parent zero_id es k d o (omega arith) (p.from k d (omega arith) (omega arith)) h
no_more_children parent zero_id [] (suc n) k d o p lt h = absurd (omega arith)
no_more_children parent zero_id (e ∷ es) (suc n) k d o p lt h = no_more_children parent zero_id es n k d o.1 (place_tail (entry_at parent [] zero_id) e es n p) (omega arith) h

-- the part of a list from n on, as code takes it
pub from_on : {A : Type 0} (xs : List A) (n : ℕ) → take (length xs - n) (drop n xs) ≡ drop n xs
from_on xs n = whole (drop n xs) (length xs - n) (sym (length-drop n xs)) where
  whole : {A : Type 0} (xs : List A) (n : ℕ) → n ≡ length xs → take n xs ≡ xs
  whole [] zero e = refl
  whole [] (suc n) e = refl
  whole (x ∷ xs) zero e = absurd (omega arith)
  whole (x ∷ xs) (suc n) e = ap (λ l. x ∷ l) (whole xs n (omega arith))

pub all_told : (ids rest all : List ItemId) → rest ≡ [] → ids ++ rest ≡ all → ids ≡ all
all_told ids rest all h e = sym (end ids) ∙ ap (λ l. ids ++ l) (sym h) ∙ e where
  end : (ids : List ItemId) → ids ++ [] ≡ ids
  end [] = refl
  end (i ∷ is) = ap (λ l. i ∷ l) (end is)

pub not_not : (b : Bool) → true ≡ not b → b ≡ false
not_not true h = h
not_not false h = refl
