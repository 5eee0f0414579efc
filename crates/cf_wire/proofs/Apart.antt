-- Entries are of different items exactly where there are as many items as entries.
use Rattle.std.proofs.Common.{◌≡◌, ℕ, suc, ◌≤◌, false, ◌==◌, eqb, List, [], ◌∷◌, length, map, inl, inr, refl, sym, ap, ◌∙◌, arith}
use Rattle.std.proofs.lemmas.Bool.{cases_Bool, eq-eqb, eqb-true, eqb-false}
use Rattle.std.proofs.lemmas.List.{length-map}
use Rattle.std.proofs.lemmas.Map.Made.{hash_set_len-from_list}
use Rattle.std.specs.Cmp.{nat_eq_equiv}
use Rattle.std.specs.HashSet as bag
use Rattle.std.specs.HashSet.{HashSet, hash_set_len}
use Rattle.std.specs.Set.{distinct_count, is_member}
use Rattle.cf_base.specs.declared.messages.Entry.{Entry}
use Rattle.cf_model.specs.Fits.{are_distinct, has_rid}

abbrev pub rid_of : Entry → ℕ
rid_of e = e.rid.0

same_both : (a b : ℕ) → (a == b) ≡ (b == a)
same_both a b = elim (cases_Bool (a == b)) [
  | inl y ↦ y ∙ sym (eq-eqb b a (sym (eqb-true a b y)))
  | inr n ↦ elim (cases_Bool (b == a)) [
    | inl y ↦ absurd (eqb-false a b n (sym (eqb-true b a y)))
    | inr m ↦ n ∙ sym m
  ]
]

is_there : (e : Entry) (es : List Entry) → is_member eqb (map rid_of es) e.rid.0 ≡ has_rid e.rid es
is_there e [] = refl
is_there e (x ∷ es) = rw (same_both e.rid.0 x.rid.0, is_there e es) refl

few : (xs : List ℕ) → distinct_count eqb xs ≤ length xs
few [] = omega arith
few (x ∷ xs) = elim (cases_Bool (is_member eqb xs x)) [
  | inl y ↦ rw y (omega (arith, few xs))
  | inr n ↦ rw n (omega (arith, few xs))
]

not_so_few : (m n : ℕ) → m ≤ n → (m == suc n) ≡ false
not_so_few m n h = elim (cases_Bool (m == suc n)) [ inl y ↦ absurd (omega (arith, eqb-true m (suc n) y)) | inr no' ↦ no' ]

one_less : (m n : ℕ) → (suc m == suc n) ≡ (m == n)
one_less m n = elim (cases_Bool (m == n)) [
  | inl y ↦ eq-eqb (suc m) (suc n) (ap suc (eqb-true m n y)) ∙ sym y
  | inr no' ↦ elim (cases_Bool (suc m == suc n)) [
    | inl y ↦ (let e : suc m ≡ suc n = eqb-true (suc m) (suc n) y in absurd (eqb-false m n no' (omega arith)))
    | inr also ↦ also ∙ sym no'
  ]
]

counted : (es : List Entry) → (distinct_count eqb (map rid_of es) == length es) ≡ are_distinct es
counted [] = refl
counted (e ∷ es) = elim (cases_Bool (has_rid e.rid es)) [
  | inl y ↦ (let there = is_there e es ∙ y in let le = few (map rid_of es) in rw (there, y) (not_so_few (distinct_count eqb (map rid_of es)) (length es) (omega (arith, le, length-map es rid_of))))
  | inr n ↦ (let there = is_there e es ∙ n in rw (there, n) (one_less (distinct_count eqb (map rid_of es)) (length es) ∙ counted es))
]

pub distinct_count_is : {S : Type 0} (es : List Entry) (s : HashSet ℕ S) (n : ℕ) → bag.IsFromIterResult eqb (map rid_of es) s → n ≡ hash_set_len s → (n == length es) ≡ are_distinct es
distinct_count_is es s n h e = ap (λ (k : ℕ). k == length es) (e ∙ hash_set_len-from_list nat_eq_equiv (map rid_of es) s h) ∙ counted es
