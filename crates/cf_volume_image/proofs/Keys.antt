-- The order of keys.
use Rattle.std.proofs.Common.{◌≡◌, ℕ, Bool, true, false, ◌||◌, ◌&&◌, not, cond, List, [], ◌∷◌, refl, sym, ap, ◌∙◌, arith, eqb, ltb, inl, inr}
use Rattle.std.specs.Cmp.Lexicographic.{slice_cmp}
use Rattle.std.specs.Ordering.{is_lt, nat_cmp, ordering_then}
use Rattle.std.specs.declared.cmp.Ordering.{Ordering}
use Rattle.std.specs.declared.cmp.Ordering.TheVariants.{Less, Equal, Greater}
use Rattle.std.proofs.lemmas.Bool.{cases_Bool, eq-eqb, le-ltb}
use Rattle.std.proofs.lemmas.Bool.Decides.{nat_tests}
use Rattle.std.proofs.lemmas.Cmp.{nat_list_cmp_total}
use Rattle.cf_model.specs.Words.{comes_before, same}
use Rattle.std.specs.Ordering.{is_eq}
use Rattle.std.proofs.lemmas.Map.Text.{is_eq-slice_cmp}
use Rattle.cf_table.proofs.Finds.{same_bytes}
use Rattle.cf_table.proofs.NamedEntries.{same_is}
use Rattle.cf_lists.proofs.Ordered.{after_is_not_before, goes_on, other_way}

pub before_is : (xs ys : List ℕ) → comes_before xs ys ≡ is_lt (slice_cmp nat_cmp xs ys)
before_is [] [] = refl
before_is [] (y ∷ ys) = refl
before_is (x ∷ xs) [] = refl
before_is (x ∷ xs) (y ∷ ys) = step (ltb x y) (eqb x y) (slice_cmp nat_cmp xs ys) (comes_before xs ys) (before_is xs ys) where
  step : (b e : Bool) (o : Ordering) (v : Bool) → v ≡ is_lt o → (b || (e && v)) ≡ is_lt (ordering_then (cond b Less (cond e Equal Greater)) o)
  step true e o v h = refl
  step false true o v h = h
  step false false o v h = refl

pub not_itself : (k : List ℕ) → comes_before k k ≡ false
not_itself [] = refl
not_itself (x ∷ xs) = rw (le-ltb x x (omega arith), eq-eqb x x refl) (not_itself xs)

pub goes_on_before : (a b c : List ℕ) → comes_before a b ≡ true → comes_before b c ≡ true → comes_before a c ≡ true
goes_on_before a b c h k = before_is a c ∙ goes_on (slice_cmp nat_cmp) nat_list_cmp_total a b c (sym (before_is a b) ∙ h) (sym (before_is b c) ∙ k)

pub not_back : (a b : List ℕ) → comes_before a b ≡ true → comes_before b a ≡ false
not_back a b h = before_is b a ∙ after_is_not_before (slice_cmp nat_cmp) nat_list_cmp_total a b (sym (before_is a b) ∙ h)

pub before_not_same : (a b : List ℕ) → comes_before a b ≡ true → same a b ≡ false
before_not_same a b h = elim (cases_Bool (same a b)) [
  | inl hit ↦ let z : true ≡ false = sym h ∙ ap (λ v. comes_before a v) (sym (same_is a b hit)) ∙ not_itself a in cc
  | inr miss ↦ miss
]

pub same_back : (a b : List ℕ) → same a b ≡ same b a
same_back [] [] = refl
same_back [] (y ∷ ys) = refl
same_back (x ∷ xs) [] = refl
same_back (x ∷ xs) (y ∷ ys) = ap (λ v. eqb x y && v) (same_back xs ys) ∙ ap (λ v. v && same ys xs) (flipped x y) where
  flipped : (x y : ℕ) → eqb x y ≡ eqb y x
  flipped x y = grind (arith, nat_tests)

pub after_not_same : (a b : List ℕ) → comes_before a b ≡ true → same b a ≡ false
after_not_same a b h = same_back b a ∙ before_not_same a b h

pub else_before : (a b : List ℕ) → comes_before a b ≡ false → same a b ≡ false → comes_before b a ≡ true
else_before a b h k =
    before_is b a ∙ other_way (slice_cmp nat_cmp) nat_list_cmp_total a b (λ e. let z : true ≡ false = ap is_eq (sym e) ∙ is_eq-slice_cmp a b ∙ same_bytes a b ∙ k in cc) ∙ ap not (sym (before_is a b) ∙ h)
