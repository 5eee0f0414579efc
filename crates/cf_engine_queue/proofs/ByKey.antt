-- The order of texts, and what is found by a key.
use Rattle.std.proofs.Common.{◌≡◌, ℕ, Bool, true, false, cond, ◌&&◌, ◌||◌, ◌==◌, List, [], ◌∷◌, None, refl, sym, ap, ◌∙◌, arith, eqb, ltb}
use Rattle.std.proofs.lemmas.Bool.{eqb-true, eq-eqb, le-ltb}
use Rattle.std.proofs.lemmas.Cmp.{nat_list_cmp_total}
use Rattle.std.specs.Cmp.Lexicographic.{slice_cmp}
use Rattle.std.specs.Ordering.{is_lt, nat_cmp, ordering_then}
use Rattle.std.specs.Prelude.{bytes_eq}
use Rattle.std.specs.declared.cmp.Ordering.{Ordering}
use Rattle.std.specs.declared.cmp.Ordering.TheVariants.{Less, Equal, Greater}
use Rattle.std.specs.List.{AllByRecursion}
use Rattle.cf_base.specs.declared.answers.AuxRecord.{AuxRecord}
use Rattle.cf_model.specs.Words.{comes_before, same}
use Rattle.cf_engine_queue.specs.Keys.{record_at}

-- texts

pub before_is : (xs ys : List ℕ) → comes_before xs ys ≡ is_lt (slice_cmp nat_cmp xs ys)
before_is [] [] = refl
before_is [] (y ∷ ys) = refl
before_is (x ∷ xs) [] = refl
before_is (x ∷ xs) (y ∷ ys) = step (ltb x y) (eqb x y) (slice_cmp nat_cmp xs ys) (comes_before xs ys) (before_is xs ys) where
  step : (b e : Bool) (o : Ordering) (v : Bool) → v ≡ is_lt o → (b || (e && v)) ≡ is_lt (ordering_then (cond b Less (cond e Equal Greater)) o)
  step true e o v h = refl
  step false true o v h = h
  step false false o v h = refl

is_less : (o : Ordering) → is_lt o ≡ true → o ≡ Less
is_less Less h = refl
is_less Equal h = let bad : false ≡ true = h in cc
is_less Greater h = let bad : false ≡ true = h in cc

pub before_goes_on : (a b c : List ℕ) → comes_before a b ≡ true → comes_before b c ≡ true → comes_before a c ≡ true
before_goes_on a b c h k =
    before_is a c
    ∙ ap is_lt (nat_list_cmp_total.trans a b c (is_less (slice_cmp nat_cmp a b) (sym (before_is a b) ∙ h)) (is_less (slice_cmp nat_cmp b c) (sym (before_is b c) ∙ k)))

pub same_bytes : (xs ys : List ℕ) → bytes_eq xs ys ≡ same xs ys
same_bytes [] [] = refl
same_bytes [] (y ∷ ys) = refl
same_bytes (x ∷ xs) [] = refl
same_bytes (x ∷ xs) (y ∷ ys) = ap (λ b. eqb x y && b) (same_bytes xs ys)

pub not_itself : (a : List ℕ) → comes_before a a ≡ false
not_itself [] = refl
not_itself (x ∷ xs) = rw (le-ltb x x (omega arith), eq-eqb x x refl) (not_itself xs)

both_true : (x y : Bool) → (x && y) ≡ true → (x ≡ true) × (y ≡ true)
both_true true y h = (refl, h)
both_true false y h = let bad : false ≡ true = h in cc

pub same_text : (a b : List ℕ) → same a b ≡ true → a ≡ b
same_text [] [] h = refl
same_text [] (y ∷ ys) h = let bad : false ≡ true = h in cc
same_text (x ∷ xs) [] h = let bad : false ≡ true = h in cc
same_text (x ∷ xs) (y ∷ ys) h = let p = both_true (x == y) (same xs ys) h in (λ i. eqb-true x y p.0 i ∷ same_text xs ys p.1 i)

-- what is found there

pub none_at : (key : List ℕ) (rs : List AuxRecord) → AllByRecursion (λ r. same r.key key ≡ false) rs → record_at key rs ≡ None
none_at key [] h = refl
none_at key (r ∷ rs) h = rw h.0 (none_at key rs h.1)
